-- What the files say of a run that is done.
use Rattle.std.proofs.Common.{◌≡◌, ℕ, ◌+◌, List, ◌∷◌, Option, Some, Result, Ok, Err, IfOk, OnOk, Vec, Global, refl, sym, ap, subst, ◌∙◌}
use Rattle.outside.specs.States.{Files}
use Rattle.ending.specs.declared.early.Early.{Early}
use Rattle.ending.specs.declared.status.Status.{Status}
use Rattle.ending.specs.declared.status.Status.TheVariants.{Done}
use Rattle.ending.specs.Plan.{Plan, Answers, LeadsTo, answered}
use Rattle.ending.proofs.Done.{said_undone, answer_done}
use Rattle.formad_words.specs.declared.words.Request.{Request}
use Rattle.program_stage.proofs.ProgramDone.{subject_done}
use Rattle.data_stages.proofs.DataDone.{args_done, seed_done, certificate_done, layout_done}
use Rattle.store_core.specs.declared.layout.Shape.{Shape}
use Rattle.store_core.specs.Places.{shapes_of}
use Rattle.meaning.specs.Stops.{Stop, at_end, trapped, over_statements, over_touches, over_words, conflicted, by_conflict}
use Rattle.forward_run.specs.Swept.{stop_in}
use Rattle.run_stages.specs.declared.inputs.Inputs.{Inputs}
use Rattle.run_stages.specs.Done.{AreInputs, IsRun}
use Rattle.run_stages.specs.Runs.{data_stage, inputs_stage, answer_stage, run_meaning, ticks_of_run, answer_text}
use Rattle.run_stages.specs.Stops.{stop_stage}

-- the inputs that a run has read
inputs_done : {files : Files} (request : Request) (rest : Inputs → Plan) {status : Status} {text : List ℕ} → LeadsTo files (inputs_stage request rest) status text → status ≡ Done
    → (inputs : Inputs) × AreInputs files request inputs × LeadsTo files (rest inputs) status text
unfolding inputs_stage data_stage
inputs_done request rest c h =
    let subject = subject_done request.program request.of request.wrt _ c h in
    let args = args_done request.data subject.0 _ subject.2 h in
    let seed = seed_done request.seed subject.0 args.1 request.of _ args.4 h in
    let placed = certificate_done request.certificate _ seed.4 h in
    let last = layout_done subject.0 args.1 _ placed h in (
      record { typed = subject.0; args = args.1; weights = seed.1; layout = shapes_of subject.0 args.1.entries },
      record {
        source = subject.1.source;
        bytes = args.0;
        seed = seed.0;
        program_file = subject.1.found;
        accepted = subject.1.accepted;
        dependent = subject.1.dependent;
        independent = subject.1.independent;
        data_file = args.2;
        are_args = args.3;
        seed_file = seed.2;
        are_weights = seed.3;
        places = refl;
      },
      last,
    )

stop_done : {files : Files} (shapes : List Shape) (stop : Stop) (rest : Unit {0} → Plan) {status : Status} {text : List ℕ}
    → LeadsTo files (stop_stage shapes stop rest) status text → status ≡ Done → (stop ≡ at_end) × LeadsTo files (rest tt) status text
stop_done shapes at_end rest c h = (refl, c)
stop_done shapes (trapped t) rest c h = absurd (said_undone c h)
stop_done shapes over_statements rest c h = absurd (said_undone c h)
stop_done shapes over_touches rest c h = absurd (said_undone c h)
stop_done shapes over_words rest c h = absurd (said_undone c h)
stop_done shapes (conflicted line clash) rest c h = absurd (said_undone c h)

-- a run whose answer is told, with its count of statement instances before it
answer_told : {files : Files} (request : Request) (inputs : Inputs) (lines : List ℕ → List ℕ)
    → stop_in by_conflict (run_meaning request inputs) ≡ at_end
    → LeadsTo files (answer_stage request inputs (λ t. Answers (lines t))) Done (lines (answer_text request inputs))
unfolding answer_stage
answer_told {files = files} request inputs lines e =
    let P : Stop → Type 0 = λ s. LeadsTo files (stop_stage inputs.layout s (λ _. Answers (lines (answer_text request inputs)))) Done (lines (answer_text request inputs)) in
    subst P (sym e) answered

answer_undone : {files : Files} (request : Request) (inputs : Inputs) (rest : List ℕ → Plan) {status : Status} {text : List ℕ}
    → LeadsTo files (answer_stage request inputs rest) status text → status ≡ Done
    → (stop_in by_conflict (run_meaning request inputs) ≡ at_end) × LeadsTo files (rest (answer_text request inputs)) status text
unfolding answer_stage
answer_undone request inputs rest c h = stop_done inputs.layout (stop_in by_conflict (run_meaning request inputs)) _ c h

-- a run whose inputs were found and that nothing stops, from its text and its count of statement instances
pub run_done : {files : Files} (request : Request) (found : Inputs) (text : List ℕ) (before after : ℕ)
    → ((rest : Inputs → Plan) (status : Status) (line : List ℕ) → LeadsTo files (rest found) status line → LeadsTo files (inputs_stage request rest) status line)
    → stop_in by_conflict (run_meaning request found) ≡ at_end
    → text ≡ answer_text request found → after ≡ before + ticks_of_run request found → IsRun files request text before after
run_done {files = files} request found text before after told ends wrote ticked =
    let rest : Inputs → Plan = λ inputs. answer_stage request inputs (λ t. Answers (ticks_of_run request inputs ∷ t)) in
    let line : List ℕ = ticks_of_run request found ∷ answer_text request found in
    let led : LeadsTo files (inputs_stage request rest) Done line = told rest Done line (answer_told request found (λ t. ticks_of_run request found ∷ t) ends) in
    let done = inputs_done request rest led refl in
    let last = answer_undone request done.0 _ done.2 refl in
    let same : ticks_of_run request done.0 ∷ answer_text request done.0 ≡ line = answer_done last.1 in
    let count : ticks_of_run request done.0 ≡ ticks_of_run request found = cc in
    let words : answer_text request done.0 ≡ answer_text request found = cc in
    record { inputs = done.0; given = done.1; ends = last.0; wrote = words ∙ sym wrote; ticked = ticked ∙ ap (λ n. before + n) (sym count) }

-- the same of whatever comes of the answer
pub run_told : (contents : Option Files) (request : Request) (found : Inputs) (result : Result (Vec ℕ Global) Early) (before after : ℕ)
    → ((files : Files) → contents ≡ Some files → (rest : Inputs → Plan) (status : Status) (line : List ℕ) → LeadsTo files (rest found) status line → LeadsTo files (inputs_stage request rest) status line)
    → IfOk result (λ text. stop_in by_conflict (run_meaning request found) ≡ at_end)
    → IfOk result (λ text. text.items ≡ answer_text request found) → OnOk result (after ≡ before + ticks_of_run request found)
    → IfOk result (λ text. (files : Files) → contents ≡ Some files → IsRun files request text.items before after)
run_told contents request found (Ok text) before after told ends wrote ticked = λ files e. run_done request found text.items before after (told files e) ends wrote ticked
run_told contents request found (Err early) before after told ends wrote ticked = tt

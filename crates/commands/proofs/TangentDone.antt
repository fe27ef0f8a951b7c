-- What is due for a run in a direction, and what the files say of one that is done.
use Rattle.std.proofs.Common.{◌≡◌, ℕ, ◌+◌, List, ◌∷◌, Result, Ok, Err, refl, sym, ap, subst, ◌∙◌}
use Rattle.outside.specs.States.{Files}
use Rattle.ending.specs.declared.early.Early.{Early}
use Rattle.ending.specs.Stage.{Continues, IsSaying, IsPart}
use Rattle.ending.specs.declared.status.Status.{Status}
use Rattle.ending.specs.declared.status.Status.TheVariants.{Done}
use Rattle.ending.specs.Plan.{Plan, Answers, Wants, LeadsTo, answered}
use Rattle.ending.proofs.Done.{said_undone, answer_done}
use Rattle.ending.proofs.Follow.{says_part, wants}
use Rattle.program_stage.proofs.ProgramDone.{program_done}
use Rattle.data_stages.proofs.DataDone.{args_done, direction_done, layout_done}
use Rattle.store_core.specs.Places.{shapes_of}
use Rattle.meaning.specs.declared.value.TrapAt.{TrapAt}
use Rattle.meaning.specs.Logs.{Traced}
use Rattle.meaning.specs.Sites.{Cells}
use Rattle.meaning.specs.Stops.{Stop, at_end, trapped, over_statements, over_touches, over_words, conflicted}
use Rattle.dual_meaning.specs.declared.statements.RunStop.{RunStop}
use Rattle.dual_meaning.specs.declared.statements.RunStop.TheVariants.{Trap, Statements, Memory}
use Rattle.dual_meaning.specs.Runs.{stop_of, ticks_of, Stops}
use Rattle.commands.specs.declared.directed.Directed.{Directed}
use Rattle.commands.specs.Done.{AreDirected, IsTangentOf}
use Rattle.commands.specs.Tangents.{directed_stage, directed_meaning, directed_text, stop_stage, say_run}

-- a run that ended early is said
pub stopped_part : {T : Type 0} (t : Traced TrapAt Cells) (stop : RunStop) (early : Early) (before after : ℕ) → Stops t stop before after → IsSaying (say_run stop) early →
    IsPart {T = T} (λ _. tt {0}) (stop_stage (stop_of t)) (Err early)
stopped_part t (Trap x) early before after h is = says_part is (λ rest. ap (λ s. stop_stage s rest) h.0)
stopped_part t Statements early before after h is = says_part is (λ rest. ap (λ s. stop_stage s rest) h.0)
stopped_part t Memory early before after h is = rw is wants

-- and one that comes to its end goes on
pub ended_part : {T : Type 0} (t : Traced TrapAt Cells) (value : T) → stop_of t ≡ at_end → IsPart {T = T} (λ _. tt {0}) (stop_stage (stop_of t)) (Ok value)
ended_part t value e = record {
  clear = λ h. h;
  told = λ files rest status text comes.
      let P : Stop → Type 0 = λ s. LeadsTo files (stop_stage s rest) status text in subst P (sym e) comes;
}

wants_undone : {files : Files} {status : Status} {text : List ℕ} → LeadsTo files Wants status text → ⊥
wants_undone c = elim c [ ]

pub stop_done : {files : Files} (stop : Stop) (rest : Unit {0} → Plan) {status : Status} {text : List ℕ} →
    LeadsTo files (stop_stage stop rest) status text → status ≡ Done → (stop ≡ at_end) × LeadsTo files (rest tt) status text
stop_done at_end rest c h = (refl, c)
stop_done (trapped t) rest c h = absurd (said_undone c h)
stop_done over_statements rest c h = absurd (said_undone c h)
stop_done over_touches rest c h = absurd (wants_undone c)
stop_done over_words rest c h = absurd (wants_undone c)
stop_done (conflicted line clash) rest c h = absurd (wants_undone c)

-- the inputs that a run in a direction has read
pub directed_done : {files : Files} (program values direction : List ℕ) (rest : Directed → Plan) {status : Status} {text : List ℕ} →
    LeadsTo files (directed_stage program values direction rest) status text → status ≡ Done →
    (inputs : Directed) × AreDirected files program values direction inputs × LeadsTo files (rest inputs) status text
unfolding directed_stage
directed_done program values direction rest c h =
    let typed = program_done program _ c h in
    let args = args_done values typed.1 _ typed.4 h in
    let along = direction_done direction typed.1 args.1 _ args.4 h in
    let last = layout_done typed.1 args.1 _ along.4 h in (
      record { typed = typed.1; args = args.1; direction = along.1; layout = shapes_of typed.1 args.1.entries },
      record {
        source = typed.0;
        bytes = args.0;
        along = along.0;
        program_file = typed.2;
        accepted = typed.3;
        data_file = args.2;
        are_args = args.3;
        direction_file = along.2;
        is_direction = along.3;
        places = refl;
      },
      last,
    )

-- a run in a direction whose inputs were found and that came to its end, from its text and its count of statement instances
pub tangent_done : {files : Files} (program values direction : List ℕ) (found : Directed) (text : List ℕ) (before after : ℕ) →
    Continues {T = Directed} (λ inputs. inputs) files (directed_stage program values direction) (Ok found) → stop_of (directed_meaning found) ≡ at_end →
    text ≡ directed_text found → after ≡ before + ticks_of (directed_meaning found) → IsTangentOf files program values direction text before after
tangent_done {files = files} program values direction found text before after told ends wrote ticked =
    let line : Directed → List ℕ = λ inputs. ticks_of (directed_meaning inputs) ∷ directed_text inputs in
    let rest : Directed → Plan = λ inputs. stop_stage (stop_of (directed_meaning inputs)) (λ _. Answers (line inputs)) in
    let P : Stop → Type 0 = λ s. LeadsTo files (stop_stage s (λ _. Answers (line found))) Done (line found) in
    let led : LeadsTo files (directed_stage program values direction rest) Done (line found) = told rest Done (line found) (subst P (sym ends) answered) in
    let done = directed_done program values direction rest led refl in
    let last = stop_done (stop_of (directed_meaning done.0)) (λ _. Answers (line done.0)) done.2 refl in
    let same : line done.0 ≡ line found = answer_done last.1 in
    let count : ticks_of (directed_meaning done.0) ≡ ticks_of (directed_meaning found) = cc in
    let words : directed_text done.0 ≡ directed_text found = cc in
    record { inputs = done.0; given = done.1; ends = last.0; wrote = words ∙ sym wrote; ticked = ticked ∙ ap (λ n. before + n) (sym count) }

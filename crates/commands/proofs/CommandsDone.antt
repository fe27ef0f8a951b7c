-- What the files say of a command that is done.
use Rattle.std.proofs.Common.{◌≡◌, ℕ, ◌+◌, Bool, true, false, if◌then◌else◌, is_none, List, ◌∷◌, length, Option, Some, Result, Ok, Err, IfOk, Vec, Global, refl, sym, ap, subst, ◌∙◌}
use Rattle.outside.specs.States.{Files, FolderState}
use Rattle.ending.specs.declared.early.Early.{Early}
use Rattle.ending.specs.Stage.{Continues, IsStage}
use Rattle.ending.specs.declared.status.Status.{Status}
use Rattle.ending.specs.declared.status.Status.TheVariants.{Done}
use Rattle.ending.specs.Plan.{Plan, Answers, LeadsTo, answered}
use Rattle.ending.proofs.Done.{said_undone, answer_done}
use Rattle.formad_words.specs.declared.words.Subject.{Subject}
use Rattle.formad_words.specs.declared.words.Replay.{Replay}
use Rattle.program_stage.proofs.ProgramDone.{subject_done}
use Rattle.data_stages.proofs.DataDone.{args_done, seed_done, unread_undone}
use Rattle.commands.specs.Plans.{load_stage}
use Rattle.commands.specs.Unbuilt.{subject_only, check_stage, steps_stage, force_stage, replay_stage}

pub describe_undone : {files : Files} (subject : Subject) {status : Status} {text : List ℕ} → LeadsTo files (subject_only subject Answers) status text → status ≡ Done → ⊥
unfolding subject_only
describe_undone subject c h = said_undone (subject_done subject.program subject.of subject.wrt _ c h).2 h

pub check_undone : {files : Files} (subject : Subject) (certificate : List ℕ) {status : Status} {text : List ℕ} → LeadsTo files (check_stage subject certificate Answers) status text → status ≡ Done → ⊥
unfolding check_stage
check_undone subject certificate c h = unread_undone certificate 4194304 _ _ (subject_done subject.program subject.of subject.wrt _ c h).2 h

steps_undone : {files : Files} (replay : Replay) {status : Status} {text : List ℕ} → LeadsTo files (steps_stage replay Answers) status text → status ≡ Done → ⊥
unfolding steps_stage
steps_undone replay c h =
    let subject = subject_done replay.program replay.of replay.wrt _ c h in
    let args = args_done replay.data subject.0 _ subject.2 h in
    unread_undone replay.steps 67108864 _ _ (seed_done replay.seed subject.0 args.1 replay.of _ args.4 h).4 h

force_undone : {files : Files} (free : Bool) (replay : Replay) {status : Status} {text : List ℕ} →
    LeadsTo files (if free then steps_stage replay Answers else force_stage replay Answers) status text → status ≡ Done → ⊥
unfolding force_stage
force_undone true replay c h = steps_undone replay c h
force_undone false replay c h = said_undone (subject_done replay.program replay.of replay.wrt _ c h).2 h

pub replay_undone : {files : Files} (replay : Replay) {status : Status} {text : List ℕ} → LeadsTo files (replay_stage replay Answers) status text → status ≡ Done → ⊥
unfolding replay_stage
replay_undone replay c h = force_undone (is_none replay.force) replay c h

pub load_undone : {files : Files} {status : Status} {text : List ℕ} → LeadsTo files (load_stage Answers) status text → status ≡ Done → ⊥
unfolding load_stage
load_undone c h = said_undone c h

-- a command that is never done gives no text
pub undone : {before after : FolderState} {stage : (List ℕ → Plan) → Plan} (result : Result (Vec ℕ Global) Early) → IsStage (λ text. text.items) before after stage result →
    ((files : Files) (text : List ℕ) → LeadsTo files (stage Answers) Done text → ⊥) → (Q : Files → List ℕ → Type 0) →
    IfOk result (λ text. (files : Files) → before.contents ≡ Some files → Q files text.items)
undone (Ok text) p never Q = λ files e. absurd (never files text.items (p.told files e Answers Done text.items answered))
undone (Err early) p never Q = tt

-- the stage of a replay, by whether a choice is forced
pub free_replay : {before after : FolderState} (replay : Replay) (result : Result (Vec ℕ Global) Early) → is_none replay.force ≡ true →
    IsStage (λ text. text.items) before after (steps_stage replay) result → IsStage (λ text. text.items) before after (replay_stage replay) result
unfolding replay_stage
free_replay {before = before} {after = after} replay result e p =
    let P : Bool → Type 0 = λ b. IsStage {T = Vec ℕ Global} (λ text. text.items) before after (λ rest. if b then steps_stage replay rest else force_stage replay rest) result in
    subst P (sym e) p

pub forced_replay : {before after : FolderState} (replay : Replay) (result : Result (Vec ℕ Global) Early) → is_none replay.force ≡ false →
    IsStage (λ text. text.items) before after (force_stage replay) result → IsStage (λ text. text.items) before after (replay_stage replay) result
unfolding replay_stage
forced_replay {before = before} {after = after} replay result e p =
    let P : Bool → Type 0 = λ b. IsStage {T = Vec ℕ Global} (λ text. text.items) before after (λ rest. if b then steps_stage replay rest else force_stage replay rest) result in
    subst P (sym e) p

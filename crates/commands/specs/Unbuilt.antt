-- The orders of refusals of the commands whose work isn't built yet: each ends where its work would begin.
use Rattle.std.specs.Prelude.{ℕ, Bool, List, is_none, codes, if◌then◌else◌}
use Rattle.ending.specs.Plan.{Plan}
use Rattle.formad_words.specs.declared.words.Subject.{Subject}
use Rattle.formad_words.specs.declared.words.Replay.{Replay}
use Rattle.program_stage.specs.Lines.{not_built_plan}
use Rattle.program_stage.specs.Programs.{subject_stage}
use Rattle.data_stages.specs.Files.{args_stage, seed_stage}
use Rattle.data_stages.specs.Later.{unread_stage}

-- `report`: the program and its names
unfoldable pub subject_only : Subject → (List ℕ → Plan) → Plan
subject_only subject rest = subject_stage subject.program subject.of subject.wrt (λ program. not_built_plan)

-- `check`: the program and its names, and the certificate
unfoldable pub check_stage : Subject → List ℕ → (List ℕ → Plan) → Plan
check_stage subject certificate rest =
    subject_stage subject.program subject.of subject.wrt (λ program.
    unread_stage certificate 4194304 (codes "limit certificate 4194304\n") (λ _. not_built_plan))

-- `replay` as it stands: the program and its names, the data file, the seed file and the steps
unfoldable pub steps_stage : Replay → (List ℕ → Plan) → Plan
steps_stage replay rest =
    subject_stage replay.program replay.of replay.wrt (λ program.
    args_stage replay.data program (λ args.
    seed_stage replay.seed program args replay.of (λ weights.
    unread_stage replay.steps 67108864 (codes "limit data 67108864\n") (λ _. not_built_plan))))

-- with a forced choice, which is judged before the data
unfoldable pub force_stage : Replay → (List ℕ → Plan) → Plan
force_stage replay rest = subject_stage replay.program replay.of replay.wrt (λ program. not_built_plan)

unfoldable pub replay_stage : Replay → (List ℕ → Plan) → Plan
replay_stage replay rest = if is_none replay.force then steps_stage replay rest else force_stage replay rest

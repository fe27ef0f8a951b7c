-- What is due for a command.
use Rattle.std.specs.Prelude.{ℕ, List}
use Rattle.ending.specs.Plan.{Plan, Answers}
use Rattle.formad_words.specs.declared.words.Words.{Words}
use Rattle.formad_words.specs.declared.words.Words.TheVariants as words
use Rattle.program_stage.specs.Lines.{not_built_plan}
use Rattle.adjoint_stage.specs.Adjoints.{adjoint_stage}
use Rattle.certificate_stages.specs.Certificates.{certificate_stage}
use Rattle.run_stages.specs.Runs.{run_stage}
use Rattle.commands.specs.Tangents.{tangent_stage}
use Rattle.commands.specs.Unbuilt.{subject_only, check_stage, replay_stage}

-- `load` has no file, and isn't built yet
unfoldable pub load_stage : (List ℕ → Plan) → Plan
load_stage rest = not_built_plan

abbrev pub command_stage : Words → (List ℕ → Plan) → Plan
command_stage (words.Adjoint subject) = adjoint_stage subject.program subject.of subject.wrt
command_stage (words.Prove subject) = certificate_stage subject.program subject.of subject.wrt
command_stage (words.Check subject certificate) = check_stage subject certificate
command_stage (words.Report subject) = subject_only subject
command_stage (words.Tangent program values direction) = tangent_stage program values direction
command_stage (words.Run request) = run_stage request
command_stage (words.Replay replay) = replay_stage replay
command_stage (words.Load edges workers) = load_stage

-- the order of refusals of a command, and its answer
abbrev pub command_plan : Words → Plan
command_plan w = command_stage w Answers

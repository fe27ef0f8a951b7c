-- The order of refusals of `run`, and its answer.
use Rattle.std.specs.Prelude.{ℕ, List}
use Rattle.ending.specs.Plan.{Plan}
use Rattle.fl_ast.specs.declared.stmt.Program.{Program}
use Rattle.store_core.specs.declared.layout.Shape.{Shape}
use Rattle.store_core.specs.declared.values.Args.{Args}
use Rattle.meaning.specs.declared.value.TrapAt.{TrapAt}
use Rattle.meaning.specs.Logs.{Traced}
use Rattle.meaning.specs.Sites.{Cells}
use Rattle.meaning.specs.Stops.{by_conflict}
use Rattle.forward_run.specs.Swept.{stop_in, ticks_in}
use Rattle.formad_words.specs.declared.words.Request.{Request}
use Rattle.program_stage.specs.Programs.{subject_stage}
use Rattle.data_stages.specs.Files.{args_stage, seed_stage}
use Rattle.data_stages.specs.Later.{certificate_stage}
use Rattle.data_stages.specs.Layouts.{layout_stage}
use Rattle.answers.specs.Sweeps.{forward_run, run_text}
use Rattle.run_stages.specs.declared.inputs.Inputs.{Inputs}
use Rattle.run_stages.specs.Stops.{stop_stage}

-- the certificate, then the number of places
unfoldable pub data_stage : Request → Program → Args → (List Shape → Plan) → Plan
data_stage request program args rest =
    certificate_stage request.certificate (λ _.
    layout_stage program args rest)

-- the program and its names, the data file, the seed file, the certificate, the number of places
unfoldable pub inputs_stage : Request → (Inputs → Plan) → Plan
inputs_stage request rest =
    subject_stage request.program request.of request.wrt (λ program.
    args_stage request.data program (λ args.
    seed_stage request.seed program args request.of (λ weights.
    data_stage request program args (λ layout.
    rest (record { typed = program; args = args; weights = weights; layout = layout })))))

-- the run of the program from its arguments, which keeps what the names asked for need
abbrev pub run_meaning : Request → Inputs → Traced TrapAt Cells
run_meaning request inputs = forward_run inputs.typed inputs.layout inputs.args request.of request.wrt

abbrev pub ticks_of_run : Request → Inputs → ℕ
ticks_of_run request inputs = ticks_in by_conflict (run_meaning request inputs)

-- the text that the inputs of a run lead to
abbrev pub answer_text : Request → Inputs → List ℕ
answer_text request inputs = run_text inputs.typed inputs.layout inputs.args inputs.weights request.of request.wrt

-- the first stop of the run, then the answer
unfoldable pub answer_stage : Request → Inputs → (List ℕ → Plan) → Plan
answer_stage request inputs rest =
    stop_stage inputs.layout (stop_in by_conflict (run_meaning request inputs)) (λ _.
    rest (answer_text request inputs))

unfoldable pub run_stage : Request → (List ℕ → Plan) → Plan
run_stage request rest = inputs_stage request (λ inputs. answer_stage request inputs rest)

-- The order of refusals of `tangent`, and its answer.
use Rattle.std.specs.Prelude.{ℕ, List, Some, None}
use Rattle.ending.specs.declared.verdict.Verdict.TheVariants as verdict
use Rattle.ending.specs.Plan.{Plan, Says, Wants, Saying}
use Rattle.fl_ast.specs.declared.stmt.Program.{Program}
use Rattle.fl_ast.specs.Tree.{program_tree}
use Rattle.store_core.specs.Filled.{place_words}
use Rattle.meaning.specs.declared.value.TrapAt.{TrapAt}
use Rattle.meaning.specs.Logs.{Traced}
use Rattle.meaning.specs.Sites.{Cells}
use Rattle.meaning.specs.Stops.{Stop, at_end, trapped, over_statements, over_touches, over_words, conflicted}
use Rattle.meaning.specs.Programs.{meaning, no_pushes}
use Rattle.dual_meaning.specs.declared.statements.RunStop.{RunStop}
use Rattle.dual_meaning.specs.declared.statements.RunStop.TheVariants.{Trap, Statements, Memory}
use Rattle.dual_meaning.specs.Runs.{stop_of}
use Rattle.program_stage.specs.Programs.{program_stage}
use Rattle.data_stages.specs.Files.{args_stage, direction_stage}
use Rattle.data_stages.specs.Layouts.{layout_stage}
use Rattle.answers.specs.Tangents.{tangent_text}
use Rattle.run_stages.specs.Stops.{cause_text, trap_line, statements_line}
use Rattle.commands.specs.declared.directed.Directed.{Directed}

-- the program, the data file, the direction file, the number of places
unfoldable pub directed_stage : (program values direction : List ℕ) → (Directed → Plan) → Plan
directed_stage program values direction rest =
    program_stage program (λ typed.
    args_stage values typed (λ args.
    direction_stage direction typed args (λ along.
    layout_stage typed args (λ layout.
    rest (record { typed = typed; args = args; direction = along; layout = layout })))))

-- what is said of a run that ended early
abbrev pub say_run : RunStop → Saying
say_run (Trap t) = Some (verdict.Trapped, trap_line t.line (cause_text t.cause))
say_run Statements = Some (verdict.OverLimit, statements_line)
say_run Memory = None

-- a run that comes to its end goes on, and a trap or too many statement instances are said; there is no other stop where only
-- these are looked at
abbrev pub stop_stage : Stop → (Unit {0} → Plan) → Plan
stop_stage at_end rest = rest tt
stop_stage (trapped t) rest = Says verdict.Trapped (trap_line t.line (cause_text t.cause))
stop_stage over_statements rest = Says verdict.OverLimit statements_line
stop_stage over_touches rest = Wants
stop_stage over_words rest = Wants
stop_stage (conflicted line clash) rest = Wants

-- the run of the program from its arguments, in the direction
abbrev pub directed_meaning : Directed → Traced TrapAt Cells
directed_meaning d = meaning (program_tree d.typed) d.layout no_pushes (place_words d.layout d.args.entries) (place_words d.layout d.direction.entries)

-- the text that the inputs of a run in a direction lead to
abbrev pub directed_text : Directed → List ℕ
directed_text d = tangent_text d.typed d.layout d.args d.direction

unfoldable pub tangent_stage : (program values direction : List ℕ) → (List ℕ → Plan) → Plan
tangent_stage program values direction rest =
    directed_stage program values direction (λ inputs.
    stop_stage (stop_of (directed_meaning inputs)) (λ _. rest (directed_text inputs)))

use Rattle.std.proofs.Common.{subst}
use Rattle.meaning.specs.declared.value.TrapAt.{TrapAt}
use Rattle.meaning.specs.Logs.{Traced}
use Rattle.meaning.specs.Sites.{Cells}
use Rattle.meaning.specs.Programs.{no_pushes}
use Rattle.dual_meaning.specs.Runs.{Ends}
use Rattle.dual_meaning.proofs.Directions.{same_run}
use Rattle.dual_meaning.proofs.along.run_along.Goals as goal

pub returns : goal.returns
returns g c =
    subst (λ (t : Traced TrapAt Cells). Ends (λ end. end.items) t c.run_on.result c.args.steps.now c.run_on.new.steps)
    (same_run c.args.program.now c.as_slice-decls.result.now c.as_slice.result.now c.as_slice-args.result.now c.args.layout.now c.args.words.now c.args.along.now c.in_ok-cells.cells.items
    c.as_slice-decls.ensures c.as_slice.ensures c.as_slice-args.ensures c.in_ok-cells.ensures)
    (c.run_on.ensures no_pushes)

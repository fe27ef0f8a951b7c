use Rattle.std.proofs.Common.{ap}
use Rattle.fl_ast.specs.Tree.{stmt_trees}
use Rattle.resolved.specs.SlotTables.{Names}
use Rattle.dual_meaning.proofs.Placed.{never_unplaced}
use Rattle.forward_run.proofs.opening.stmts_of.Goals as goal

pub unreachable-requires : goal.unreachable-requires
unreachable-requires c =
    never_unplaced c.args.decls.now c.args.layout.now c.args.table.now.0 (stmt_trees c.args.body.now) (ap (λ (n : Names). n.0) c.requires.named) c.requires.kinded
    (rw c.in-Err-Unplaced.field-0-is at c.in-Err-Unplaced.ensures)

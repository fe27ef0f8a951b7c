use Rattle.std.specs.Prelude.{take, map}
use Rattle.undo_steps.specs.UndoSteps.{factor_tree}
use Rattle.reverse_sweep.specs.Machine.{product}
use Rattle.reverse_state.specs.Holding.{Gives}
use Rattle.reverse_run.proofs.stores.product.Given as goal

abbrev pub invariant-loop-each : goal.invariant-loop-each
invariant-loop-each g l = Gives l.initial.run l.run l.product (product l.table l.initial.run.shared (map factor_tree (take l.each-index l.factors)) l.initial.product)

use Rattle.std.specs.Prelude.{take, map}
use Rattle.sweep_steps.specs.Steps.{term_tree}
use Rattle.reverse_sweep.specs.Machine.{rest_sum}
use Rattle.reverse_state.specs.Holding.{Gives}
use Rattle.reverse_run.proofs.stores.turned_sum.Given as goal

abbrev pub invariant-loop-term : goal.invariant-loop-term
invariant-loop-term g l = Gives l.initial.run l.run l.sum (rest_sum l.table l.initial.run.shared (map term_tree (take l.term-index l.terms)) 0)

use Rattle.std.proofs.Common.{subst}
use Rattle.reverse_sweep.specs.Reversing.{own_value_set}
use Rattle.reverse_state.specs.Holding.{Leaves, on_local}
use Rattle.reverse_run.proofs.bounds.set_variable.Goals as goal

pub returns : goal.returns
returns g c = subst (λ x. Leaves c.args.run.now c.set_own_value.new.self (on_local (own_value_set c.args.run.now.shared c.args.place x))) c.variable_word.ensures c.set_own_value.ensures

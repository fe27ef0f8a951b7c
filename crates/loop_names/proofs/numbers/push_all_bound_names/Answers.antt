use Rattle.adjoint_rules.specs.Clauses.{bound_names}
use Rattle.loop_names.proofs.Loops.{turned}
use Rattle.loop_names.proofs.numbers.push_all_bound_names.Goals as goal

pub loop-number-preserved : goal.loop-number-preserved
loop-number-preserved c =
    turned bound_names c.args.numbers.now c.loop-number.number-index 0 c.loop-number.names c.push_bound_names.new.names c.args.names.now
    c.loop-number-test.true c.in_ok-push_bound_names.ensures c.loop-number.invariant

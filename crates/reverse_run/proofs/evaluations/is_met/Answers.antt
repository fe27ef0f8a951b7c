use Rattle.sweep_trees.specs.Split.{test_tree}
use Rattle.reverse_state.proofs.Placing.{gives_test}
use Rattle.reverse_run.proofs.evaluations.is_met.Goals as goal

pub returns : goal.returns
returns g c = gives_test c.args.run.now c.holds.new.access c.holds.result c.args.table.now (test_tree c.args.test.now) c.holds.ensures.does

use Rattle.sweep_trees.specs.Split.{ring_tree}
use Rattle.reverse_state.proofs.Placing.{gives_ring}
use Rattle.reverse_run.proofs.evaluations.value.Goals as goal

pub returns : goal.returns
returns g c = gives_ring c.args.run.now c.ring.new.access c.ring.result c.args.table.now (ring_tree c.args.code.now) c.ring.ensures.does

use Rattle.sweep_trees.specs.Split.{spot_tree}
use Rattle.reverse_state.proofs.Placing.{gives_place}
use Rattle.reverse_run.proofs.evaluations.place_of.Goals as goal

pub returns : goal.returns
returns g c = gives_place c.args.run.now c.locate.new.access c.locate.result c.args.table.now (spot_tree c.args.spot.now) c.locate.ensures.does

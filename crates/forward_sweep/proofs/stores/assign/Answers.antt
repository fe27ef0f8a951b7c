use Rattle.sweep_trees.specs.Split.{spot_tree}
use Rattle.split_trees.specs.Codes.{code_tree}
use Rattle.sweep_evaluation.specs.Machine.{spot_place}
use Rattle.sweep_law.specs.Telling.{told}
use Rattle.forward_state.proofs.Noting.{does_leaves}
use Rattle.forward_sweep.specs.Machine.{code_value, put}
use Rattle.forward_sweep.proofs.stores.assign.Goals as goal

pub returns-clause-left : goal.returns-clause-left
returns-clause-left g c =
    does_leaves (λ f. f.run) (λ f. g.W.Watch.stands_for f.watch) (λ f. g.W.Watch.places f.watch) g.W.Watch.judge c.args.run.now c.code_value-value.new.run c.put.new.run c.code_value-value.result (code_value c.args.table.now (code_tree c.args.value.now))
    (λ v s. let p = spot_place told c.args.table.now (spot_tree c.args.target.now) s in put c.args.table.now c.args.pushes (spot_tree c.args.target.now) v p.out p.state) c.code_value-value.ensures.does
    (does_leaves (λ f. f.run) (λ f. g.W.Watch.stands_for f.watch) (λ f. g.W.Watch.places f.watch) g.W.Watch.judge c.code_value-value.new.run c.locate-place.new.access c.put.new.run c.locate-place.result (spot_place told c.args.table.now (spot_tree c.args.target.now))
    (λ p s. put c.args.table.now c.args.pushes (spot_tree c.args.target.now) c.code_value-value.result p s) c.locate-place.ensures.does c.put.ensures.left)

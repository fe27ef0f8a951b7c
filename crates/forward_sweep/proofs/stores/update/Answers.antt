use Rattle.std.specs.Prelude.{map}
use Rattle.sweep_trees.specs.Split.{spot_tree}
use Rattle.sweep_steps.specs.Steps.{term_tree}
use Rattle.sweep_evaluation.specs.Machine.{spot_place}
use Rattle.sweep_law.specs.Telling.{told}
use Rattle.forward_state.proofs.Noting.{does_leaves}
use Rattle.forward_sweep.specs.Machine.{terms_sum, add}
use Rattle.forward_sweep.proofs.stores.update.Goals as goal

pub returns-clause-left : goal.returns-clause-left
returns-clause-left g c =
    does_leaves (λ f. f.run) (λ f. g.W.Watch.stands_for f.watch) (λ f. g.W.Watch.places f.watch) g.W.Watch.judge c.args.run.now c.terms_sum-sum.new.run c.add.new.run c.terms_sum-sum.result (terms_sum c.args.table.now (map term_tree c.args.terms.now) 0)
    (λ x s. let p = spot_place told c.args.table.now (spot_tree c.args.target.now) s in add c.args.kind (spot_tree c.args.target.now) x p.out p.state) c.terms_sum-sum.ensures.does
    (does_leaves (λ f. f.run) (λ f. g.W.Watch.stands_for f.watch) (λ f. g.W.Watch.places f.watch) g.W.Watch.judge c.terms_sum-sum.new.run c.locate-place.new.access c.add.new.run c.locate-place.result (spot_place told c.args.table.now (spot_tree c.args.target.now))
    (λ p s. add c.args.kind (spot_tree c.args.target.now) c.terms_sum-sum.result p s) c.locate-place.ensures.does c.add.ensures.left)

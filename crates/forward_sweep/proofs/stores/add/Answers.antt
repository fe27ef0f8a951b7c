use Rattle.std.proofs.Common.{subst}
use Rattle.meaning.specs.Expressions.{content}
use Rattle.dual_evaluation.specs.declared.stop.Halt.TheVariants.{Bounds}
use Rattle.sweep_trees.specs.Split.{spot_tree}
use Rattle.sweep_evaluation.specs.Machine.{is_accessed as accessed_of}
use Rattle.sweep_law.specs.Telling.{told}
use Rattle.forward_state.specs.Holding.{Leaves}
use Rattle.forward_state.proofs.Noting.{leaves_held, stop_leaves}
use Rattle.forward_sweep.specs.Machine.{add_at}
use Rattle.forward_sweep.proofs.stores.add.Goals as goal

pub returns-in-None-clause-left : goal.returns-in-None-clause-left
returns-in-None-clause-left g c =
    rw c.in-None.is (subst (λ n. Leaves c.args.run.now.run c.stop.new.self.run (g.W.Watch.stands_for c.args.run.now.watch) (g.W.Watch.stands_for c.stop.new.self.watch) (g.W.Watch.places c.args.run.now.watch) (g.W.Watch.places c.stop.new.self.watch) g.W.Watch.judge (λ s. told.stopped s (Bounds n))) c.spot_slot-slot.ensures
    (stop_leaves (λ f. f.run) (λ f. g.W.Watch.stands_for f.watch) (λ f. g.W.Watch.places f.watch) g.W.Watch.judge c.args.run.now c.stop.new.self c.stop.result (λ s. told.stopped s (Bounds c.spot_slot-slot.result)) c.stop.ensures.does))

pub returns-in-Some-clause-left : goal.returns-in-Some-clause-left
returns-in-Some-clause-left g c =
    rw c.in-Some.is (subst (λ n. Leaves c.args.run.now.run c.add_at.new.run.run (g.W.Watch.stands_for c.args.run.now.watch) (g.W.Watch.stands_for c.add_at.new.run.watch) (g.W.Watch.places c.args.run.now.watch) (g.W.Watch.places c.add_at.new.run.watch) g.W.Watch.judge (λ s. add_at (accessed_of (spot_tree c.args.target.now)) c.args.kind c.args.sum n c.in-Some.place (content s.kept.cells c.in-Some.place) s)) c.spot_slot-slot.ensures
    (subst (λ b. Leaves c.args.run.now.run c.add_at.new.run.run (g.W.Watch.stands_for c.args.run.now.watch) (g.W.Watch.stands_for c.add_at.new.run.watch) (g.W.Watch.places c.args.run.now.watch) (g.W.Watch.places c.add_at.new.run.watch) g.W.Watch.judge (λ s. add_at b c.args.kind c.args.sum c.spot_slot-slot.result c.in-Some.place (content s.kept.cells c.in-Some.place) s)) c.is_accessed.ensures
    (leaves_held (λ v s. add_at c.is_accessed.result c.args.kind c.args.sum c.spot_slot-slot.result c.in-Some.place v s) (λ cells. content cells c.in-Some.place) c.args.run.now.run c.add_at.new.run.run
    (g.W.Watch.stands_for c.args.run.now.watch) (g.W.Watch.stands_for c.add_at.new.run.watch) (g.W.Watch.places c.args.run.now.watch) (g.W.Watch.places c.add_at.new.run.watch) g.W.Watch.judge
    (subst (λ v. Leaves c.args.run.now.run c.add_at.new.run.run (g.W.Watch.stands_for c.args.run.now.watch) (g.W.Watch.stands_for c.add_at.new.run.watch) (g.W.Watch.places c.args.run.now.watch) (g.W.Watch.places c.add_at.new.run.watch) g.W.Watch.judge (add_at c.is_accessed.result c.args.kind c.args.sum c.spot_slot-slot.result c.in-Some.place v)) c.content-content.ensures c.add_at.ensures.left))))

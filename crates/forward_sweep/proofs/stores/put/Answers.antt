use Rattle.std.proofs.Common.{rules, ◌≡◌, subst}
use Rattle.meaning.specs.Values.{as_kind}
use Rattle.dual_evaluation.specs.declared.stop.Halt.TheVariants.{Bounds}
use Rattle.sweep_trees.specs.Split.{spot_tree}
use Rattle.sweep_evaluation.specs.Machine.{spot_slot as slot_of, is_accessed as accessed_of}
use Rattle.sweep_law.specs.Telling.{told}
use Rattle.forward_state.specs.Holding.{Leaves}
use Rattle.forward_state.proofs.Noting.{stop_leaves}
use Rattle.forward_sweep.specs.Machine.{put_at, slot_kind}
use Rattle.forward_sweep.proofs.stores.put.Goals as goal

pub returns-in-None-clause-left : goal.returns-in-None-clause-left
returns-in-None-clause-left g c =
    rw c.in-None.is (subst (λ n. Leaves c.args.run.now.run c.stop.new.self.run (g.W.Watch.stands_for c.args.run.now.watch) (g.W.Watch.stands_for c.stop.new.self.watch) (g.W.Watch.places c.args.run.now.watch) (g.W.Watch.places c.stop.new.self.watch) g.W.Watch.judge (λ s. told.stopped s (Bounds n))) c.spot_slot-slot.ensures
    (stop_leaves (λ f. f.run) (λ f. g.W.Watch.stands_for f.watch) (λ f. g.W.Watch.places f.watch) g.W.Watch.judge c.args.run.now c.stop.new.self c.stop.result (λ s. told.stopped s (Bounds c.spot_slot-slot.result)) c.stop.ensures.does))

pub returns-in-Some-clause-left : goal.returns-in-Some-clause-left
returns-in-Some-clause-left g c =
    let e : c.as_kind-value.result ≡ as_kind (slot_kind c.args.table.now (slot_of (spot_tree c.args.target.now))) c.args.value = search (rules) in
    rw c.in-Some.is (subst (λ v. Leaves c.args.run.now.run c.put_at.new.run.run (g.W.Watch.stands_for c.args.run.now.watch) (g.W.Watch.stands_for c.put_at.new.run.watch) (g.W.Watch.places c.args.run.now.watch) (g.W.Watch.places c.put_at.new.run.watch) g.W.Watch.judge (put_at (accessed_of (spot_tree c.args.target.now)) c.args.pushes v c.in-Some.place)) e
    (subst (λ b. Leaves c.args.run.now.run c.put_at.new.run.run (g.W.Watch.stands_for c.args.run.now.watch) (g.W.Watch.stands_for c.put_at.new.run.watch) (g.W.Watch.places c.args.run.now.watch) (g.W.Watch.places c.put_at.new.run.watch) g.W.Watch.judge (put_at b c.args.pushes c.as_kind-value.result c.in-Some.place)) c.is_accessed.ensures c.put_at.ensures.left))

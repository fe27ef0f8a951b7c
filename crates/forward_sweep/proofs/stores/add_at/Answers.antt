use Rattle.std.proofs.Common.{rules, ◌≡◌, subst, Some}
use Rattle.meaning.specs.Values.{as_dual}
use Rattle.ring_core.specs.Ring.{ring_add}
use Rattle.dual_evaluation.specs.declared.stop.Halt.TheVariants.{Unset}
use Rattle.sweep_law.specs.Telling.{told}
use Rattle.forward_state.specs.Holding.{Leaves}
use Rattle.forward_state.specs.Steps.{set_at, touched_if}
use Rattle.forward_state.proofs.Noting.{leaves_both, stop_leaves}
use Rattle.forward_sweep.specs.Machine.{plain}
use Rattle.forward_sweep.proofs.stores.add_at.Goals as goal

pub returns-in-None-clause-left : goal.returns-in-None-clause-left
returns-in-None-clause-left g c = rw c.in-None.is (stop_leaves (λ f. f.run) (λ f. g.W.Watch.stands_for f.watch) (λ f. g.W.Watch.places f.watch) g.W.Watch.judge c.args.run.now c.stop.new.self c.stop.result (λ s. told.stopped s (Unset c.args.slot)) c.stop.ensures.does)

pub returns-in-Some-clause-left : goal.returns-in-Some-clause-left
returns-in-Some-clause-left g c =
    let e : c.plain.result ≡ plain (ring_add (as_dual c.in-Some.value).value c.args.sum) = search (rules) in
    rw c.in-Some.is (leaves_both (touched_if c.args.accessed c.args.place c.args.kind) (λ s. set_at s c.args.place (Some (plain (ring_add (as_dual c.in-Some.value).value c.args.sum)))) c.touch_if.ensures.left
    (subst (λ v. Leaves c.touch_if.new.self.run c.set.new.self.run (g.W.Watch.stands_for c.touch_if.new.self.watch) (g.W.Watch.stands_for c.set.new.self.watch) (g.W.Watch.places c.touch_if.new.self.watch) (g.W.Watch.places c.set.new.self.watch) g.W.Watch.judge (λ s. set_at s c.args.place (Some v))) e c.set.ensures.left))

use Rattle.std.proofs.Common.{subst, Some, refl}
use Rattle.meaning.specs.declared.value.Value.TheVariants.{Index}
use Rattle.forward_state.specs.Holding.{Leaves}
use Rattle.forward_state.specs.Steps.{pushed}
use Rattle.forward_state.proofs.Noting.{leaves_both}
use Rattle.forward_sweep.proofs.Bounds.{back}
use Rattle.forward_sweep.proofs.rounds.push_bounds.Goals as goal

pub returns-clause-left : goal.returns-clause-left
returns-clause-left g c =
    leaves_both (λ s. pushed (pushed s (Some (Index c.args.turns.first))) (Some (Index c.args.turns.last))) (λ s. pushed s (Some (Index c.args.turns.step)))
    (leaves_both (λ s. pushed s (Some (Index c.args.turns.first))) (λ s. pushed s (Some (Index c.args.turns.last)))
    (subst (λ z. Leaves c.args.run.now.run c.push_number.new.run.run (g.W.Watch.stands_for c.args.run.now.watch) (g.W.Watch.stands_for c.push_number.new.run.watch) (g.W.Watch.places c.args.run.now.watch) (g.W.Watch.places c.push_number.new.run.watch) g.W.Watch.judge (λ s. pushed s (Some (Index z)))) (back c.args.turns.first c.args.turns.first refl c.requires.numbers.first) c.push_number.ensures.left)
    (subst (λ z. Leaves c.push_number.new.run.run c.push_number-2.new.run.run (g.W.Watch.stands_for c.push_number.new.run.watch) (g.W.Watch.stands_for c.push_number-2.new.run.watch) (g.W.Watch.places c.push_number.new.run.watch) (g.W.Watch.places c.push_number-2.new.run.watch) g.W.Watch.judge (λ s. pushed s (Some (Index z)))) (back c.args.turns.last c.args.turns.last refl c.requires.numbers.last) c.push_number-2.ensures.left))
    (subst (λ z. Leaves c.push_number-2.new.run.run c.push_number-3.new.run.run (g.W.Watch.stands_for c.push_number-2.new.run.watch) (g.W.Watch.stands_for c.push_number-3.new.run.watch) (g.W.Watch.places c.push_number-2.new.run.watch) (g.W.Watch.places c.push_number-3.new.run.watch) g.W.Watch.judge (λ s. pushed s (Some (Index z)))) (back c.args.turns.step c.args.turns.step refl c.requires.numbers.step) c.push_number-3.ensures.left)

use Rattle.std.proofs.Common.{subst, Some, w32, ◌∙◌}
use Rattle.std.proofs.lemmas.Int.{to_z-of_z}
use Rattle.meaning.specs.declared.value.Value.TheVariants.{Index}
use Rattle.forward_state.specs.Holding.{Leaves}
use Rattle.forward_state.specs.Steps.{pushed}
use Rattle.forward_sweep.proofs.rounds.push_number.Goals as goal

pub returns-clause-left : goal.returns-clause-left
returns-clause-left g c =
    subst (λ z. Leaves c.args.run.now.run c.push.new.self.run (g.W.Watch.stands_for c.args.run.now.watch) (g.W.Watch.stands_for c.push.new.self.watch) (g.W.Watch.places c.args.run.now.watch) (g.W.Watch.places c.push.new.self.watch) g.W.Watch.judge (λ s. pushed s (Some (Index z)))) (c.of.ensures ∙ to_z-of_z w32 c.args.number c.ranges.number) c.push.ensures.left

use Rattle.std.proofs.Common.{rules, ◌≡◌, ap, sym, subst, ◌∙◌, true, Some}
use Rattle.meaning.specs.declared.value.Value.TheVariants.{Index}
use Rattle.meaning.specs.Expressions.{content}
use Rattle.meaning.specs.Statements.{content_at}
use Rattle.forward_state.specs.Holding.{Leaves}
use Rattle.forward_state.specs.Steps.{set_at, pushed, pushed_if}
use Rattle.forward_state.proofs.Noting.{leaves_held}
use Rattle.forward_state.proofs.forward.Forward.set_number.Goals as goal

pub returns-in-Some-clause-left : goal.returns-in-Some-clause-left
returns-in-Some-clause-left g c = rw c.in-Some.is (subst (λ z. Leaves c.args.self.now.run c.set.new.self.run (g.W.Watch.stands_for c.args.self.now.watch) (g.W.Watch.stands_for c.set.new.self.watch) (g.W.Watch.places c.args.self.now.watch)
    (g.W.Watch.places c.set.new.self.watch) g.W.Watch.judge (λ s. set_at s c.in-Some.place (Some (Index z)))) (search (rules)) c.set.ensures.left)

use Rattle.std.proofs.Common.{rules, ◌≡◌, ap, sym, ◌∙◌, true, Some}
use Rattle.meaning.specs.declared.value.Value.TheVariants.{Index}
use Rattle.meaning.specs.Expressions.{content}
use Rattle.meaning.specs.Statements.{content_at}
use Rattle.forward_state.specs.Holding.{Leaves}
use Rattle.forward_state.specs.Steps.{set_at, pushed, pushed_if}
use Rattle.forward_state.proofs.Noting.{leaves_held}
use Rattle.forward_state.proofs.forward.Forward.push_scalar.Goals as goal

pub returns-then-pushes-clause-left : goal.returns-then-pushes-clause-left
returns-then-pushes-clause-left g c =
    rw c.if-pushes.true (leaves_held (λ v s. pushed s v) (λ cells. content_at cells c.args.place) c.args.self.now.run c.push.new.self.run (g.W.Watch.stands_for c.args.self.now.watch) (g.W.Watch.stands_for c.push.new.self.watch)
    (g.W.Watch.places c.args.self.now.watch) (g.W.Watch.places c.push.new.self.watch) g.W.Watch.judge
    (let e : c.cell_at-content.result ≡ content_at c.args.self.now.run.cells.items c.args.place = search (rules) in rw (sym e) c.push.ensures.left))

use Rattle.std.proofs.Common.{rules, ◌≡◌, ap, sym, ◌∙◌, true, Some}
use Rattle.meaning.specs.declared.value.Value.TheVariants.{Index}
use Rattle.meaning.specs.Expressions.{content}
use Rattle.meaning.specs.Statements.{content_at}
use Rattle.forward_state.specs.Holding.{Leaves}
use Rattle.forward_state.specs.Steps.{set_at, pushed, pushed_if}
use Rattle.forward_state.proofs.Noting.{leaves_held}
use Rattle.forward_state.proofs.forward.Forward.unset.Goals as goal

pub returns-in-Some-clause-left : goal.returns-in-Some-clause-left
returns-in-Some-clause-left g c = rw c.in-Some.is c.set.ensures.left

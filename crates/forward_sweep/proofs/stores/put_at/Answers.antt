use Rattle.std.proofs.Common.{Some}
use Rattle.fl_types.specs.declared.access.AccessKind.TheVariants.{Write}
use Rattle.forward_state.specs.Steps.{set_at, touched_if, pushed_old}
use Rattle.forward_state.proofs.Noting.{leaves_both}
use Rattle.forward_sweep.proofs.stores.put_at.Goals as goal

pub returns-clause-left : goal.returns-clause-left
returns-clause-left g c =
    leaves_both (λ s. pushed_old c.args.pushes c.args.place (touched_if c.args.accessed c.args.place Write s)) (λ s. set_at s c.args.place (Some c.args.value))
    (leaves_both (touched_if c.args.accessed c.args.place Write) (pushed_old c.args.pushes c.args.place) c.touch_if.ensures.left c.push_old.ensures.left) c.set.ensures.left

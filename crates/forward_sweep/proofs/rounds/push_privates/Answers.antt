use Rattle.std.proofs.Common.{◌+◌, ◌∙◌, take, get_or, false, None}
use Rattle.forward_state.specs.Steps.{scalar_pushed}
use Rattle.forward_state.proofs.Noting.{leaves_both}
use Rattle.sweep_steps.specs.declared.step.PrivateScalar.{PrivateScalar}
use Rattle.forward_sweep.specs.Machine.{privates_run}
use Rattle.forward_sweep.proofs.Iterating.{pushed_more}
use Rattle.forward_sweep.proofs.Turning.{leaves_as}
use Rattle.forward_sweep.proofs.rounds.push_privates.Goals as goal

pub loop-private-preserved : goal.loop-private-preserved
loop-private-preserved g c =
    let xs = c.args.privates.now in
    let i = c.loop-private.private-index in
    let d : PrivateScalar = record { slot = 0; place = None; pushes = false } in
    let x = get_or xs i d in
    record {
      so_far = leaves_as (λ s. scalar_pushed x.pushes x.place (privates_run (take i xs) s)) (privates_run (take (i + 1) xs))
          (leaves_both (privates_run (take i xs)) (scalar_pushed x.pushes x.place) c.loop-private.invariant.so_far c.push_scalar.ensures.left)
          (λ s. pushed_more xs i d s c.loop-private-test.true);
      ticks = c.push_scalar.ensures.ticks ∙ c.loop-private.invariant.ticks;
    }

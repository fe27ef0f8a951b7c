use Rattle.std.proofs.Common.{◌+◌, ◌∙◌, take, get_or, false, None}
use Rattle.forward_state.specs.Steps.{unset_at}
use Rattle.forward_state.proofs.Noting.{leaves_both}
use Rattle.sweep_steps.specs.declared.step.PrivateScalar.{PrivateScalar}
use Rattle.forward_sweep.specs.Machine.{unset_all}
use Rattle.forward_sweep.proofs.Iterating.{unset_more}
use Rattle.forward_sweep.proofs.Turning.{leaves_as}
use Rattle.forward_sweep.proofs.rounds.unset_privates.Goals as goal

pub loop-private-preserved : goal.loop-private-preserved
loop-private-preserved g c =
    let xs = c.args.privates.now in
    let i = c.loop-private.private-index in
    let d : PrivateScalar = record { slot = 0; place = None; pushes = false } in
    let x = get_or xs i d in
    record {
      so_far = leaves_as (λ s. unset_at x.place (unset_all (take i xs) s)) (unset_all (take (i + 1) xs))
          (leaves_both (unset_all (take i xs)) (unset_at x.place) c.loop-private.invariant.so_far c.unset.ensures.left)
          (λ s. unset_more xs i d s c.loop-private-test.true);
      ticks = c.unset.ensures.ticks ∙ c.loop-private.invariant.ticks;
    }

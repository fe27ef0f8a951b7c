use Rattle.std.proofs.Common.{rules, ◌≡◌, subst, take, List}
use Rattle.sweep_steps.specs.declared.step.PrivateScalar.{PrivateScalar}
use Rattle.sweep_evaluation.proofs.Doing.{taken_all}
use Rattle.reverse_sweep.specs.Machine.{privates_cleared}
use Rattle.reverse_state.specs.Holding.{Leaves, on_local}
use Rattle.reverse_run.proofs.Iterating.{cleared_more}
use Rattle.reverse_run.proofs.iterations.clear_all.Goals as goal

pub loop-private-preserved : goal.loop-private-preserved
loop-private-preserved g c = cleared_more c.args.run.now c.loop-private.run c.set_own_adjoint.new.self c.args.privates.now c.loop-private.private-index _ (search (rules)) c.loop-private.invariant c.set_own_adjoint.ensures

pub returns : goal.returns
returns g c =
    let m : take c.loop-private.private-index c.args.privates.now ≡ c.args.privates.now = taken_all c.args.privates.now c.loop-private.private-index (search (rules)) in
    subst (λ (xs : List PrivateScalar). Leaves c.args.run.now c.loop-private.run (on_local (privates_cleared c.args.run.now.shared xs))) m c.loop-private.invariant

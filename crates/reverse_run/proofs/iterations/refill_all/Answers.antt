use Rattle.std.proofs.Common.{rules, ◌≡◌, ◌-◌, ◌+◌, subst, drop, arith}
use Rattle.reverse_sweep.specs.Machine.{privates_refilled}
use Rattle.reverse_state.specs.Holding.{Leaves, on_local}
use Rattle.reverse_run.proofs.Iterating.{refilled_more}
use Rattle.reverse_run.proofs.iterations.refill_all.Goals as goal

pub loop-i-preserved : goal.loop-i-preserved
loop-i-preserved g c =
    let n : c.loop-i.i ≡ (c.loop-i.i - 1) + 1 = omega (arith, c.loop-i-test.true) in
    refilled_more c.args.run.now c.loop-i.run c.refill.new.run c.args.privates.now (c.loop-i.i - 1) _ (search (rules))
    (subst (λ j. Leaves c.args.run.now c.loop-i.run (on_local (privates_refilled c.args.run.now.shared (drop j c.args.privates.now)))) n c.loop-i.invariant) c.refill.ensures

pub returns : goal.returns
returns g c =
    let n : c.loop-i.i ≡ 0 = omega (arith, c.loop-i-test.false) in
    subst (λ j. Leaves c.args.run.now c.loop-i.run (on_local (privates_refilled c.args.run.now.shared (drop j c.args.privates.now)))) n c.loop-i.invariant

use Rattle.std.proofs.Common.{◌≡◌, ◌∙◌, refl, arith, length, drop}
use Rattle.sweep_steps.specs.Steps.{step_arm_trees}
use Rattle.forward_state.specs.Holding.{Holds}
use Rattle.forward_sweep.proofs.Choosing.{none_passed, one_passed, chosen_here, chosen_none}
use Rattle.forward_sweep.proofs.flow.chosen_arm.Goals as goal

pub loop-number-init : goal.loop-number-init
loop-number-init g c = record {
  passed = none_passed (λ f s. Holds f.run (g.W.Watch.stands_for f.watch) (g.W.Watch.places f.watch) g.W.Watch.judge s) (λ f. f.run.lost) c.args.run.now c.args.table.now (step_arm_trees c.args.arms.now) (step_arm_trees (drop 0 c.args.arms.now)) refl;
  ticks = refl;
}

pub loop-number-preserved : goal.loop-number-preserved
loop-number-preserved g c = record {
  passed = one_passed (λ f s. Holds f.run (g.W.Watch.stands_for f.watch) (g.W.Watch.places f.watch) g.W.Watch.judge s) (λ f. f.run.lost) c.args.run.now c.loop-number.run c.holds.new.access c.args.table.now c.args.arms.now c.loop-number.number c.index-arms-number.result c.holds.result
      c.loop-number-test.true c.index-arms-number.is c.loop-number.invariant.passed c.holds.ensures.does c.if-holds.false;
  ticks = c.holds.ensures.steady ∙ c.loop-number.invariant.ticks;
}

pub returns-then-holds-clause-does : goal.returns-then-holds-clause-does
returns-then-holds-clause-does g c =
    chosen_here (λ f s. Holds f.run (g.W.Watch.stands_for f.watch) (g.W.Watch.places f.watch) g.W.Watch.judge s) (λ f. f.run.lost) c.args.run.now c.loop-number.run c.holds.new.access c.args.table.now c.args.arms.now c.loop-number.number c.index-arms-number.result c.holds.result
    c.loop-number-test.true c.index-arms-number.is c.loop-number.invariant.passed c.holds.ensures.does c.if-holds.true

pub returns-then-holds-clause-ticks : goal.returns-then-holds-clause-ticks
returns-then-holds-clause-ticks g c = c.holds.ensures.steady ∙ c.loop-number.invariant.ticks

pub returns-clause-does : goal.returns-clause-does
returns-clause-does g c =
    let e : c.loop-number.number ≡ length c.args.arms.now = omega arith in
    chosen_none (λ f s. Holds f.run (g.W.Watch.stands_for f.watch) (g.W.Watch.places f.watch) g.W.Watch.judge s) (λ f. f.run.lost) c.args.run.now c.loop-number.run c.args.table.now c.args.arms.now c.loop-number.number (length c.args.arms.now) c.loop-number-test.false e c.loop-number.invariant.passed

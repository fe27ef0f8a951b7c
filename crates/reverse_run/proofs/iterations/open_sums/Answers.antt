use Rattle.std.proofs.Common.{rules, ◌≡◌, ◌-◌, ◌+◌, ◌<◌, ℕ, sym, subst, drop, arith, false, slice_index_or}
use Rattle.reverse_sweep.specs.Machine.{opened_sums}
use Rattle.reverse_state.specs.Holding.{Leaves, on_stage}
use Rattle.reverse_run.proofs.Iterating.{below_at, opened_more}
use Rattle.reverse_run.proofs.iterations.open_sums.Goals as goal

pub open_sum-requires : goal.open_sum-requires
open_sum-requires g c =
    let l : c.loop-i.run.lost ≡ false = search (rules) in
    subst (λ (n : ℕ). slice_index_or c.args.reductions.now (c.loop-i.i - 1) 0 < n) (sym (c.loop-i.invariant.keeps l).shared) (below_at c.args.run.now.shared c.args.reductions.now (c.loop-i.i - 1) (c.requires (c.loop-i.invariant.before l)) (search (rules)))

pub loop-i-preserved : goal.loop-i-preserved
loop-i-preserved g c =
    let n : c.loop-i.i ≡ (c.loop-i.i - 1) + 1 = omega (arith, c.loop-i-test.true) in
    opened_more c.args.run.now c.loop-i.run c.open_sum.new.self c.args.reductions.now (c.loop-i.i - 1) (search (rules))
    (subst (λ j. Leaves c.args.run.now c.loop-i.run (on_stage (opened_sums c.args.run.now.shared (drop j c.args.reductions.now)))) n c.loop-i.invariant) c.open_sum.ensures

pub returns : goal.returns
returns g c =
    let n : c.loop-i.i ≡ 0 = omega (arith, c.loop-i-test.false) in
    subst (λ j. Leaves c.args.run.now c.loop-i.run (on_stage (opened_sums c.args.run.now.shared (drop j c.args.reductions.now)))) n c.loop-i.invariant

use Rattle.std.proofs.Common.{rules, ◌≡◌, ◌<◌, ℕ, List, sym, subst, take, false, slice_index_or}
use Rattle.sweep_evaluation.proofs.Doing.{taken_all}
use Rattle.reverse_sweep.specs.Machine.{closed_sums}
use Rattle.reverse_state.specs.Holding.{Leaves, on_stage}
use Rattle.reverse_run.proofs.Iterating.{below_at, closed_more}
use Rattle.reverse_run.proofs.iterations.close_sums.Goals as goal

pub close_sum-requires : goal.close_sum-requires
close_sum-requires g c =
    let l : c.loop-place.run.lost ≡ false = search (rules) in
    subst (λ (n : ℕ). slice_index_or c.args.reductions.now c.loop-place.place-index 0 < n) (sym (c.loop-place.invariant.keeps l).shared) (below_at c.args.run.now.shared c.args.reductions.now c.loop-place.place-index (c.requires (c.loop-place.invariant.before l)) (search (rules)))

pub loop-place-preserved : goal.loop-place-preserved
loop-place-preserved g c = closed_more c.args.run.now c.loop-place.run c.close_sum.new.self c.args.reductions.now c.loop-place.place-index (search (rules)) c.loop-place.invariant c.close_sum.ensures

pub returns : goal.returns
returns g c =
    let m : take c.loop-place.place-index c.args.reductions.now ≡ c.args.reductions.now = taken_all c.args.reductions.now c.loop-place.place-index (search (rules)) in
    subst (λ (xs : List ℕ). Leaves c.args.run.now c.loop-place.run (on_stage (closed_sums c.args.run.now.shared xs))) m c.loop-place.invariant

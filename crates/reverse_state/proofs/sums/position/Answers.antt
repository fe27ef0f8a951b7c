use Rattle.std.proofs.Common.{rules, ◌≡◌, ◌-◌, suc, ℕ, None, drop, sym, ◌∙◌, subst, arith}
use Rattle.reverse_sweep.specs.Reversing.{summed}
use Rattle.reverse_state.specs.Holding.{sums_back}
use Rattle.reverse_state.proofs.Summing.{passed, found}
use Rattle.reverse_state.proofs.sums.position.Goals as goal

pub returns-then-cell_at-cell-clause-value : goal.returns-then-cell_at-cell-clause-value
returns-then-cell_at-cell-clause-value c = λ a.
    let i : c.loop-i.i ≡ suc (c.loop-i.i - 1) = omega (arith, c.loop-i-test.true) in
    let r : summed c.args.cell a (sums_back (drop (suc (c.loop-i.i - 1)) c.args.sums.now)) ≡ None = subst (λ (j : ℕ). summed c.args.cell a (sums_back (drop j c.args.sums.now)) ≡ None) i (c.loop-i.invariant a) in
    found c.args.sums.now (c.loop-i.i - 1) c.args.cell a (search (rules)) (sym c.cell_at.ensures ∙ search (rules)) r

pub loop-i-preserved : goal.loop-i-preserved
loop-i-preserved c = λ a.
    let i : c.loop-i.i ≡ suc (c.loop-i.i - 1) = omega (arith, c.loop-i-test.true) in
    let r : summed c.args.cell a (sums_back (drop (suc (c.loop-i.i - 1)) c.args.sums.now)) ≡ None = subst (λ (j : ℕ). summed c.args.cell a (sums_back (drop j c.args.sums.now)) ≡ None) i (c.loop-i.invariant a) in
    passed c.args.sums.now (c.loop-i.i - 1) c.args.cell a (search (rules)) (λ e. c.if-cell_at-cell.false (c.cell_at.ensures ∙ e)) r

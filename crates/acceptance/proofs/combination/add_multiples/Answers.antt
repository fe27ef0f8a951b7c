use Rattle.std.proofs.Common.{◌≡◌, ◌-◌, ℕ, suc, drop, map, Some, subst, arith}
use Rattle.index_forms.specs.Parts.{sum_seen}
use Rattle.certificate_rules.specs.Accepted.{combined}
use Rattle.acceptance.specs.Told.{forms_in, multiple_told}
use Rattle.acceptance.proofs.LinesOf.{combined-none, combined-step, item-got}
use Rattle.acceptance.proofs.combination.add_multiples.Goals as goal

pub returns-then-not-branch : goal.returns-then-not-branch
returns-then-not-branch c =
    let m = c.multiple_at-multiple.result in
    let A = forms_in c.args.above.now in
    let n : c.loop-i.i ≡ suc (c.loop-i.i - 1) = omega (arith, c.loop-i-test.true) in
    let s : Some (sum_seen c.loop-i.sum) ≡ combined A (map multiple_told (drop (suc (c.loop-i.i - 1)) c.args.multiples.now)) =
    subst (λ (k : ℕ). Some (sum_seen c.loop-i.sum) ≡ combined A (map multiple_told (drop k c.args.multiples.now))) n c.loop-i.invariant in
    combined-none A c.args.multiples.now (c.loop-i.i - 1) m c.in_ok-add_multiple.field-0 (sum_seen c.loop-i.sum) (sum_seen c.add_multiple.new.sum) (omega arith) (item-got c.args.multiples.now (c.loop-i.i - 1) m c.multiple_at-multiple.ensures) c.if-not-branch.true
    c.in_ok-add_multiple.ensures s

pub loop-i-preserved : goal.loop-i-preserved
loop-i-preserved c =
    let m = c.multiple_at-multiple.result in
    let A = forms_in c.args.above.now in
    let n : c.loop-i.i ≡ suc (c.loop-i.i - 1) = omega (arith, c.loop-i-test.true) in
    let s : Some (sum_seen c.loop-i.sum) ≡ combined A (map multiple_told (drop (suc (c.loop-i.i - 1)) c.args.multiples.now)) =
    subst (λ (k : ℕ). Some (sum_seen c.loop-i.sum) ≡ combined A (map multiple_told (drop k c.args.multiples.now))) n c.loop-i.invariant in
    combined-step A c.args.multiples.now (c.loop-i.i - 1) m c.in_ok-add_multiple.field-0 (sum_seen c.loop-i.sum) (sum_seen c.add_multiple.new.sum) (omega arith) (item-got c.args.multiples.now (c.loop-i.i - 1) m c.multiple_at-multiple.ensures)
    c.if-not-branch.false c.in_ok-add_multiple.ensures s

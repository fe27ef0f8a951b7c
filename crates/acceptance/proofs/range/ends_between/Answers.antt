use Rattle.std.proofs.Common.{rules, ◌≡◌, ◌&&◌, pos, ◌+ℤ◌, neg_ℤ, int_lt, unsigned_abs, Some, sym, ap, ◌∙◌, arith, FitsSigned, to_z, of_z}
use Rattle.std.specs.Prelude.{option_map}
use Rattle.std.proofs.lemmas.Int.{ints, to_z-of_z, fits_signed_from_abs}
use mir.Syntax.{w64, w128}
use Rattle.index_forms.proofs.Ints.{abs-is}
use Rattle.index_ranges.specs.Told.{ranges_told}
use Rattle.certificate_rules.specs.Tests.{interval}
use Rattle.acceptance.specs.Runs.{interval_told}
use Rattle.acceptance.proofs.InnerRuns.{seen, ends_longer, ends_done}
use Rattle.acceptance.proofs.range.ends_between.Goals as goal

pub returns-then-count-terms : goal.returns-then-count-terms
returns-then-count-terms c =
    let ts = c.args.terms.now in
    let rs = ranges_told c.args.ranges.now in
    let e : Some (interval_told ts (c.in-Some.low, c.in-Some.high)) ≡ interval rs (seen ts) = sym (ap (option_map (interval_told ts)) c.in-Some.is) ∙ c.in_ok-low.ensures in
    ends_longer c.args.constant c.args.a ts (c.in-Some.low, c.in-Some.high) (interval rs (seen ts)) e (omega (arith, c.inner_run-count.ensures.count, c.if-count-terms.true))

pub returns-in_ok-high-in-Some : goal.returns-in_ok-high-in-Some
returns-in_ok-high-in-Some c =
    let ts = c.args.terms.now in
    let rs = ranges_told c.args.ranges.now in
    let e : Some (interval_told ts (c.in-Some.low, c.in-Some.high)) ≡ interval rs (seen ts) = sym (ap (option_map (interval_told ts)) c.in-Some.is) ∙ c.in_ok-low.ensures in
    let fl : FitsSigned w128 c.in-Some.low = search rules in
    let fh : FitsSigned w128 c.in-Some.high = search rules in
    let gl : FitsSigned w128 c.in_ok-low-in-Some.low = search rules in
    let gh : FitsSigned w128 c.in_ok-high-in-Some.high = search rules in
    let k : to_z w64 (of_z w64 c.args.constant) ≡ c.args.constant = to_z-of_z w64 c.args.constant c.ranges.constant in
    let m : to_z w128 (of_z w128 c.args.constant) ≡ c.args.constant = to_z-of_z w128 c.args.constant (fits_signed_from_abs w128 c.args.constant (omega (arith, ints, abs-is c.args.constant, c.ranges.constant))) in
    let p : c.in_ok-low-in-Some.low ≡ c.args.constant +ℤ c.in-Some.low = rw (k, m, to_z-of_z w128 c.in-Some.low fl) at c.in_ok-low-in-Some.ensures in
    let q : c.in_ok-high-in-Some.high ≡ c.args.constant +ℤ c.in-Some.high = rw (k, m, to_z-of_z w128 c.in-Some.high fh) at c.in_ok-high-in-Some.ensures in
    let s : c.lies_between.result ≡ (int_lt (neg_ℤ (pos (unsigned_abs c.args.a))) c.in_ok-low-in-Some.low && int_lt c.in_ok-high-in-Some.high (pos (unsigned_abs c.args.a))) =
    rw (to_z-of_z w128 c.in_ok-low-in-Some.low gl, to_z-of_z w128 c.in_ok-high-in-Some.high gh, to_z-of_z w64 c.args.a c.ranges.a) at c.lies_between.ensures in
    ends_done c.args.constant c.args.a ts (c.in-Some.low, c.in-Some.high) (interval rs (seen ts)) c.in_ok-low-in-Some.low c.in_ok-high-in-Some.high c.lies_between.result e
    (omega (arith, c.inner_run-count.ensures.count, c.if-count-terms.false)) p q s

use Rattle.std.proofs.Common.{rules, ◌≡◌, ◌+ℤ◌, ◌-◌, length, take, drop, max, unsigned_abs, Some, sym, ap, ◌∙◌, arith, FitsSigned, to_z, of_z}
use Rattle.std.specs.Prelude.{option_map}
use Rattle.std.proofs.lemmas.Int.{ints, to_z-of_z, fits_signed_from_abs}
use mir.Syntax.{w64, w128}
use Rattle.index_forms.proofs.Ints.{abs-is}
use Rattle.index_ranges.specs.Told.{ranges_told}
use Rattle.certificate_rules.specs.Tests.{interval}
use Rattle.acceptance.specs.Runs.{run, interval_told, second_told}
use Rattle.acceptance.proofs.InnerRuns.{seen, second_done, part-from}
use Rattle.acceptance.proofs.range.second_ends.Goals as goal

pub returns-in_ok-high-in-Some : goal.returns-in_ok-high-in-Some
returns-in_ok-high-in-Some c =
    let ts = c.args.terms.now in
    let rs = ranges_told c.args.ranges.now in
    let e : Some (interval_told ts (c.in-Some.low, c.in-Some.high)) ≡ interval rs (seen ts) = sym (ap (option_map (interval_told ts)) c.in-Some.is) ∙ c.in_ok-low.ensures in
    let fl : FitsSigned w128 c.in-Some.low = search rules in
    let fh : FitsSigned w128 c.in-Some.high = search rules in
    let gl : FitsSigned w128 c.in_ok-low-in-Some.low = search rules in
    let gh : FitsSigned w128 c.in_ok-high-in-Some.high = search rules in
    let k : to_z w64 (of_z w64 c.args.constant) ≡ c.args.constant = to_z-of_z w64 c.args.constant c.ranges.constant in
    let m : to_z w128 (of_z w128 c.args.constant) ≡ c.args.constant = to_z-of_z w128 c.args.constant (fits_signed_from_abs w128 c.args.constant (omega (arith, ints, abs-is c.args.constant, c.ranges.constant))) in
    let p : c.in_ok-low-in-Some.low ≡ c.args.constant +ℤ c.in-Some.low = rw (k, m, to_z-of_z w128 c.in-Some.low fl) at c.in_ok-low-in-Some.ensures in
    let q : c.in_ok-high-in-Some.high ≡ c.args.constant +ℤ c.in-Some.high = rw (k, m, to_z-of_z w128 c.in-Some.high fh) at c.in_ok-high-in-Some.ensures in
    let z : c.size_of.result ≡ max (unsigned_abs c.in_ok-low-in-Some.low) (unsigned_abs c.in_ok-high-in-Some.high) =
    rw (to_z-of_z w128 c.in_ok-low-in-Some.low gl, to_z-of_z w128 c.in_ok-high-in-Some.high gh) at c.size_of.ensures in
    let t : c.second_lies.result ≡ second_told c.size_of.result c.args.a c.args.second c.second_iterations-last.result = rw (to_z-of_z w64 c.args.a c.ranges.a) at c.second_lies.ensures in
    second_done c.args.constant c.args.a c.args.second ts (take (length ts - c.inner_run-count.result) (drop c.inner_run-count.result ts)) (c.in-Some.low, c.in-Some.high) (interval rs (seen ts)) c.in_ok-low-in-Some.low c.in_ok-high-in-Some.high c.size_of.result
    c.second_iterations-last.result c.second_lies.result e p q z (part-from ts c.inner_run-count.result (run (seen ts)) c.inner_run-count.ensures.count) c.second_iterations-last.ensures t

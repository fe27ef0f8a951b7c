use Rattle.std.proofs.Common.{rules, ◌≡◌, ◌<◌, ◌-◌, ◌+ℤ◌, ℕ, suc, length, drop, pos, Some, None, sym, ap, subst, ◌∙◌, arith, FitsSigned, to_z}
use Rattle.std.specs.Prelude.{option_map}
use Rattle.std.proofs.lemmas.Int.{to_z-of_z}
use mir.Syntax.{w32, w64, w128}
use Rattle.index_forms.specs.Seen.{atom_tree}
use Rattle.index_ranges.specs.Ranges.{KnownRange}
use Rattle.index_ranges.specs.Told.{range_told, ranges_told}
use Rattle.certificate_rules.specs.Accepted.{low_end, high_end}
use Rattle.certificate_rules.specs.Tests.{inner_of, Interval, interval}
use Rattle.acceptance.specs.Runs.{known_range}
use Rattle.acceptance.proofs.InnerRuns.{seen, interval-end, interval-step, interval-none}
use Rattle.acceptance.proofs.range.interval.Goals as goal

pub loop-i-init : goal.loop-i-init
loop-i-init c =
    let ts = c.args.terms.now in
    let P : ℕ → Type 0 = (λ (n : ℕ). let w : Interval = record { low = pos 0; high = pos 0; last = seen (drop n ts) } in Some w ≡ interval (ranges_told c.args.ranges.now) (seen (drop n ts))) in
    (omega arith, subst P (sym c.requires.count) (sym (interval-end (ranges_told c.args.ranges.now) ts)))

pub loop-i-preserved : goal.loop-i-preserved
loop-i-preserved c =
    let ts = c.args.terms.now in
    let rs = ranges_told c.args.ranges.now in
    let x = c.index-terms-i.result in
    let j : ℕ = c.loop-i.i - 1 in
    let r : KnownRange = range_told c.in-Some.range in
    let w : Interval = record { low = to_z w128 c.loop-i.low-bits; high = to_z w128 c.loop-i.high-bits; last = seen (drop c.args.count ts) } in
    let d : Some r ≡ known_range rs (inner_of (atom_tree x.0)) = sym (ap (option_map range_told) c.in-Some.is) ∙ c.range_of_atom.ensures in
    let n : c.loop-i.i ≡ suc (c.loop-i.i - 1) = omega (arith, c.loop-i-test.true) in
    let P : ℕ → Type 0 = (λ (k : ℕ). Some w ≡ interval rs (seen (drop k ts))) in
    let s : Some w ≡ interval rs (seen (drop (suc (c.loop-i.i - 1)) ts)) = subst P n c.loop-i.invariant.1 in
    let h : c.loop-i.i - 1 < length ts = omega (arith, c.loop-i.invariant.0, c.requires.within, c.loop-i-test.true) in
    let f : FitsSigned w64 x.1 = search rules in
    let g : FitsSigned w32 c.in-Some.range.least = search rules in
    let fl : FitsSigned w128 c.low_end.result = record { sfits = c.low_end.type_inv } in
    let fh : FitsSigned w128 c.high_end.result = record { sfits = c.high_end.type_inv } in
    let gl : FitsSigned w128 c.in_ok-low-in-Some.low = search rules in
    let gh : FitsSigned w128 c.in_ok-high-in-Some.high = search rules in
    let p : c.low_end.result ≡ low_end x.1 r = rw (to_z-of_z w64 x.1 f, to_z-of_z w32 c.in-Some.range.least g) at (c.low_end.ensures c.in-Some.range.number) in
    let q : c.high_end.result ≡ high_end x.1 r = rw (to_z-of_z w64 x.1 f, to_z-of_z w32 c.in-Some.range.least g) at (c.high_end.ensures c.in-Some.range.number) in
    let l : c.in_ok-low-in-Some.low ≡ low_end x.1 r +ℤ to_z w128 c.loop-i.low-bits = rw (to_z-of_z w128 c.low_end.result fl, p) at c.in_ok-low-in-Some.ensures in
    let u : c.in_ok-high-in-Some.high ≡ high_end x.1 r +ℤ to_z w128 c.loop-i.high-bits = rw (to_z-of_z w128 c.high_end.result fh, q) at c.in_ok-high-in-Some.ensures in
    (omega (arith, c.loop-i.invariant.0), rw (to_z-of_z w128 c.in_ok-low-in-Some.low gl, to_z-of_z w128 c.in_ok-high-in-Some.high gh, l, u) (interval-step rs ts (c.loop-i.i - 1) x r w h (sym c.index-terms-i.is) d s))

pub returns-in-None : goal.returns-in-None
returns-in-None c =
    let ts = c.args.terms.now in
    let rs = ranges_told c.args.ranges.now in
    let x = c.index-terms-i.result in
    let d : None ≡ known_range rs (inner_of (atom_tree x.0)) = sym (ap (option_map range_told) c.in-None.is) ∙ c.range_of_atom.ensures in
    interval-none rs ts (c.loop-i.i - 1) x (omega (arith, c.loop-i.invariant.0, c.requires.count, c.loop-i-test.true)) (sym c.index-terms-i.is) d

use Rattle.std.proofs.Common.{rules, ◌≡◌, Some, sym, ap, ◌∙◌, FitsSigned}
use Rattle.std.specs.Prelude.{option_map}
use Rattle.std.proofs.lemmas.Int.{to_z-of_z}
use mir.Syntax.{w64}
use Rattle.index_ranges.specs.Told.{ranges_told}
use Rattle.certificate_rules.specs.Tests.{iterations_of, interval, second_ends}
use Rattle.acceptance.specs.Pairs.{apart_told}
use Rattle.acceptance.proofs.InnerRuns.{seen, second_seen, second_not}
use Rattle.acceptance.proofs.range.is_second_range.Goals as goal

pub returns-in_ok-second_ends-in-Some : goal.returns-in_ok-second_ends-in-Some
returns-in_ok-second_ends-in-Some c =
    let rs = ranges_told c.args.ranges.now in
    let k = c.args.form.now.constant in
    let f : FitsSigned w64 k = search rules in
    let g : FitsSigned w64 c.in-Some.a = search rules in
    let e : Some (c.in-Some.a, seen c.in-Some.rest.now) ≡ iterations_of (seen c.as_slice.result.now) = sym (ap (option_map apart_told) c.in-Some.is) ∙ c.iterations.ensures in
    let h : c.in_ok-second_ends-in-Some.field-0 ≡ second_ends k c.in-Some.a c.args.second (interval rs (seen c.in-Some.rest.now)) = rw (to_z-of_z w64 k f, to_z-of_z w64 c.in-Some.a g) at c.in_ok-second_ends-in-Some.ensures in
    second_seen rs c.args.second c.args.form.now c.as_slice.result.now c.in-Some.a (seen c.in-Some.rest.now) c.in_ok-second_ends-in-Some.field-0 c.as_slice.ensures e h

pub returns-in-None : goal.returns-in-None
returns-in-None c = second_not (ranges_told c.args.ranges.now) c.args.second c.args.form.now c.as_slice.result.now c.as_slice.ensures (sym (ap (option_map apart_told) c.in-None.is) ∙ c.iterations.ensures)

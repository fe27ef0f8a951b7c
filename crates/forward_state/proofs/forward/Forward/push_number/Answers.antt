use Rattle.std.proofs.Common.{rules, ◌≡◌, ◌<◌, ◌^◌, Some, pos, arith}
use Rattle.std.specs.Int.{w64, cast_unsigned}
use Rattle.meaning.specs.declared.value.Value.TheVariants.{Index}
use Rattle.forward_state.proofs.forward.Forward.push_number.Goals as goal

pub returns-clause-left : goal.returns-clause-left
returns-clause-left g c =
    let b : c.args.number < 2 ^ 64 = c.ranges.number.fits in
    let e : cast_unsigned w64 (pos c.args.number) ≡ c.args.number = omega arith in
    c.push_word.ensures.left (Some (Index (pos c.args.number))) e

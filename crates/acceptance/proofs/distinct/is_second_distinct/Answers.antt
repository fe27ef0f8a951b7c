use Rattle.std.proofs.Common.{ap, ◌∙◌, rules, FitsSigned}
use Rattle.std.proofs.lemmas.Int.{to_z-of_z}
use mir.Syntax.{w64}
use Rattle.certificate_rules.specs.Tests.{is_zero}
use Rattle.acceptance.proofs.Pairs.{second-seen}
use Rattle.acceptance.proofs.distinct.is_second_distinct.Goals as goal

pub returns-then-is_zero : goal.returns-then-is_zero
returns-then-is_zero c =
    let k = c.args.form.now.constant in
    let f : FitsSigned w64 c.args.form.now.constant = search rules in
    second-seen c.args.form.now c.as_slice.result.now c.are_second_iterations.result c.is_zero.result (c.is_zero.ensures ∙ ap is_zero (to_z-of_z w64 k f)) c.if-is_zero.true c.as_slice.ensures
    c.are_second_iterations.ensures

use Rattle.std.proofs.Common.{◌≡◌, ◌∙◌, sym, length, rules, arith}
use Rattle.std.specs.Prelude.{true, nat_eq}
use Rattle.std.proofs.lemmas.Bool.Decides.{nat_tests}
use Rattle.loop_scopes.proofs.Nesting.{not_one, one_is}
use Rattle.loop_scopes.proofs.nest.is_nest.Goals as goal

pub returns-then-body-ne1-clause-value : goal.returns-then-body-ne1-clause-value
returns-then-body-ne1-clause-value c = λ shapes. sym (not_one shapes c.args.directive.now c.args.body.now (λ h. search (rules, h)))

pub returns-clause-value : goal.returns-clause-value
returns-clause-value c = λ shapes.
    let two : nat_eq c.args.directive.now.collapse 2 ≡ true = grind (arith, nat_tests) in
    let one : length c.args.body.now ≡ 1 = search rules in
    c.is_plain_loop.ensures shapes ∙ sym (one_is shapes c.args.directive.now c.args.body.now c.index-body-0.result two one (search rules))

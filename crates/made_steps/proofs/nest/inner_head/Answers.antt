use Rattle.std.proofs.Common.{◌≡◌, ◌∙◌, sym, subst, rules, None, Some}
use Rattle.std.specs.Prelude.{true, false}
use Rattle.resolved.specs.ResolvedStmts.{statement_back, statements_back}
use Rattle.sweep_steps.specs.Steps.{head_tree}
use Rattle.sweep_steps.specs.StepsStand.{InnerStands}
use Rattle.loop_scopes.proofs.Nesting.{nested, not_nested}
use Rattle.made_steps.proofs.Nesting.{head_stands}
use Rattle.made_steps.proofs.nest.inner_head.Goals as goal

pub returns-then-not-is_nest : goal.returns-then-not-is_nest
returns-then-not-is_nest c =
    let s = c.args.table.now in
    let no : c.is_nest.result ≡ false = search rules in
    subst (λ h. InnerStands s c.args.accessed.now h None) (sym (not_nested c.args.directive.now (statements_back s.0 c.args.body.now) (sym (c.is_nest.ensures.value s.0) ∙ no))) tt

pub loop_head-requires-clause-plain : goal.loop_head-requires-clause-plain
loop_head-requires-clause-plain c =
    let s = c.args.table.now.0 in
    let yes : c.is_nest.result ≡ true = search rules in
    (nested s c.args.directive.now c.args.body.now c.index-body-0.result (c.is_nest.ensures.one yes) c.index-body-0.is (sym (c.is_nest.ensures.value s) ∙ yes)).0

pub returns : goal.returns
returns c =
    let s = c.args.table.now in
    let yes : c.is_nest.result ≡ true = search rules in
    let p = nested s.0 c.args.directive.now c.args.body.now c.index-body-0.result (c.is_nest.ensures.one yes) c.index-body-0.is (sym (c.is_nest.ensures.value s.0) ∙ yes) in
    subst (λ h. InnerStands s c.args.accessed.now h (Some (head_tree c.in_ok-loop_head.field-0))) (sym p.1)
    (head_stands s c.args.accessed.now (statement_back s.0 c.index-body-0.result) (head_tree c.in_ok-loop_head.field-0) p.0 c.in_ok-loop_head.ensures)

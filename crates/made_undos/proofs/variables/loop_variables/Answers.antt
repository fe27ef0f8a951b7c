use Rattle.std.proofs.Common.{◌≡◌, sym, ◌∙◌, rules}
use Rattle.std.specs.Prelude.{true, false}
use Rattle.resolved.specs.ResolvedExprs.{slot_name}
use Rattle.resolved.specs.ResolvedStmts.{statement_back, statements_back}
use Rattle.loop_scopes.proofs.Nesting.{nested, not_nested}
use Rattle.made_undos.proofs.Arounds.{inner_variable, two_variables, one_variable}
use Rattle.made_undos.proofs.variables.loop_variables.Goals as goal

pub returns-then-not-is_nest : goal.returns-then-not-is_nest
returns-then-not-is_nest c =
    let s = c.args.table.now in
    let no : c.is_nest.result ≡ false = search rules in
    one_variable s c.args.directive.now (slot_name s.0 c.args.variable) (statements_back s.0 c.args.body.now) c.scalar_place-outer.result
    (not_nested c.args.directive.now (statements_back s.0 c.args.body.now) (sym (c.is_nest.ensures.value s.0) ∙ no)) c.scalar_place-outer.ensures

pub inner_place-inner-requires-clause-plain : goal.inner_place-inner-requires-clause-plain
inner_place-inner-requires-clause-plain c =
    let s = c.args.table.now.0 in
    let yes : c.is_nest.result ≡ true = search rules in
    (nested s c.args.directive.now c.args.body.now c.index-body-0.result (c.is_nest.ensures.one yes) c.index-body-0.is (sym (c.is_nest.ensures.value s) ∙ yes)).0

pub returns : goal.returns
returns c =
    let s = c.args.table.now in
    let yes : c.is_nest.result ≡ true = search rules in
    let p = nested s.0 c.args.directive.now c.args.body.now c.index-body-0.result (c.is_nest.ensures.one yes) c.index-body-0.is (sym (c.is_nest.ensures.value s.0) ∙ yes) in
    two_variables s c.args.directive.now (slot_name s.0 c.args.variable) (statements_back s.0 c.args.body.now) (statement_back s.0 c.index-body-0.result) c.scalar_place-outer.result c.inner_place-inner.result p.1
    c.scalar_place-outer.ensures (inner_variable s (statement_back s.0 c.index-body-0.result) c.inner_place-inner.result p.0 c.inner_place-inner.ensures)

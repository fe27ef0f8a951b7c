use Rattle.std.proofs.Common.{rules, arith, ◌≡◌, ap, sym, ◌∙◌, subst, length, [], map}
use Rattle.fl_ast.specs.Tree.{expressions_of}
use Rattle.std.proofs.lemmas.Grind.{common_steps}
use Rattle.meaning.specs.Sites.{kind_of}
use Rattle.resolved.specs.SlotTables.{table_site}
use Rattle.resolved.specs.declared.resolved.ResolvedExpr.{the_lemmas as resolved_lemmas}
use Rattle.resolved.specs.ResolvedExprs.{slot_name, expression_back, expressions_back, place_back}
use Rattle.sweep_trees.specs.Split.{spot_tree, index_tree}
use Rattle.sweep_trees.specs.Standing.{one, index_back}
use Rattle.split_trees.specs.Codes.{SpotStandsFor}
use Rattle.split_trees.proofs.Parts.{bin_within, bin_kinded, two_of, two_within, two_kinded, more_taken, place_kinded, place_within, at_place, empty_of, one_of, fit_pushed, indices_are}
use Rattle.split_trees.proofs.split.+split.Goals as goal

pub split_expression-split_expression-requires-in-Bin-2 : goal.split_expression-split_expression-requires-in-Bin-2
split_expression-split_expression-requires-in-Bin-2 t c = (
  search (rules, resolved_lemmas),
  (
    rw c.get-in-Bin-2.ensures ((bin_within _ c.args.expr.now _ _ _ c.in-Bin.is c.requires.within).1),
    rw c.get-in-Bin-2.ensures ((bin_kinded c.args.table.now c.args.expr.now _ _ _ c.in-Bin.is c.requires.kinded).2),
  ),
)

pub split_occurrence-returns : goal.split_occurrence-returns
split_occurrence-returns t c =
    let s = c.args.table.now in
    let p = place_back s.0 c.args.occurrence.now in
    let name : p.name ≡ slot_name s.0 c.args.occurrence.now.slot = search (rules, resolved_lemmas) in
    c.content.ensures s c.args.accessed.now c.args.occurrence.now.slot p c.kind-kind.ensures.value (c.kind-kind.ensures.named ∙ ap (kind_of (table_site s)) (sym name)) c.in_ok-spot.ensures

pub split_call-split_expression-requires-in-len2 : goal.split_call-split_expression-requires-in-len2
split_call-split_expression-requires-in-len2 t c =
    let e = two_of c.args.args.now c.left-item.result c.right-item.result c.in-len2.len_at_least c.in-len2.len_below c.left-item.is c.right-item.is in (
      search (rules, resolved_lemmas),
      ((two_within _ c.args.args.now _ _ e c.requires.within).0, (two_kinded c.args.table.now c.args.fun c.args.args.now _ _ e c.requires.kinded).1),
    )

pub split_call-split_expression-requires-in-len2-2 : goal.split_call-split_expression-requires-in-len2-2
split_call-split_expression-requires-in-len2-2 t c =
    let e = two_of c.args.args.now c.left-item.result c.right-item.result c.in-len2.len_at_least c.in-len2.len_below c.left-item.is c.right-item.is in (
      search (rules, resolved_lemmas),
      ((two_within _ c.args.args.now _ _ e c.requires.within).1, (two_kinded c.args.table.now c.args.fun c.args.args.now _ _ e c.requires.kinded).2),
    )

pub split_call-unreachable-requires-in-len3-up : goal.split_call-unreachable-requires-in-len3-up
split_call-unreachable-requires-in-len3-up t c = more_taken c.args.table.now c.args.fun c.args.args.now c.requires.kinded c.in-len3-up.len_at_least

pub split_place-split_subscripts-requires : goal.split_place-split_subscripts-requires
split_place-split_subscripts-requires t c = (
  search (rules, resolved_lemmas),
  (
    search (rules, resolved_lemmas),
    rw c.as_slice.ensures (place_kinded c.args.table.now c.args.occurrence.now c.requires.kinded),
  ),
)

pub split_place-returns-in-empty : goal.split_place-returns-in-empty
split_place-returns-in-empty t c =
    let s = c.args.table.now in
    let slot = c.args.occurrence.now.slot in
    let none : c.args.occurrence.now.subscripts ≡ [] = sym c.as_slice.ensures ∙ empty_of c.as_slice.result.now c.in-empty.len_below in
    subst (λ p. SpotStandsFor s c.args.accessed.now slot p (spot_tree c.scalar.result)) (at_place s.0 c.args.occurrence.now (expressions_back s.0 []) (ap (expressions_back s.0) none)) c.scalar.ensures

pub split_place-returns-in_ok-subscript-in-len1 : goal.split_place-returns-in_ok-subscript-in-len1
split_place-returns-in_ok-subscript-in-len1 t c =
    let s = c.args.table.now in
    let slot = c.args.occurrence.now.slot in
    let only : expressions_back s.0 c.args.occurrence.now.subscripts ≡ one (expression_back s.0 c.only-item.result)
    = ap (expressions_back s.0) (sym c.as_slice.ensures) ∙ one_of s.0 c.as_slice.result.now c.only-item.result c.in-len1.len_at_least c.in-len1.len_below c.only-item.is in
    subst (λ p. SpotStandsFor s c.args.accessed.now slot p (spot_tree c.element.result)) (at_place s.0 c.args.occurrence.now _ only)
    (c.element.ensures s _ (place_within (length s.0) c.args.occurrence.now c.requires.within) c.in_ok-subscript-in-len1.ensures)

pub split_place-returns-in_ok-subscripts-in_default : goal.split_place-returns-in_ok-subscripts-in_default
split_place-returns-in_ok-subscripts-in_default t c =
    let s = c.args.table.now in
    let slot = c.args.occurrence.now.slot in
    subst (λ p. SpotStandsFor s c.args.accessed.now slot p (spot_tree c.elements.result)) (at_place s.0 c.args.occurrence.now _ (ap (expressions_back s.0) (sym c.as_slice.ensures)))
    (c.elements.ensures s _ (place_within (length s.0) c.args.occurrence.now c.requires.within) c.in_ok-subscripts-in_default.ensures)

pub split_subscripts-loop-expr-preserved : goal.split_subscripts-loop-expr-preserved
split_subscripts-loop-expr-preserved t c = record {
  trees = grind (arith, common_steps);
  fit = rw (c.in_ok-push.ensures.ok, c.into_inner.ensures) (fit_pushed c.args.table.now c.args.accessed.now _ _ c.loop-expr.invariant.fit c.in_ok-code.ensures.fit);
  within = grind (arith, common_steps);
  kinded = grind (arith, common_steps);
}

pub split_subscripts-returns : goal.split_subscripts-returns
split_subscripts-returns t c =
    let s = c.args.table.now in
    let trees : map (expression_back s.0) c.args.exprs.now ≡ map (λ code. index_back s.0 (index_tree code)) c.loop-expr.all = grind (arith, common_steps) in
    record { back = indices_are s.0 c.loop-expr.all ∙ ap expressions_of (sym trees); fit = c.loop-expr.invariant.fit }

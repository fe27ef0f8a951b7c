use Rattle.std.proofs.Common.{◌≡◌, rules, ap, sym, ◌∙◌, Ok, [], ◌∷◌}
use Rattle.fl_ast.specs.Tree.{expression, no_expressions}
use Rattle.meaning.specs.Values.{whole_number}
use Rattle.meaning.specs.Expressions.{values_of}
use Rattle.resolved.specs.declared.resolved.ResolvedExpr.{the_lemmas as expr_lemmas}
use Rattle.resolved.specs.ResolvedExprs.{place_back, slot_name, expression_back, expressions_back}
use Rattle.dual_evaluation.specs.Answers.{location_of, numbers_of}
use Rattle.resolved.specs.SlotTables.{table_site}
use Rattle.dual_evaluation.proofs.Located.{place_by_slot, located_at, empty_of, one_of, one_number}
use Rattle.dual_evaluation.proofs.evaluator.+evaluate.Goals as goal

pub locate_element-returns : goal.locate_element-returns
locate_element-returns t c =
    let s = c.args.table.now in
    let b : place_back s.0 c.args.occurrence.now ≡ record { name = slot_name s.0 c.args.occurrence.now.slot; subscripts = expressions_back s.0 c.args.occurrence.now.subscripts } = search (rules, expr_lemmas) in
    ap (λ p. (location_of (table_site s) c.args.cells.now p).out) b
    ∙ located_at (table_site s) c.args.cells.now (slot_name s.0 c.args.occurrence.now.slot) (expressions_back s.0 c.args.occurrence.now.subscripts) c.in_ok-numbers.numbers.items (search (rules, expr_lemmas))
    ∙ ap Ok (search (rules, expr_lemmas, place_by_slot))

pub locate-returns-in-empty : goal.locate-returns-in-empty
locate-returns-in-empty t c =
    let s = c.args.table.now in
    let none : c.args.occurrence.now.subscripts ≡ [] = sym c.as_slice.ensures ∙ empty_of c.as_slice.result.now c.in-empty.len_below in
    let b : place_back s.0 c.args.occurrence.now ≡ record { name = slot_name s.0 c.args.occurrence.now.slot; subscripts = expressions_back s.0 c.args.occurrence.now.subscripts } = search (rules, expr_lemmas) in
    ap (λ p. (location_of (table_site s) c.args.cells.now p).out) b
    ∙ ap (λ exprs. (location_of (table_site s) c.args.cells.now (record { name = slot_name s.0 c.args.occurrence.now.slot; subscripts = expressions_back s.0 exprs })).out) none
    ∙ ap Ok (search (rules, expr_lemmas, place_by_slot))

pub locate-returns-in_ok-value-in-len1 : goal.locate-returns-in_ok-value-in-len1
locate-returns-in_ok-value-in-len1 t c =
    let s = c.args.table.now in
    let b : place_back s.0 c.args.occurrence.now ≡ record { name = slot_name s.0 c.args.occurrence.now.slot; subscripts = expressions_back s.0 c.args.occurrence.now.subscripts } = search (rules, expr_lemmas) in
    let e : expressions_back s.0 c.args.occurrence.now.subscripts ≡ expression (expression_back s.0 c.only-item.result) no_expressions
    = ap (expressions_back s.0) (sym c.as_slice.ensures) ∙ one_of s.0 c.as_slice.result.now c.only-item.result c.in-len1.len_at_least c.in-len1.len_below c.only-item.is in
    let n : numbers_of (values_of (expressions_back s.0 c.args.occurrence.now.subscripts) (table_site s) c.args.cells.now).out ≡ Ok (whole_number c.in_ok-value-in-len1.value ∷ [])
    = ap (λ exprs. numbers_of (values_of exprs (table_site s) c.args.cells.now).out) e
    ∙ one_number (table_site s) c.args.cells.now (expression_back s.0 c.only-item.result) c.in_ok-value-in-len1.value c.in_ok-value-in-len1.ensures in
    ap (λ p. (location_of (table_site s) c.args.cells.now p).out) b
    ∙ located_at (table_site s) c.args.cells.now (slot_name s.0 c.args.occurrence.now.slot) (expressions_back s.0 c.args.occurrence.now.subscripts) (whole_number c.in_ok-value-in-len1.value ∷ []) n
    ∙ ap Ok (search (rules, expr_lemmas, place_by_slot))

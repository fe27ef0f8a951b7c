use Rattle.std.proofs.Common.{rules, ◌≡◌, IfOk, ℕ, suc, ◌+◌, ◌<◌, length, sym, ap, subst, ◌∙◌, arith}
use Rattle.fl_ast.specs.declared.expr.Expr.{the_lemmas as expr_lemmas}
use Rattle.fl_ast.specs.Tree.{Designator, expr_trees, place_tree}
use Rattle.index_forms.specs.Formed.{Formed, formed_at, element_at}
use Rattle.index_forms.specs.Scenes.{viewed_with}
use Rattle.index_forms.specs.Finding.{IsFormed}
use Rattle.index_forms.proofs.NodeForms.{IsFront, element_is, front_more, front_done}
use Rattle.index_forms.proofs.nodes.+form_of_expr.Goals as goal

pub form_of_place-returns-in-len1-up : goal.form_of_place-returns-in-len1-up
form_of_place-returns-in-len1-up t c =
    let v = viewed_with c.args.scene.now c.args.entries.now c.args.access in
    let p = c.args.place.now in
    let d : Designator = record { name = p.name; subscripts = expr_trees p.subscripts } in
    let b : place_tree p ≡ d = search (rules, expr_lemmas) in
    let l : 0 < length p.subscripts = search rules in
    let e : element_at v c.args.n p.name (expr_trees p.subscripts) ≡ formed_at v c.args.n (place_tree p) = element_is v c.args.n p.name p.subscripts l ∙ ap (formed_at v c.args.n) (sym b) in
    let f : element_at v c.args.n p.name (expr_trees c.as_slice-in-len1-up.result.now) ≡ formed_at v c.args.n (place_tree p) = ap (λ es. element_at v c.args.n p.name (expr_trees es)) c.as_slice-in-len1-up.ensures ∙ e in
    subst (λ (w : Formed). IfOk c.form_of_element.result (λ r. IsFormed w r)) f c.form_of_element.ensures

pub forms_of_exprs-loop-i-preserved : goal.forms_of_exprs-loop-i-preserved
forms_of_exprs-loop-i-preserved t c =
    let v = viewed_with c.args.scene.now c.args.entries.now c.args.access in
    let x = c.index-exprs-i.result in
    let f = c.in_ok-found.found in
    let n : c.loop-i.i + 1 ≡ suc c.loop-i.i = omega arith in
    subst (λ (i : ℕ). IsFront v c.args.n c.args.exprs.now c.push.new.self f.next i) (sym n)
    (front_more v c.args.n c.args.exprs.now c.loop-i.forms c.push.new.self c.loop-i.next f.next c.loop-i.i x f.form (omega arith) (sym c.index-exprs-i.is) c.in_ok-found.ensures.0 c.in_ok-found.ensures.1 c.in_ok-push.ensures.ok c.loop-i.invariant)

pub forms_of_exprs-returns : goal.forms_of_exprs-returns
forms_of_exprs-returns t c =
    front_done (viewed_with c.args.scene.now c.args.entries.now c.args.access) c.args.n c.args.exprs.now c.loop-i.forms c.loop-i.next c.loop-i.i (omega arith) c.loop-i.invariant

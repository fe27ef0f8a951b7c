use Rattle.std.proofs.Common.{rules, ◌≡◌, true, false, sym, ◌∙◌, subst}
use Rattle.fl_ast.specs.declared.expr.Expr.{the_lemmas as expr_lemmas}
use Rattle.fl_ast.specs.Tree.{Expression, binary, expr_tree, place_tree}
use Rattle.fl_ast.specs.Same.{same_expression}
use Rattle.fl_types.specs.Increment.{target_of, chain}
use Rattle.index_forms.specs.Increments.{adds_terms}
use Rattle.loop_scenes.specs.Scened.{scope_there}
use Rattle.loop_scenes.specs.Marks.{WithTerms}
use Rattle.loop_scenes.proofs.Terms.{op_more}
use Rattle.loop_scenes.proofs.marks.+push_chain_marks.Goals as goal

pub returns-in_ok-push_marks-in-Bin-2 : goal.returns-in_ok-push_marks-in-Bin-2
returns-in_ok-push_marks-in-Bin-2 t c =
    let s = scope_there c.args.scene.now in
    let u = target_of (place_tree c.args.target.now) in
    let a = c.get-in-Bin.result.now in
    let q = c.get.ensures ∙ sym c.get-in-Bin.ensures in
    let b : expr_tree c.args.value.now ≡ binary c.in-Bin.op (expr_tree a) (expr_tree c.get-in-Bin-2.result.now) = search (rules, expr_lemmas) in
    let h : adds_terms c.in-Bin.op ≡ true = search rules in
    let d : same_expression u (expr_tree c.get.result.now) ≡ false = search rules in
    let e : same_expression u (expr_tree a) ≡ false = subst (λ z. same_expression u (expr_tree z) ≡ false) q d in
    subst (λ (x : Expression). WithTerms s c.args.right (chain u x) c.args.marks.now c.push_marks-in-Bin.new.marks) (sym b)
    (op_more s c.args.right c.in-Bin.op u (expr_tree a) (expr_tree c.get-in-Bin-2.result.now) c.args.marks.now c.push_chain_marks.new.marks c.push_marks-in-Bin.new.marks h e c.in_ok-push_chain_marks-in-Bin.ensures c.in_ok-push_marks-in-Bin-2.ensures)

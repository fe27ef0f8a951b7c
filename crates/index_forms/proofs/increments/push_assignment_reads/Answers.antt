use Rattle.std.proofs.Common.{rules, ◌≡◌, ap, ◌∙◌, sym}
use Rattle.fl_ast.specs.declared.expr.Expr.{the_lemmas as expr_lemmas}
use Rattle.fl_ast.specs.Tree.{expr_tree, expr_trees, place_tree}
use Rattle.fl_types.specs.Increment.{increment_terms}
use Rattle.index_forms.specs.Scenes.{setting_there, known_there}
use Rattle.index_forms.specs.Listed.{all_forms_seen}
use Rattle.index_forms.proofs.Terms.{assignment_made}
use Rattle.index_forms.proofs.increments.push_assignment_reads.Goals as goal

pub returns : goal.returns
returns c =
    let s = setting_there c.args.scene.now in
    let p = place_tree c.args.target.now in
    let e = expr_tree c.args.value.now in
    let q : p.subscripts ≡ expr_trees c.args.target.now.subscripts = search (rules, expr_lemmas) in
    assignment_made s (known_there c.args.scene.now c.args.entries.now) c.args.atomic p e (expr_trees c.as_slice.result.now) (increment_terms s.scope.ring p e) (all_forms_seen c.args.all.now) _ _ _
    (ap (λ es. expr_trees es) c.as_slice.ensures ∙ sym q) c.in_ok-push_value_reads.ensures c.in_ok-push_all_reads.ensures c.in_ok-push_access.ensures

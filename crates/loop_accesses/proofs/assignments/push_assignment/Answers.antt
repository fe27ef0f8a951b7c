use Rattle.std.proofs.Common.{rules, ◌≡◌, ap, ◌∙◌, sym, map}
use Rattle.fl_ast.specs.declared.expr.Expr.{the_lemmas as expr_lemmas}
use Rattle.fl_ast.specs.Tree.{expr_tree, expr_trees, place_tree}
use Rattle.fl_types.specs.Increment.{increment_terms}
use Rattle.loop_accesses.specs.Classes.{scope_by}
use Rattle.loop_accesses.specs.Views.{steps_of, occurrence_of}
use Rattle.loop_accesses.proofs.Terms.{assignment_made}
use Rattle.loop_accesses.proofs.assignments.push_assignment.Goals as goal

pub returns : goal.returns
returns c =
    let s = scope_by c.args.names.now in
    let p = place_tree c.args.target.now in
    let e = expr_tree c.args.value.now in
    let q : p.subscripts ≡ expr_trees c.args.target.now.subscripts = search (rules, expr_lemmas) in
    assignment_made s c.args.line (steps_of c.args.path.now) c.args.atomic p e (expr_trees c.as_slice.result.now) (increment_terms s.ring p e) c.target_kind-kind.result (map occurrence_of c.args.found.now) _ _ _
    (ap (λ es. expr_trees es) c.as_slice.ensures ∙ sym q) c.target_kind-kind.ensures c.in_ok-push_value_reads.ensures c.in_ok-push_all_reads.ensures c.in_ok-push_access.ensures

use Rattle.std.proofs.Common.{◌++◌, ◌∙◌, ap, map, sym}
use Rattle.fl_ast.specs.Tree.{expr_tree, place_tree}
use Rattle.fl_ast.specs.AdjointTree.{astmt_tree}
use Rattle.reversal.specs.Places.{scope_of}
use Rattle.reversal.proofs.Operands.{on_ok}
use Rattle.reversal.proofs.Forms.{forward_plain_is, forward_form_is}
use Rattle.reversal.proofs.increment.push_forward_assignment.Goals as goal

pub returns-in-None : goal.returns-in-None
returns-in-None c =
    on_ok c.push_forward_plain.result
    (λ e. e ∙ ap (λ x. map astmt_tree c.args.forward.now ++ x)
    (forward_plain_is (scope_of c.args.scope.now) c.args.line c.args.atomic (place_tree c.args.target.now) (expr_tree c.args.value.now) (sym c.form_of.ensures ∙ c.in-None.is)))
    c.push_forward_plain.ensures

pub returns-in-Some : goal.returns-in-Some
returns-in-Some c =
    on_ok c.push_kept.result
    (λ e. e ∙ ap (λ x. map astmt_tree c.args.forward.now ++ x)
    (forward_form_is (scope_of c.args.scope.now) c.args.line c.args.atomic (place_tree c.args.target.now) (expr_tree c.args.value.now) c.form_of.result c.form_of.ensures _ c.in-Some.is))
    c.push_kept.ensures

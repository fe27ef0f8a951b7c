use Rattle.std.proofs.Common.{◌++◌, ◌∙◌, ap, map, sym}
use Rattle.fl_ast.specs.Tree.{expr_tree, place_tree}
use Rattle.fl_ast.specs.AdjointTree.{astmt_tree}
use Rattle.reversal.specs.Places.{scope_of}
use Rattle.reversal.proofs.Operands.{on_ok}
use Rattle.reversal.proofs.Forms.{backward_plain_is, backward_form_is}
use Rattle.reversal.proofs.increment.push_backward_assignment.Goals as goal

pub returns-in-None : goal.returns-in-None
returns-in-None c =
    on_ok c.push_backward_plain.result
    (λ e. e ∙ ap (λ x. map astmt_tree c.args.reverse.now ++ x)
    (backward_plain_is (scope_of c.args.scope.now) c.args.line c.args.atomic (place_tree c.args.target.now) (expr_tree c.args.value.now) (sym c.form_of.ensures ∙ c.in-None.is)))
    c.push_backward_plain.ensures

pub returns-in-Some : goal.returns-in-Some
returns-in-Some c =
    on_ok c.push_backward_increment.result
    (λ e. e ∙ ap (λ x. map astmt_tree c.args.reverse.now ++ x)
    (backward_form_is (scope_of c.args.scope.now) c.args.line c.args.atomic (place_tree c.args.target.now) (expr_tree c.args.value.now) c.in-Some.form (sym c.form_of.ensures ∙ c.in-Some.is)))
    c.push_backward_increment.ensures

use Rattle.std.proofs.Common.{ap, ◌∙◌, map}
use Rattle.fl_ast.specs.Tree.{expr_tree, place_tree}
use Rattle.fl_ast.specs.AdjointTree.{adjoint_get, aexpr_tree, astmt_tree}
use Rattle.fl_types.specs.Increment.{target_of}
use Rattle.reversal.specs.Places.{number_of}
use Rattle.reversal.proofs.Operands.{on_ok}
use Rattle.reversal.proofs.Forms.{terms_from}
use Rattle.reversal.proofs.increment.push_term_spread.Goals as goal

pub returns : goal.returns
returns c =
    on_ok c.push_term_growths.result
    (λ e. terms_from c.growth-growth.result.active.now c.args.scope.now.active.now c.growth-growth.result.choices.now c.args.scope.now.choices.now c.growth-growth.result.number (number_of c.args.scope.now.region)
    c.growth-growth.result.line c.args.line c.args.form (target_of (place_tree c.args.target.now)) (expr_tree c.args.value.now) (aexpr_tree c.get-2.result.now) (map astmt_tree c.args.reverse.now) (map astmt_tree c.push_term_growths.new.reverse)
    c.growth-growth.ensures.0 c.growth-growth.ensures.1 c.growth-growth.ensures.2 c.growth-growth.ensures.3
    (ap aexpr_tree c.get-2.ensures ∙ (c.in_ok-amount.ensures ∙ ap adjoint_get c.in_ok-temporary.ensures)) e)
    c.push_term_growths.ensures

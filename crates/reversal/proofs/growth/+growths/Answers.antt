use Rattle.std.proofs.Common.{ap, sym, ◌∙◌, map}
use Rattle.fl_ast.specs.Tree.{expr_tree, expr_trees}
use Rattle.fl_ast.specs.AdjointTree.{aexpr_tree, astmt_tree}
use Rattle.fl_types.specs.Sharing.{has_name}
use Rattle.reversal.specs.Growth.{is_atomic_in}
use Rattle.reversal.proofs.Operands.{tree_of, power_of, on_ok, joined_growths, power_growths, two_of, one_of, below_two, above_two, above_one, two_growths, one_growths}
use Rattle.reversal.proofs.growth.+growths.Goals as goal

pub push_growths-returns-in_ok-push_growths-in-Bin : goal.push_growths-returns-in_ok-push_growths-in-Bin
push_growths-returns-in_ok-push_growths-in-Bin t c =
    on_ok c.push_growths-in-Bin-2.result
    (λ e. joined_growths (λ x. has_name x c.args.growth.now.active.now.names) (is_atomic_in c.args.growth.now.choices.now c.args.growth.now.number) c.args.growth.now.line
    (expr_tree c.args.expr.now) c.in-Bin.op (expr_tree c.get-left.result.now) (expr_tree c.get-right.result.now) c.args.negative c.sign_at_right-negative.result
    (aexpr_tree c.args.amount.now) (aexpr_tree c.get-in-Bin.result.now) (aexpr_tree c.get-in-Bin-2.result.now) (map astmt_tree c.args.statements.now) (map astmt_tree c.push_growths-in-Bin.new.statements) (map astmt_tree c.push_growths-in-Bin-2.new.statements)
    (tree_of c.args.expr.now c.in-Bin.op c.in-Bin.left c.in-Bin.right c.get-left.result.now c.get-right.result.now c.in-Bin.is c.get-left.ensures c.get-right.ensures)
    (sym c.if-is_division.ensures)
    (ap aexpr_tree c.get-in-Bin.ensures ∙ c.in_ok-at_left-in-Bin.ensures.left) (ap aexpr_tree c.get-in-Bin-2.ensures ∙ c.in_ok-at_left-in-Bin.ensures.right) c.sign_at_right-negative.ensures c.in_ok-push_growths-in-Bin.ensures e)
    c.push_growths-in-Bin-2.ensures

pub push_growths-returns-in_ok-raised-in-Pow : goal.push_growths-returns-in_ok-raised-in-Pow
push_growths-returns-in_ok-raised-in-Pow t c =
    on_ok c.push_growths-in-Pow.result
    (λ e. power_growths (λ x. has_name x c.args.growth.now.active.now.names) (is_atomic_in c.args.growth.now.choices.now c.args.growth.now.number) c.args.growth.now.line
    (expr_tree c.args.expr.now) (expr_tree c.get-base.result.now) c.in-Pow.exponent c.args.negative (aexpr_tree c.args.amount.now) (aexpr_tree c.get-in-Pow.result.now)
    (map astmt_tree c.args.statements.now) (map astmt_tree c.push_growths-in-Pow.new.statements)
    (power_of c.args.expr.now c.in-Pow.base c.get-base.result.now c.in-Pow.exponent c.in-Pow.is c.get-base.ensures)
    (ap aexpr_tree c.get-in-Pow.ensures ∙ c.in_ok-raised-in-Pow.ensures) e)
    c.push_growths-in-Pow.ensures

pub push_of_one-returns-in_ok-amount-in-len1 : goal.push_of_one-returns-in_ok-amount-in-len1
push_of_one-returns-in_ok-amount-in-len1 t c =
    on_ok c.push_growths.result
    (λ e. one_growths (λ x. has_name x c.args.growth.now.active.now.names) (is_atomic_in c.args.growth.now.choices.now c.args.growth.now.number) c.args.growth.now.line
    (expr_trees c.args.args.now) (expr_tree c.expr-item.result) c.args.negative (aexpr_tree c.args.amount.now) (aexpr_tree c.get.result.now)
    (map astmt_tree c.args.statements.now) (map astmt_tree c.push_growths.new.statements)
    (one_of c.args.args.now c.expr-item.result c.in-len1.len_at_least c.in-len1.len_below c.expr-item.is)
    (ap aexpr_tree c.get.ensures ∙ c.in_ok-amount-in-len1.ensures) e)
    c.push_growths.ensures

pub push_of_one-returns-in_default-2 : goal.push_of_one-returns-in_default-2
push_of_one-returns-in_default-2 t c =
    above_one (λ x. has_name x c.args.growth.now.active.now.names) (is_atomic_in c.args.growth.now.choices.now c.args.growth.now.number) c.args.growth.now.line
    c.args.args.now c.args.negative (aexpr_tree c.args.amount.now) (map astmt_tree c.args.statements.now) c.in_default.len_at_least

pub push_of_two-returns-in_ok-second-in-len2 : goal.push_of_two-returns-in_ok-second-in-len2
push_of_two-returns-in_ok-second-in-len2 t c =
    on_ok c.push_growths-in-len2.result
    (λ e. two_growths (λ x. has_name x c.args.growth.now.active.now.names) (is_atomic_in c.args.growth.now.choices.now c.args.growth.now.number) c.args.growth.now.line
    c.args.op (expr_trees c.args.args.now) (expr_tree c.left-item.result) (expr_tree c.right-item.result) c.args.negative (aexpr_tree c.args.amount.now) (aexpr_tree c.get.result.now) (aexpr_tree c.get-in-len2.result.now)
    (map astmt_tree c.args.statements.now) (map astmt_tree c.push_growths.new.statements) (map astmt_tree c.push_growths-in-len2.new.statements)
    (two_of c.args.args.now c.left-item.result c.right-item.result c.in-len2.len_at_least c.in-len2.len_below c.left-item.is c.right-item.is)
    (ap aexpr_tree c.get.ensures ∙ c.in_ok-first-in-len2.ensures) (ap aexpr_tree c.get-in-len2.ensures ∙ c.in_ok-second-in-len2.ensures) c.in_ok-push_growths-in-len2.ensures e)
    c.push_growths-in-len2.ensures

pub push_of_two-returns-in_default : goal.push_of_two-returns-in_default
push_of_two-returns-in_default t c =
    below_two (λ x. has_name x c.args.growth.now.active.now.names) (is_atomic_in c.args.growth.now.choices.now c.args.growth.now.number) c.args.growth.now.line
    c.args.op c.args.args.now c.args.negative (aexpr_tree c.args.amount.now) (map astmt_tree c.args.statements.now) c.in_default.len_below

pub push_of_two-returns-in_default-2 : goal.push_of_two-returns-in_default-2
push_of_two-returns-in_default-2 t c =
    above_two (λ x. has_name x c.args.growth.now.active.now.names) (is_atomic_in c.args.growth.now.choices.now c.args.growth.now.number) c.args.growth.now.line
    c.args.op c.args.args.now c.args.negative (aexpr_tree c.args.amount.now) (map astmt_tree c.args.statements.now) c.in_default.len_at_least

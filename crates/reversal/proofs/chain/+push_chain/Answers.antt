use Rattle.std.proofs.Common.{sym, map}
use Rattle.fl_ast.specs.Tree.{expr_tree, place_tree}
use Rattle.fl_ast.specs.AdjointTree.{aexpr_tree, astmt_tree}
use Rattle.fl_types.specs.Increment.{target_of}
use Rattle.fl_types.specs.Sharing.{has_name}
use Rattle.reversal.specs.Growth.{is_atomic_in}
use Rattle.reversal.proofs.Operands.{tree_of, on_ok, link_alone, link_after}
use Rattle.reversal.proofs.chain.+push_chain.Goals as goal

pub returns-then-is_target : goal.returns-then-is_target
returns-then-is_target t c =
    on_ok c.push_growths.result
    (λ e. link_alone (λ x. has_name x c.args.growth.now.active.now.names) (is_atomic_in c.args.growth.now.choices.now c.args.growth.now.number) c.args.growth.now.line
    (target_of (place_tree c.args.target.now)) (expr_tree c.args.value.now) c.in-Bin.op (expr_tree c.get-left.result.now) (expr_tree c.get-right.result.now) c.is_difference.result (aexpr_tree c.args.amount.now)
    (map astmt_tree c.args.statements.now) (map astmt_tree c.push_growths.new.statements)
    (tree_of c.args.value.now c.in-Bin.op c.in-Bin.left c.in-Bin.right c.get-left.result.now c.get-right.result.now c.in-Bin.is c.get-left.ensures c.get-right.ensures)
    (sym c.if-not-is_link.ensures) (sym c.if-is_target.ensures) c.is_difference.ensures e)
    c.push_growths.ensures

pub returns-in_ok-push_chain-in-Bin : goal.returns-in_ok-push_chain-in-Bin
returns-in_ok-push_chain-in-Bin t c =
    on_ok c.push_growths-in-Bin.result
    (λ e. link_after (λ x. has_name x c.args.growth.now.active.now.names) (is_atomic_in c.args.growth.now.choices.now c.args.growth.now.number) c.args.growth.now.line
    (target_of (place_tree c.args.target.now)) (expr_tree c.args.value.now) c.in-Bin.op (expr_tree c.get-left.result.now) (expr_tree c.get-right.result.now) c.is_difference-in-Bin.result (aexpr_tree c.args.amount.now)
    (map astmt_tree c.args.statements.now) (map astmt_tree c.push_chain.new.statements) (map astmt_tree c.push_growths-in-Bin.new.statements)
    (tree_of c.args.value.now c.in-Bin.op c.in-Bin.left c.in-Bin.right c.get-left.result.now c.get-right.result.now c.in-Bin.is c.get-left.ensures c.get-right.ensures)
    (sym c.if-not-is_link.ensures) (sym c.if-is_target.ensures) c.is_difference-in-Bin.ensures c.in_ok-push_chain-in-Bin.ensures e)
    c.push_growths-in-Bin.ensures

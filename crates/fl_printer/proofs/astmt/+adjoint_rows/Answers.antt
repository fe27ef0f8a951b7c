use Rattle.std.proofs.Common.{◌+◌, ◌∷◌, ◌++◌, ap, sym, ◌∙◌}
use Rattle.fl_ast.specs.AdjointTree.{astmt_trees}
use Rattle.fl_ast.specs.Tree.{cond_tree}
use Rattle.fl_printer.specs.Rows.{adjoint_rows, adjoint_block_rows, test_row}
use Rattle.fl_printer.specs.Layout.{rows_text}
use Rattle.fl_printer.proofs.LayoutLaws.{two, three}
use Rattle.fl_printer.proofs.Blocks.{on_ok, ablock_step, ablock_end, aarm_step, aarm_end, ano_else, asome_else, abranch_tree}
use Rattle.fl_printer.proofs.astmt.+adjoint_rows.Goals as goal

pub ablock-loop-tree-preserved : goal.ablock-loop-tree-preserved
ablock-loop-tree-preserved t c =
    ablock_step c.args.margin c.loop-tree.tree-index c.args.trees.now c.tree-item.result _ _ _ c.loop-tree-test.true c.tree-item.is c.loop-tree.invariant c.in_ok-astmt.ensures

pub ablock-returns : goal.ablock-returns
ablock-returns t c = ablock_end c.args.margin c.loop-tree.tree-index c.args.trees.now _ _ c.loop-tree-test.false c.loop-tree.invariant

pub all_arms-loop-arm-preserved : goal.all_arms-loop-arm-preserved
all_arms-loop-arm-preserved t c =
    aarm_step c.args.margin c.loop-arm.arm-index c.loop-arm.later c.args.arms.now c.arm-item.result _ _ _ c.loop-arm-test.true c.arm-item.is c.loop-arm.invariant c.in_ok-one_arm.ensures

pub all_arms-returns : goal.all_arms-returns
all_arms-returns t c = aarm_end c.args.margin c.loop-arm.arm-index c.loop-arm.later c.args.arms.now _ _ c.loop-arm-test.false c.loop-arm.invariant

pub one_arm-returns : goal.one_arm-returns
one_arm-returns t c =
    two _ _ _ _ _ c.in_ok-test_row.ensures (c.in_ok-ablock.ensures ∙ ap (λ n. c.test_row.new.text.items ++ rows_text (adjoint_block_rows n (astmt_trees c.as_slice.result.now))) c.in_ok-plus.ensures)
    ∙ ap (λ ts. c.args.text.now.items ++ rows_text (test_row c.args.margin c.args.later (cond_tree c.args.arm.now.test) ∷ adjoint_block_rows (c.args.margin + 2) (astmt_trees ts))) c.as_slice.ensures

pub otherwise-returns-then-is_empty : goal.otherwise-returns-then-is_empty
otherwise-returns-then-is_empty t c = ano_else c.args.margin c.args.trees.now c.args.text.now.items (sym c.is_empty.ensures ∙ c.if-is_empty.true)

pub otherwise-returns : goal.otherwise-returns
otherwise-returns t c =
    asome_else c.args.margin c.args.trees.now _ _ _ _ (sym c.is_empty.ensures ∙ c.if-is_empty.false) c.in_ok-plus.ensures c.in_ok-else_row.ensures c.in_ok-ablock.ensures

pub repeated-returns : goal.repeated-returns
repeated-returns t c =
    three _ _ _ _ _ _ _ c.in_ok-loop_rows.ensures (c.in_ok-ablock.ensures ∙ ap (λ n. c.loop_rows.new.text.items ++ rows_text (adjoint_block_rows n (astmt_trees c.args.body.now))) c.in_ok-plus.ensures) c.in_ok-end_row.ensures

pub astmt-returns-in_ok-otherwise-in-If : goal.astmt-returns-in_ok-otherwise-in-If
astmt-returns-in_ok-otherwise-in-If t c =
    on_ok c.end_row.result
    (λ e. three _ _ _ _ _ _ _ c.in_ok-all_arms-in-If.ensures c.in_ok-otherwise-in-If.ensures e
    ∙ ap (λ s. c.args.text.now.items ++ rows_text (adjoint_rows c.args.margin s))
    (sym (abranch_tree c.args.tree.now c.in-If.line c.in-If.arms c.as_slice.result.now c.in-If.other c.as_slice-in-If.result.now c.in-If.is c.as_slice.ensures c.as_slice-in-If.ensures)))
    c.end_row.ensures

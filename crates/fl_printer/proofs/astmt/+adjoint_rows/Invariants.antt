use Rattle.std.proofs.Common.{◌≡◌, ◌++◌, false, drop}
use Rattle.fl_ast.specs.AdjointTree.{astmt_trees, aarm_trees}
use Rattle.fl_printer.specs.Rows.{adjoint_block_rows, adjoint_arm_rows}
use Rattle.fl_printer.specs.Layout.{rows_text}
use Rattle.fl_printer.proofs.astmt.+adjoint_rows.Given as goal

-- what is added and what the rest adds is all
abbrev pub invariant-ablock-loop-tree : goal.invariant-ablock-loop-tree
invariant-ablock-loop-tree l =
    l.text.items ++ rows_text (adjoint_block_rows l.margin (astmt_trees (drop l.tree-index l.trees))) ≡ l.fn.text.items ++ rows_text (adjoint_block_rows l.margin (astmt_trees l.trees))

abbrev pub invariant-all_arms-loop-arm : goal.invariant-all_arms-loop-arm
invariant-all_arms-loop-arm l =
    l.text.items ++ rows_text (adjoint_arm_rows l.margin l.later (aarm_trees (drop l.arm-index l.arms))) ≡ l.fn.text.items ++ rows_text (adjoint_arm_rows l.margin false (aarm_trees l.arms))

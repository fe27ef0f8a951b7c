use Rattle.std.proofs.Common.{◌≡◌, ◌++◌, false, drop}
use Rattle.fl_ast.specs.Tree.{stmt_trees, arm_trees}
use Rattle.fl_printer.specs.Rows.{block_rows, arm_rows}
use Rattle.fl_printer.specs.Layout.{rows_text}
use Rattle.fl_printer.proofs.stmt.+statement_rows.Given as goal

-- what is added and what the rest adds is all
abbrev pub invariant-block-loop-tree : goal.invariant-block-loop-tree
invariant-block-loop-tree l =
    l.text.items ++ rows_text (block_rows l.margin (stmt_trees (drop l.tree-index l.trees))) ≡ l.fn.text.items ++ rows_text (block_rows l.margin (stmt_trees l.trees))

abbrev pub invariant-all_arms-loop-arm : goal.invariant-all_arms-loop-arm
invariant-all_arms-loop-arm l =
    l.text.items ++ rows_text (arm_rows l.margin l.later (arm_trees (drop l.arm-index l.arms))) ≡ l.fn.text.items ++ rows_text (arm_rows l.margin false (arm_trees l.arms))

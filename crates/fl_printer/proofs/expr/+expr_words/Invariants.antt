use Rattle.std.proofs.Common.{◌≡◌, ◌++◌, false, drop}
use Rattle.fl_ast.specs.Tree.{expr_trees}
use Rattle.fl_printer.specs.Words.{expressions_from}
use Rattle.fl_printer.proofs.expr.+expr_words.Given as goal

-- what is added and what the rest adds is all
abbrev pub invariant-exprs-loop-tree : goal.invariant-exprs-loop-tree
invariant-exprs-loop-tree l = l.line ++ expressions_from l.later (expr_trees (drop l.tree-index l.trees)) ≡ l.fn.line ++ expressions_from false (expr_trees l.trees)

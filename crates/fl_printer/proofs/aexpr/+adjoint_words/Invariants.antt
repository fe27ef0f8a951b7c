use Rattle.std.proofs.Common.{◌≡◌, ◌++◌, false, drop}
use Rattle.fl_ast.specs.AdjointTree.{aexpr_trees}
use Rattle.fl_printer.specs.Words.{adjoints_from}
use Rattle.fl_printer.proofs.aexpr.+adjoint_words.Given as goal

-- what is added and what the rest adds is all
abbrev pub invariant-aexprs-loop-tree : goal.invariant-aexprs-loop-tree
invariant-aexprs-loop-tree l = l.line ++ adjoints_from l.later (aexpr_trees (drop l.tree-index l.trees)) ≡ l.fn.line ++ adjoints_from false (aexpr_trees l.trees)

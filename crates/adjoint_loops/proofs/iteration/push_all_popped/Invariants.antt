use Rattle.std.proofs.Common.{◌≡◌, ◌++◌, drop, map}
use Rattle.fl_ast.specs.AdjointTree.{astmt_tree}
use Rattle.adjoint_loops.proofs.Grown.{pops_of}
use Rattle.adjoint_loops.proofs.iteration.push_all_popped.Given as goal

-- those from the last so far
abbrev pub invariant-loop-i : goal.invariant-loop-i
invariant-loop-i l = map astmt_tree l.statements ≡ map astmt_tree l.fn.statements ++ pops_of l.line (drop l.i l.names)

use Rattle.std.proofs.Common.{◌≡◌, map, take}
use Rattle.fl_ast.specs.AdjointTree.{aexpr_tree}
use Rattle.reversal.proofs.Calls.{in_adjoint_of}
use Rattle.reversal.proofs.expression.+in_adjoint.Given as goal

abbrev pub invariant-all_in_adjoint-loop-i : goal.invariant-all_in_adjoint-loop-i
invariant-all_in_adjoint-loop-i l = map aexpr_tree l.all ≡ map in_adjoint_of (take l.i l.exprs)

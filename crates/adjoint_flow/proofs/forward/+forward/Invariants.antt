use Rattle.std.proofs.Common.{◌≡◌, ◌++◌, drop, map}
use Rattle.fl_ast.specs.AdjointTree.{astmt_tree, aarm_tree}
use Rattle.reversal.specs.Places.{scope_of}
use Rattle.adjoint_flow.proofs.Parts.{forward_parts, forward_arm_parts}
use Rattle.adjoint_flow.proofs.forward.+forward.Given as goal

-- those so far and those of the rest are all
abbrev pub invariant-forward_all-loop-stmt : goal.invariant-forward_all-loop-stmt
invariant-forward_all-loop-stmt l =
    map astmt_tree l.statements ++ forward_parts (scope_of l.scope) (drop l.stmt-index l.stmts) ≡ forward_parts (scope_of l.scope) l.stmts

abbrev pub invariant-forward_arms-loop-i : goal.invariant-forward_arms-loop-i
invariant-forward_arms-loop-i l =
    map aarm_tree l.all ++ forward_arm_parts (scope_of l.scope) l.line l.i (drop l.i l.arms) ≡ forward_arm_parts (scope_of l.scope) l.line 0 l.arms

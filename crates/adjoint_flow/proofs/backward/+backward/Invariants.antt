use Rattle.std.proofs.Common.{◌≡◌, ◌≤◌, ◌++◌, length, drop, map}
use Rattle.fl_ast.specs.AdjointTree.{astmt_tree, aarm_tree}
use Rattle.reversal.specs.Places.{scope_of}
use Rattle.adjoint_flow.proofs.Parts.{backward_parts, backward_arm_parts}
use Rattle.adjoint_flow.proofs.backward.+backward.Given as goal

-- what comes from a statement on has been taken back
abbrev pub invariant-backward_all-loop-at : goal.invariant-backward_all-loop-at
invariant-backward_all-loop-at l = record {
  within : l.at ≤ length l.stmts;
  done : map astmt_tree l.statements ≡ backward_parts (scope_of l.scope) (drop l.at l.stmts);
}

abbrev pub decreases-backward_all-loop-at : goal.decreases-backward_all-loop-at
decreases-backward_all-loop-at l = l.at

-- those so far and those of the rest are all
abbrev pub invariant-backward_arms-loop-i : goal.invariant-backward_arms-loop-i
invariant-backward_arms-loop-i l =
    map aarm_tree l.all ++ backward_arm_parts (scope_of l.scope) l.i (drop l.i l.arms) ≡ backward_arm_parts (scope_of l.scope) 0 l.arms

use Rattle.std.proofs.Common.{◌≡◌, ◌||◌, List, ℕ, drop}
use Rattle.fl_ast.specs.Tree.{stmt_trees, arm_trees}
use Rattle.fl_types.specs.Rows.{is_private_within_all, is_private_within_arms}
use Rattle.fl_types.specs.Sharing.{has_name}
use Rattle.known_names.proofs.marks.+private.Given as goal

-- with those of the rest all are there
abbrev pub invariant-mark_private-loop-stmt : goal.invariant-mark_private-loop-stmt
invariant-mark_private-loop-stmt l = (x : List ℕ) → (is_private_within_all x (stmt_trees (drop l.stmt-index l.stmts)) || has_name x l.keys) ≡ (is_private_within_all x (stmt_trees l.stmts) || has_name x l.fn.keys)

-- with those of the rest all are there
abbrev pub invariant-mark_private_in_arms-loop-arm : goal.invariant-mark_private_in_arms-loop-arm
invariant-mark_private_in_arms-loop-arm l = (x : List ℕ) → (is_private_within_arms x (arm_trees (drop l.arm-index l.arms)) || has_name x l.keys) ≡ (is_private_within_arms x (arm_trees l.arms) || has_name x l.fn.keys)

use Rattle.std.proofs.Common.{◌≡◌, ◌||◌, List, ℕ, drop}
use Rattle.fl_ast.specs.Tree.{stmt_trees, arm_trees}
use Rattle.fl_types.specs.Sharing.{has_name, varies_in, varies_in_arms}
use Rattle.known_names.proofs.marks.+varying.Given as goal

-- with those of the rest all are there
abbrev pub invariant-mark_varying-loop-stmt : goal.invariant-mark_varying-loop-stmt
invariant-mark_varying-loop-stmt l = (x : List ℕ) → (varies_in x (stmt_trees (drop l.stmt-index l.stmts)) || has_name x l.keys) ≡ (varies_in x (stmt_trees l.stmts) || has_name x l.fn.keys)

-- with those of the rest all are there
abbrev pub invariant-mark_varying_in_arms-loop-arm : goal.invariant-mark_varying_in_arms-loop-arm
invariant-mark_varying_in_arms-loop-arm l = (x : List ℕ) → (varies_in_arms x (arm_trees (drop l.arm-index l.arms)) || has_name x l.keys) ≡ (varies_in_arms x (arm_trees l.arms) || has_name x l.fn.keys)

use Rattle.std.proofs.Common.{◌≡◌, ◌||◌, List, ℕ, drop}
use Rattle.std.specs.Prelude.{true}
use Rattle.fl_types.specs.Sharing.{has_name, varies_in, varies_in_arms}
use Rattle.resolved.specs.ResolvedStmts.{statements_back, arms_back, are_fit, are_arms_fit}
use Rattle.loop_scopes.proofs.loops.+variables.Given as goal

-- with those of the rest all are there
abbrev pub invariant-mark_variables-loop-stmt : goal.invariant-mark_variables-loop-stmt
invariant-mark_variables-loop-stmt l = record {
  marked : (x : List ℕ) → (varies_in x (statements_back l.table.0 (drop l.stmt-index l.stmts)) || has_name x l.keys) ≡ (varies_in x (statements_back l.table.0 l.stmts) || has_name x l.fn.keys);
  fit : are_fit l.table (drop l.stmt-index l.stmts) ≡ true;
}

abbrev pub invariant-mark_variables_in_arms-loop-arm : goal.invariant-mark_variables_in_arms-loop-arm
invariant-mark_variables_in_arms-loop-arm l = record {
  marked : (x : List ℕ) → (varies_in_arms x (arms_back l.table.0 (drop l.arm-index l.arms)) || has_name x l.keys) ≡ (varies_in_arms x (arms_back l.table.0 l.arms) || has_name x l.fn.keys);
  fit : are_arms_fit l.table (drop l.arm-index l.arms) ≡ true;
}

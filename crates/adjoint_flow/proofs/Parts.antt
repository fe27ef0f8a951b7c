-- Lists of statements and of arms, element by element.
use Rattle.std.proofs.Common.{◌≡◌, ℕ, ◌+◌, List, [], ◌∷◌, ◌++◌, length, suc, arith, refl, ap}
use Rattle.fl_ast.specs.declared.stmt.Stmt.{Stmt}
use Rattle.fl_ast.specs.declared.stmt.Arm.{Arm}
use Rattle.fl_ast.specs.Tree.{Condition, stmt_trees, arm_tree, arm_trees}
use Rattle.fl_ast.specs.AdjointTree.{AdjointStatement, AdjointStatements, adjoint_arm, adjoint_arms_of, adjoint_statements_of}
use Rattle.adjoint_rules.specs.Scopes.{Scope}
use Rattle.adjoint_rules.specs.Forward.{forward_all, forward_arms, arm_number, arm_count}
use Rattle.adjoint_rules.specs.Reverse.{backward_all, backward_arms, is_arm}

abbrev pub forward_parts : Scope → List Stmt → List AdjointStatement
forward_parts scope ss = forward_all (stmt_trees ss) scope

abbrev pub forward_arm_parts : Scope → ℕ → ℕ → List Arm → List (Condition × AdjointStatements)
forward_arm_parts scope line m [] = []
forward_arm_parts scope line m (a ∷ rest) =
    ((arm_tree a).0, adjoint_statements_of (forward_all (arm_tree a).1 scope ++ arm_number scope line m ∷ [])) ∷ forward_arm_parts scope line (m + 1) rest

pub forward_arms_are : (scope : Scope) (line m : ℕ) (arms : List Arm) → adjoint_arms_of (forward_arm_parts scope line m arms) ≡ forward_arms (arm_trees arms) line m scope
forward_arms_are scope line m [] = refl
forward_arms_are scope line m (a ∷ rest) =
    ap (adjoint_arm (arm_tree a).0 (adjoint_statements_of (forward_all (arm_tree a).1 scope ++ arm_number scope line m ∷ []))) (forward_arms_are scope line (m + 1) rest)

abbrev pub backward_arm_parts : Scope → ℕ → List Arm → List (Condition × AdjointStatements)
backward_arm_parts scope m [] = []
backward_arm_parts scope m (a ∷ rest) = (is_arm m, adjoint_statements_of (backward_all (arm_tree a).1 scope)) ∷ backward_arm_parts scope (m + 1) rest

pub backward_arms_are : (scope : Scope) (m : ℕ) (arms : List Arm) → adjoint_arms_of (backward_arm_parts scope m arms) ≡ backward_arms (arm_trees arms) m scope
backward_arms_are scope m [] = refl
backward_arms_are scope m (a ∷ rest) = ap (adjoint_arm (is_arm m) (adjoint_statements_of (backward_all (arm_tree a).1 scope))) (backward_arms_are scope (m + 1) rest)

pub arms_counted : (arms : List Arm) → arm_count (arm_trees arms) ≡ length arms
arms_counted [] = refl
arms_counted (a ∷ rest) = let more : 1 + arm_count (arm_trees rest) ≡ suc (length rest) = omega (arith, arms_counted rest) in more

abbrev pub backward_parts : Scope → List Stmt → List AdjointStatement
backward_parts scope ss = backward_all (stmt_trees ss) scope

-- What is asked of the active names and the choices of an adjoint, so that some text reads as it.
use Rattle.std.specs.Prelude.{◌≡◌, ◌≤◌, max, ℕ, Bool, true, not, ◌&&◌, List, map, Some, None}
use Rattle.std.specs.List.{list_all}
use Rattle.fl_ast.specs.declared.decl.Decl.{Decl}
use Rattle.fl_ast.specs.declared.directive.Directive.{Directive}
use Rattle.fl_ast.specs.declared.adjoint.Adjoint.{Adjoint}
use Rattle.fl_ast.specs.declared.stmt.Program.{Program}
use Rattle.fl_ast.specs.Tree.{Statement, assignment, branch, loop, Statements, no_statements, statement, Arms, no_arms, arm, stmt_trees}
use Rattle.fl_ast.specs.AdjointTree.{adjoint_tree, astmt_trees}
use Rattle.fl_ast.specs.ReadableAdjoint.{IsReadableAdjoint, deepest_in_adjoints}
use Rattle.fl_types.specs.declared.choice.Chosen.{Chosen}
use Rattle.fl_types.specs.Sharing.{sharing_in, is_private}
use Rattle.fl_types.specs.Declarations.{is_declared}
use Rattle.fl_types.specs.WellTyped.{IsTyped}
use Rattle.adjoint_rules.specs.Scopes.{has_choice, is_reduction}
use Rattle.adjoint_rules.specs.Adjoint.{adjoint_of}

-- no adjoint of a private name of the loop is collected by its iterations
abbrev pub is_fair_loop : List Chosen → List (List ℕ) → ℕ → List ℕ → Directive → Statements → Bool
is_fair_loop choices names number var directive body =
    list_all (λ x. not (is_private (sharing_in var directive body x) && has_choice is_reduction choices number x)) names

abbrev mutual
  pub is_fair : List Chosen → List (List ℕ) → Statement → Bool
  is_fair choices names (assignment line atomic target value) = true
  is_fair choices names (branch line arms other) = are_fair_arms choices names arms && are_fair choices names other
  is_fair choices names (loop line number None var first last step body) = are_fair choices names body
  is_fair choices names (loop line number (Some directive) var first last step body) =
      is_fair_loop choices names number var directive body && are_fair choices names body

  pub are_fair : List Chosen → List (List ℕ) → Statements → Bool
  are_fair choices names no_statements = true
  are_fair choices names (statement s ss) = is_fair choices names s && are_fair choices names ss

  pub are_fair_arms : List Chosen → List (List ℕ) → Arms → Bool
  are_fair_arms choices names no_arms = true
  are_fair_arms choices names (arm test body arms) = are_fair choices names body && are_fair_arms choices names arms

-- each active name is declared, and the choices are fair in each loop
pub record IsFitting (p : Program) (active : List ℕ → Bool) (choices : List Chosen) : Type 0 where
  pub declared : (x : List ℕ) → active x ≡ true → is_declared p.decls x ≡ true
  pub fair : are_fair choices (map (λ (d : Decl). d.name) p.decls) (stmt_trees p.body) ≡ true

-- The adjoint is readable, with a level to spare: the target of `formad_pop` stands in a bracket of its own.
pub record IsReadableWithRoom (a : Adjoint) : Type 0 where
  pub readable : IsReadableAdjoint a
  pub room : max (deepest_in_adjoints (astmt_trees a.forward)) (deepest_in_adjoints (astmt_trees a.reverse)) ≤ 255

-- the adjoint of a typed program, for any needed names
abbrev pub AdjointsAreReadable : Type 0
AdjointsAreReadable =
    (p : Program) (active needed : List ℕ → Bool) (choices : List Chosen) (a : Adjoint) → IsTyped p → IsFitting p active choices
    → adjoint_tree a ≡ adjoint_of p active needed choices → IsReadableWithRoom a

-- Which accesses of a loop are in right sides of assignments to active names, in the order of the accesses.
use Rattle.std.specs.Prelude.{ℕ, Bool, false, List, [], ◌++◌, map}
use Rattle.fl_ast.specs.Tree.{Statement, assignment, branch, loop, Statements, no_statements, statement, Arms, no_arms, arm}
use Rattle.fl_types.specs.declared.access.AccessKind.TheVariants.{Write}
use Rattle.fl_types.specs.Increment.{increment_terms}
use Rattle.fl_types.specs.Accesses.{Scope, Occurrence, access, reads_all, condition_reads}
use Rattle.index_forms.specs.Increments.{value_reads}
use Rattle.index_forms.specs.Walk.{bounds_reads}

-- the same for each
abbrev pub marked : Bool → List Occurrence → List Bool
marked b os = map (λ (o : Occurrence). b) os

-- the right side of an increment is its terms. Lines, paths, and what an access does at its place, play no part
abbrev mutual
  pub rights_by : Scope → (active : List ℕ → Bool) → Statement → List Bool
  rights_by c active (assignment line atomic p e) =
      marked (active p.name) (value_reads c e (increment_terms c.ring p e)) ++ marked false (reads_all c 0 [] p.subscripts ++ access c 0 [] Write p)
  rights_by c active (branch line arms other) = rights_in_arms c active arms ++ rights_in c active other
  rights_by c active (loop line number directive var first last step body) = marked false (bounds_reads c first last step) ++ rights_in c active body

  pub rights_in : Scope → (active : List ℕ → Bool) → Statements → List Bool
  rights_in c active no_statements = []
  rights_in c active (statement s ss) = rights_by c active s ++ rights_in c active ss

  pub rights_in_arms : Scope → (active : List ℕ → Bool) → Arms → List Bool
  rights_in_arms c active no_arms = []
  rights_in_arms c active (arm test body arms) = marked false (condition_reads c 0 [] test) ++ (rights_in c active body ++ rights_in_arms c active arms)

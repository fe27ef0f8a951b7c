-- The groups of accesses of a parallel loop, as they stand in its text: with what is known there, and how many accesses come before.
use Rattle.std.specs.Prelude.{◌≡◌, ℕ, suc, ◌+◌, ℤ, Option, List, [], ◌∷◌, ◌++◌, length, Ok}
use Rattle.fl_ast.specs.Tree.{Expression, Statement, assignment, branch, loop, Statements, no_statements, statement, Arms, no_arms, arm}
use Rattle.fl_types.specs.declared.access.PathStep.{PathStep}
use Rattle.fl_types.specs.declared.access.PathStep.TheVariants.{Arm, Body}
use Rattle.fl_types.specs.Increment.{increment_terms}
use Rattle.fl_types.specs.Accesses.{Scope, Occurrence, reads, step_reads, condition_reads, accesses, accesses_all, statement_count, statements_count, test_path}
use Rattle.meaning.specs.declared.value.Value.{Value}
use Rattle.meaning.specs.Sites.{Cells, Site}
use Rattle.meaning.specs.Expressions.{values_of}
use Rattle.meaning.specs.Groups.{Group, right_accesses}
use Rattle.index_forms.specs.Form.{Atom}
use Rattle.index_forms.specs.Formed.{Known, formed_all}
use Rattle.index_forms.specs.Loops.{written_in}
use Rattle.index_forms.specs.Walk.{Setting, viewed, without, known_after, known_inside}
use Rattle.index_law.specs.Worth.{HoldsKnown, AgreesOn, AreIndices}

-- accesses that are evaluated together; `before` is how many accesses come before them
pub record Spot : Type 0 where
  pub known : Known
  pub before : ℕ
  pub path : List PathStep
  pub accesses : List Occurrence
  pub target : List ℕ
  pub right : List Occurrence

-- of a condition or bounds
abbrev pub spot_at : Known → ℕ → List PathStep → List Occurrence → Spot
spot_at k a path os = record { known = k; before = a; path = path; accesses = os; target = []; right = [] }

abbrev pub bounds_accesses : Scope → ℕ → List PathStep → (low high : Expression) → Option Expression → List Occurrence
bounds_accesses scope line path low high step = reads scope line path low ++ (reads scope line path high ++ step_reads scope line path step)

-- what follows an `if`'s arms: the number of its first statement, what is known, its path, and how many accesses come before
abbrev pub Rest : Type 0
Rest = ℕ → Known → List PathStep → ℕ → List Spot

-- of statements whose first has number n
abbrev mutual
  pub spots_of : Setting → ℕ → Known → List PathStep → ℕ → Statement → List Spot
  spots_of c n k path a (assignment line atomic p e) =
      record {
        known = k;
        before = a;
        path = path;
        accesses = accesses c.scope n path (assignment line atomic p e);
        target = p.name;
        right = right_accesses c.scope line path e (increment_terms c.scope.ring p e);
      }
      ∷ []
  spots_of c n k path a (branch line arms other) = spots_in_arms c line n (n + 1) 0 k path a arms (λ j h steps b. spots_in c j h steps b other)
  spots_of c n k path a (loop line number directive var low high step body) =
      spot_at k a path (bounds_accesses c.scope line path low high step)
      ∷ spots_in c (n + 1) (known_inside c.side number var body k) (path ++ Body n ∷ []) (a + length (bounds_accesses c.scope line path low high step)) body

  pub spots_in : Setting → ℕ → Known → List PathStep → ℕ → Statements → List Spot
  spots_in c n k path a no_statements = []
  spots_in c n k path a (statement s ss) =
      spots_of c n k path a s ++ spots_in c (n + statement_count s) (known_after c.side n s k) path (a + length (accesses c.scope n path s)) ss

  -- the arms from the m-th on of the `if` with number n, whose first statement has number j
  pub spots_in_arms : Setting → (line n j m : ℕ) → Known → List PathStep → ℕ → Arms → Rest → List Spot
  spots_in_arms c line n j m k path a no_arms other = other j k (path ++ Arm n m ∷ []) a
  spots_in_arms c line n j m k path a (arm test body arms) other =
      let tests = condition_reads c.scope line (test_path path n m) test in
      let inner = accesses_all c.scope j (path ++ Arm n m ∷ []) body in
      spot_at k a (test_path path n m) tests
      ∷ (spots_in c j k (path ++ Arm n m ∷ []) (a + length tests) body
      ++ spots_in_arms c line n (j + statements_count body) (m + 1) (without (written_in body) k) path (a + length tests + length inner) arms other)

-- each access has the values that a valuation gives its atoms, the first being number a + 1; its subscripts are of the index kind
abbrev pub AllAgree : (Atom → ℤ) → Setting → Known → ℕ → Site → Cells → List Occurrence → Type 0
AllAgree v c k a site cells [] = Unit {0}
AllAgree v c k a site cells (o ∷ os) =
    (AgreesOn v site cells (formed_all (viewed c k (suc a)) 0 o.place.subscripts).leaves
    × ((vs : List Value) → (values_of o.place.subscripts site cells).out ≡ Ok vs → AreIndices vs))
    × AllAgree v c k (suc a) site cells os

-- a group that a run evaluates is a spot's, and a valuation has its values
pub record Met (v : Atom → ℤ) (c : Setting) (s : Spot) (g : Group) : Type 0 where
  pub accesses : g.accesses ≡ s.accesses
  pub target : g.target ≡ s.target
  pub right : g.right ≡ s.right
  pub known : HoldsKnown v s.known g.site g.cells
  pub agrees : AllAgree v c s.known s.before g.site g.cells s.accesses

-- Accesses with their numbers.
use Rattle.std.specs.Prelude.{ℕ, suc, List, [], ◌∷◌}
use Rattle.fl_ast.specs.Tree.{place_tree}
use Rattle.fl_types.specs.declared.access.Access.{Access}
use Rattle.fl_types.specs.Accesses.{Occurrence}

-- an occurrence with its number among those of the loop with a number
pub record Numbered : Type 0 where
  pub number : ℕ
  pub loop_number : ℕ
  pub occurrence : Occurrence

-- from a number on
abbrev pub numbered : (loop_number from : ℕ) → List Occurrence → List Numbered
numbered l n [] = []
numbered l n (o ∷ os) = record { number = n; loop_number = l; occurrence = o } ∷ numbered l (suc n) os

abbrev pub numbered_of : Access → Numbered
numbered_of a = record { number = a.number; loop_number = a.loop_number; occurrence = record { line = a.line; place = place_tree a.place; path = a.path; kind = a.kind } }

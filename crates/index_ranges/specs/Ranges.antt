-- Ranges: the least and the greatest value that the variable of a sequential loop has in its turns.
use Rattle.std.specs.Prelude.{ℕ, ◌-◌, ◌%◌, if◌then◌else◌, ℤ, pos, ◌-ℤ◌, int_lt, int_le, unsigned_abs, List, [], ◌∷◌, ◌++◌, Option, Some, None}
use Rattle.fl_ast.specs.Tree.{Expression, Statement, assignment, branch, loop, Statements, no_statements, statement, Arms, no_arms, arm}
use Rattle.index_forms.specs.Loops.{signed_number, step_number}

-- of the loop with a number: the least value, and how far the greatest one is above it
pub record KnownRange : Type 0 where
  pub number : ℕ
  pub least : ℤ
  pub width : ℕ

-- from a first value to a last one by a step, where there is a turn
abbrev pub range_of : ℕ → (first last step : ℤ) → Option KnownRange
range_of n a b c =
    if int_lt b a then None
    else if int_le c (pos 0) then None
    else Some (record { number = n; least = a; width = unsigned_abs (b -ℤ a) - unsigned_abs (b -ℤ a) % unsigned_abs c })

-- where all three are literals
abbrev pub range_by : ℕ → (first last step : Option ℤ) → Option KnownRange
range_by n (Some a) (Some b) (Some c) = range_of n a b c
range_by n a b c = None

abbrev pub loop_range : ℕ → (first last : Expression) → (step : Option Expression) → Option KnownRange
loop_range n low high step = range_by n (signed_number low) (signed_number high) (step_number step)

abbrev pub listed : Option KnownRange → List KnownRange
listed None = []
listed (Some r) = r ∷ []

-- of the sequential loops of a tree, in textual order
abbrev mutual
  pub ranges_by : Statement → List KnownRange
  ranges_by (assignment line atomic p e) = []
  ranges_by (branch line arms other) = ranges_in_arms arms ++ ranges_in other
  ranges_by (loop line number directive var low high step body) = listed (loop_range number low high step) ++ ranges_in body

  pub ranges_in : Statements → List KnownRange
  ranges_in no_statements = []
  ranges_in (statement s ss) = ranges_by s ++ ranges_in ss

  pub ranges_in_arms : Arms → List KnownRange
  ranges_in_arms no_arms = []
  ranges_in_arms (arm test body arms) = ranges_in body ++ ranges_in_arms arms

-- Loops by their numbers, and the ranges of their variables.
use Rattle.std.specs.Prelude.{◌≡◌, ℕ, ◌<◌, Bool, false, ◌||◌, nat_eq, ℤ, pos, ◌+ℤ◌, ◌≤ℤ◌, List, [], ◌∷◌, Option, Some, Ok}
use Rattle.fl_ast.specs.Tree.{Expression, Statement, assignment, branch, loop, Statements, no_statements, statement, Arms, no_arms, arm}
use Rattle.meaning.specs.declared.value.IterationCount.{IterationCount}
use Rattle.meaning.specs.Sites.{Cells, Site}
use Rattle.meaning.specs.Statements.{turns_of, value_at}
use Rattle.index_forms.specs.Form.{Atom, start, iter, inner, inv, version, read, opaque, start2, iter2}
use Rattle.index_ranges.specs.Ranges.{KnownRange, loop_range}
use Rattle.apart_law.specs.Bindings.{Binding}

-- a loop with this number is in a tree
abbrev mutual
  pub numbers_by : Statement → ℕ → Bool
  numbers_by (assignment line atomic p e) l = false
  numbers_by (branch line arms other) l = numbers_in_arms arms l || numbers_in other l
  numbers_by (loop line number directive var low high step body) l = nat_eq l number || numbers_in body l

  pub numbers_in : Statements → ℕ → Bool
  numbers_in no_statements l = false
  numbers_in (statement s ss) l = numbers_by s l || numbers_in ss l

  pub numbers_in_arms : Arms → ℕ → Bool
  numbers_in_arms no_arms l = false
  numbers_in_arms (arm test body arms) l = numbers_in body l || numbers_in_arms arms l

-- no loop has the number of one around it, and the ranges that are known by number are those of the loops
abbrev mutual
  pub IsNumbered : (ℕ → Option KnownRange) → Statement → Type 0
  IsNumbered range (assignment line atomic p e) = Unit {0}
  IsNumbered range (branch line arms other) = AreNumberedArms range arms × AreNumbered range other
  IsNumbered range (loop line number directive var low high step body) =
      (numbers_in body number ≡ false) × ((r : KnownRange) → range number ≡ Some r → loop_range number low high step ≡ Some r) × AreNumbered range body

  pub AreNumbered : (ℕ → Option KnownRange) → Statements → Type 0
  AreNumbered range no_statements = Unit {0}
  AreNumbered range (statement s ss) = IsNumbered range s × AreNumbered range ss

  pub AreNumberedArms : (ℕ → Option KnownRange) → Arms → Type 0
  AreNumberedArms range no_arms = Unit {0}
  AreNumberedArms range (arm test body arms) = AreNumbered range body × AreNumberedArms range arms

-- the value of a loop's variable lies in the loop's range, where it is known
abbrev pub LiesIn : KnownRange → ℤ → Type 0
LiesIn r z = (r.least ≤ℤ z) × (z ≤ℤ (r.least +ℤ pos r.width))

-- in each turn
abbrev pub RangesHold : Type 0
RangesHold =
    (site : Site) (cells : Cells) (low high : Expression) (step : Option Expression) (t : IterationCount) (m : ℕ) → (turns_of low high step site cells).out ≡ Ok t → m < t.count →
    (number : ℕ) (r : KnownRange) → loop_range number low high step ≡ Some r → LiesIn r (value_at t m)

abbrev pub IsInRange : (ℕ → Option KnownRange) → Atom → ℤ → Type 0
IsInRange range (inner s l) z = (r : KnownRange) → range l ≡ Some r → LiesIn r z
IsInRange range start z = Unit {0}
IsInRange range (iter s) z = Unit {0}
IsInRange range (inv x) z = Unit {0}
IsInRange range (version s n x) z = Unit {0}
IsInRange range (read x fs) z = Unit {0}
IsInRange range (opaque s a n) z = Unit {0}
IsInRange range start2 z = Unit {0}
IsInRange range (iter2 s) z = Unit {0}

abbrev pub AreInRange : (ℕ → Option KnownRange) → List Binding → Type 0
AreInRange range [] = Unit {0}
AreInRange range (b ∷ bs) = IsInRange range b.0 b.1 × AreInRange range bs

-- Which names' values a tree reads.
use Rattle.std.specs.Prelude.{◌≡◌, ℕ, Bool, true, false, ◌||◌, List, [], ◌∷◌}
use Rattle.fl_ast.specs.declared.kind.Kind.TheVariants as kind
use Rattle.fl_ast.specs.declared.kind.Fun.{Fun}
use Rattle.fl_ast.specs.declared.kind.Fun.TheVariants as fun
use Rattle.fl_ast.specs.Tree.{Expression, literal, get, minus, binary, power, call, Expressions, no_expressions, expression, Condition, relation, negation, conjunction, disjunction}
use Rattle.transposition.specs.Spread.{Factor, operand, either, Occurrence}
use Rattle.transposition.specs.Law.{Use}

abbrev mutual
  -- each name of the expression is needed
  pub Needs : Use → Expression → Type 0
  Needs u (literal n k) = Unit {0}
  Needs u (get x s) = (u.needed x ≡ true) × NeedsAll u s
  Needs u (minus a) = Needs u a
  Needs u (binary o a b) = Needs u a × Needs u b
  Needs u (power a n) = Needs u a
  Needs u (call f s) = NeedsAll u s

  pub NeedsAll : Use → Expressions → Type 0
  NeedsAll u no_expressions = Unit {0}
  NeedsAll u (expression a s) = Needs u a × NeedsAll u s

abbrev pub NeedsCondition : Use → Condition → Type 0
NeedsCondition u (relation o a b) = Needs u a × Needs u b
NeedsCondition u (negation a) = NeedsCondition u a
NeedsCondition u (conjunction a b) = NeedsCondition u a × NeedsCondition u b
NeedsCondition u (disjunction a b) = NeedsCondition u a × NeedsCondition u b

abbrev pub NeedsFactor : Use → Factor → Type 0
NeedsFactor u (operand e) = Needs u e
NeedsFactor u (either n m t) = NeedsCondition u t

abbrev pub NeedsFactors : Use → List Factor → Type 0
NeedsFactors u [] = Unit {0}
NeedsFactors u (f ∷ fs) = NeedsFactor u f × NeedsFactors u fs

-- the increments read needed names alone, and their names are live
pub record NeedsOne (u : Use) (o : Occurrence) : Type 0 where
  pub factors : NeedsFactors u o.factors
  pub subscripts : NeedsAll u o.place.subscripts
  pub live : u.live o.place.name ≡ true

abbrev pub NeedsEach : Use → List Occurrence → Type 0
NeedsEach u [] = Unit {0}
NeedsEach u (o ∷ os) = NeedsOne u o × NeedsEach u os

abbrev mutual
  -- an occurrence of a name without an adjoint, subscripts aside, has no tangent
  pub Quiet : (List ℕ → Bool) → Use → Expression → Type 0
  Quiet on u (literal n k) = Unit {0}
  Quiet on u (get x s) = on x ≡ false → u.moved x ≡ false
  Quiet on u (minus a) = Quiet on u a
  Quiet on u (binary o a b) = Quiet on u a × Quiet on u b
  Quiet on u (power a n) = Quiet on u a
  Quiet on u (call f s) = QuietAll on u s

  pub QuietAll : (List ℕ → Bool) → Use → Expressions → Type 0
  QuietAll on u no_expressions = Unit {0}
  QuietAll on u (expression a s) = Quiet on u a × QuietAll on u s

abbrev mutual
  -- the expression is of the ring kind: one of its operands is, subscripts aside
  pub is_data : (List ℕ → Bool) → Expression → Bool
  is_data ring (literal n kind.Ring) = true
  is_data ring (literal n kind.Index) = false
  is_data ring (get x s) = ring x
  is_data ring (minus a) = is_data ring a
  is_data ring (binary o a b) = is_data ring a || is_data ring b
  is_data ring (power a n) = is_data ring a
  is_data ring (call f s) = has_data ring s

  pub has_data : (List ℕ → Bool) → Expressions → Bool
  has_data ring no_expressions = false
  has_data ring (expression a s) = is_data ring a || has_data ring s

-- two operands are of one kind
abbrev pub PairOfOneKind : (List ℕ → Bool) → Expressions → Type 0
PairOfOneKind ring (expression a (expression b no_expressions)) = is_data ring a ≡ is_data ring b
PairOfOneKind ring _ = Unit {0}

abbrev pub ArgumentsOfOneKind : (List ℕ → Bool) → Fun → Expressions → Type 0
ArgumentsOfOneKind ring fun.Max s = PairOfOneKind ring s
ArgumentsOfOneKind ring fun.Min s = PairOfOneKind ring s
ArgumentsOfOneKind ring fun.Abs s = Unit {0}
ArgumentsOfOneKind ring fun.Mod s = Unit {0}

abbrev mutual
  -- `max` and `min` are of operands of one kind, subscripts aside
  pub Kinded : (List ℕ → Bool) → Expression → Type 0
  Kinded ring (literal n k) = Unit {0}
  Kinded ring (get x s) = Unit {0}
  Kinded ring (minus a) = Kinded ring a
  Kinded ring (binary o a b) = Kinded ring a × Kinded ring b
  Kinded ring (power a n) = Kinded ring a
  Kinded ring (call f s) = ArgumentsOfOneKind ring f s × KindedAll ring s

  pub KindedAll : (List ℕ → Bool) → Expressions → Type 0
  KindedAll ring no_expressions = Unit {0}
  KindedAll ring (expression a s) = Kinded ring a × KindedAll ring s

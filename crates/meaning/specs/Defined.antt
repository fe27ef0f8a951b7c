-- Evaluations in which every operation has operands that it is defined for: nothing is answered by default.
use Rattle.std.specs.Prelude.{◌≡◌, ℕ, true, ◌+ℤ◌, ◌-ℤ◌, int_div, List, [], ◌∷◌, length, is_some, Ok}
use Rattle.ring_core.specs.Index.{IsIndex}
use Rattle.store_core.specs.Bounds.{clipped}
use Rattle.meaning.specs.declared.value.IterationCount.{IterationCount}
use Rattle.fl_ast.specs.declared.kind.BinOp.{BinOp}
use Rattle.fl_ast.specs.declared.kind.BinOp.TheVariants.{Add, Sub, Mul, Div}
use Rattle.fl_ast.specs.declared.kind.Fun.{Fun}
use Rattle.fl_ast.specs.declared.kind.Fun.TheVariants.{Max, Min, Abs, Mod}
use Rattle.fl_ast.specs.Tree.{Expression, literal, get, minus, binary, power, call, Expressions, no_expressions, expression, Condition, relation, negation, conjunction, disjunction}
use Rattle.meaning.specs.declared.value.Value.{Value}
use Rattle.meaning.specs.declared.value.Value.TheVariants.{Index, Ring}
use Rattle.meaning.specs.Sites.{Cells, Site, place_of}
use Rattle.meaning.specs.Expressions.{value_of, values_of}
use Rattle.meaning.specs.Fitting.{keys_have_rank}

abbrev pub IsIndexValue : Value → Type 0
IsIndexValue (Index z) = Unit {0}
IsIndexValue (Ring d) = ⊥

abbrev pub AreIndexValues : List Value → Type 0
AreIndexValues [] = Unit {0}
AreIndexValues (v ∷ vs) = IsIndexValue v × AreIndexValues vs

abbrev pub AreOfOneKind : Value → Value → Type 0
AreOfOneKind (Index a) (Index b) = Unit {0}
AreOfOneKind (Ring a) (Ring b) = Unit {0}
AreOfOneKind (Index a) (Ring b) = ⊥
AreOfOneKind (Ring a) (Index b) = ⊥

-- data is never divided
abbrev pub AreOperands : BinOp → Value → Value → Type 0
AreOperands Add v w = Unit {0}
AreOperands Sub v w = Unit {0}
AreOperands Mul v w = Unit {0}
AreOperands Div v w = IsIndexValue v × IsIndexValue w

abbrev pub AreArguments : Fun → List Value → Type 0
AreArguments Max (v ∷ w ∷ []) = AreOfOneKind v w
AreArguments Min (v ∷ w ∷ []) = AreOfOneKind v w
AreArguments Mod (v ∷ w ∷ []) = IsIndexValue v × IsIndexValue w
AreArguments Abs (v ∷ []) = Unit {0}
AreArguments f vs = ⊥

-- a scalar has its place
abbrev pub HasScalarPlace : Site → List ℕ → List Value → Type 0
HasScalarPlace site x [] = is_some (place_of site x []) ≡ true
HasScalarPlace site x (v ∷ vs) = Unit {0}

-- subscripts are of the index kind, and as many as each key of the name has
pub record AreSubscripts (site : Site) (x : List ℕ) (vs : List Value) : Type 0 where
  pub indices : AreIndexValues vs
  pub rank : keys_have_rank site.keys x (length vs) ≡ true
  pub scalar : HasScalarPlace site x vs

abbrev mutual
  pub IsDefined : Site → Cells → Expression → Type 0
  IsDefined site cells (literal n k) = Unit {0}
  IsDefined site cells (get x ss) = AreDefined site cells ss × ((vs : List Value) → (values_of ss site cells).out ≡ Ok vs → AreSubscripts site x vs)
  IsDefined site cells (minus a) = IsDefined site cells a
  IsDefined site cells (binary op a b) =
      IsDefined site cells a × IsDefined site cells b
      × ((v w : Value) → (value_of a site cells).out ≡ Ok v → (value_of b site cells).out ≡ Ok w → AreOperands op v w)
  IsDefined site cells (power a n) = IsDefined site cells a
  IsDefined site cells (call f args) = AreDefined site cells args × ((vs : List Value) → (values_of args site cells).out ≡ Ok vs → AreArguments f vs)

  pub AreDefined : Site → Cells → Expressions → Type 0
  AreDefined site cells no_expressions = Unit {0}
  AreDefined site cells (expression e es) = IsDefined site cells e × AreDefined site cells es

abbrev pub IsDefinedCondition : Site → Cells → Condition → Type 0
IsDefinedCondition site cells (relation op a b) = IsDefined site cells a × IsDefined site cells b
IsDefinedCondition site cells (negation a) = IsDefinedCondition site cells a
IsDefinedCondition site cells (conjunction a b) = IsDefinedCondition site cells a × IsDefinedCondition site cells b
IsDefinedCondition site cells (disjunction a b) = IsDefinedCondition site cells a × IsDefinedCondition site cells b

-- the bounds and the step of a loop are index numbers, and so its variable is one in each turn
pub record IsFittingCount (t : IterationCount) : Type 0 where
  pub first : IsIndex t.first
  pub last : IsIndex t.last
  pub step : IsIndex t.step
  pub count : t.count ≡ clipped (int_div ((t.last -ℤ t.first) +ℤ t.step) t.step)

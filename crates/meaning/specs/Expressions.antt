-- The value of an expression over cells. Operands are evaluated from the left, all of them, and then the operation.
use Rattle.std.specs.Prelude.{ℕ, Bool, not, ◌&&◌, ◌||◌, if◌then◌else◌, List, [], ◌∷◌, Option, Some, None, Err, slice_get}
use Rattle.fl_ast.specs.Tree.{Expression, literal, get, minus, binary, power, call, Expressions, no_expressions, expression, Condition, relation, negation, conjunction, disjunction}
use Rattle.fl_types.specs.declared.access.AccessKind.{AccessKind}
use Rattle.fl_types.specs.declared.access.AccessKind.TheVariants.{Read}
use Rattle.meaning.specs.declared.value.Value.{Value}
use Rattle.meaning.specs.declared.value.Cause.{Cause}
use Rattle.meaning.specs.declared.value.Cause.TheVariants.{Bounds, Unset}
use Rattle.meaning.specs.Values.{literal_value, binary_result, negation_result, power_result, call_result, relates, whole_numbers}
use Rattle.meaning.specs.Logs.{touched, Traced, pure, lift, after, ◌>>=◌}
use Rattle.meaning.specs.Sites.{Cells, Site, place_of}

-- with a touch first, where an occurrence of the name is an access
abbrev pub after_touch : {X A : Type 0} → Site → List ℕ → ℕ → AccessKind → Traced X A → Traced X A
after_touch site x p kind t =
    if site.accessed x then after (touched p kind) t else t

abbrev pub content_of : Option (Option Value) → Option Value
content_of None = None
content_of (Some c) = c

-- the content of a place
abbrev pub content : Cells → ℕ → Option Value
content cells p = content_of (slice_get cells p)

-- the value of a cell that is set
abbrev pub read_cell : Site → List ℕ → ℕ → Option Value → Traced Cause Value
read_cell site x p None = lift (Err (Unset x))
read_cell site x p (Some v) = after_touch site x p Read (pure v)

abbrev pub read_place : Site → Cells → List ℕ → Option ℕ → Traced Cause Value
read_place site cells x None = lift (Err (Bounds x))
read_place site cells x (Some p) = read_cell site x p (content cells p)

abbrev pub read : Site → Cells → List ℕ → List Value → Traced Cause Value
read site cells x subscripts = read_place site cells x (place_of site x (whole_numbers subscripts))

abbrev mutual
  pub value_of : Expression → Site → Cells → Traced Cause Value
  value_of (literal n kind) site cells = lift (literal_value n kind)
  value_of (get x subscripts) site cells = values_of subscripts site cells >>= read site cells x
  value_of (minus a) site cells = value_of a site cells >>= (λ v. lift (negation_result v))
  value_of (binary op a b) site cells = value_of a site cells >>= (λ v. value_of b site cells >>= (λ w. lift (binary_result op v w)))
  value_of (power a n) site cells = value_of a site cells >>= (λ v. lift (power_result v n))
  value_of (call f args) site cells = values_of args site cells >>= (λ vs. lift (call_result site.width f vs))

  pub values_of : Expressions → Site → Cells → Traced Cause (List Value)
  values_of no_expressions site cells = pure []
  values_of (expression e es) site cells = value_of e site cells >>= (λ v. values_of es site cells >>= (λ vs. pure (v ∷ vs)))

abbrev pub holds : Condition → Site → Cells → Traced Cause Bool
holds (relation op a b) site cells = value_of a site cells >>= (λ v. value_of b site cells >>= (λ w. pure (relates site.width op v w)))
holds (negation a) site cells = holds a site cells >>= (λ p. pure (not p))
holds (conjunction a b) site cells = holds a site cells >>= (λ p. holds b site cells >>= (λ q. pure (p && q)))
holds (disjunction a b) site cells = holds a site cells >>= (λ p. holds b site cells >>= (λ q. pure (p || q)))

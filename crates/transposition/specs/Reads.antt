-- What the reverse part reads. It goes by words, so tangents are 0; and it doesn't trap: what has no value is 0.
use Rattle.std.specs.Prelude.{ℕ, ◌%◌, ◌^◌, ℤ, Bool, not, ◌&&◌, ◌||◌, List, [], ◌∷◌, Option, Ok, Err, pos}
use Rattle.std.specs.Int.{w32, cast_signed}
use Rattle.fl_ast.specs.declared.kind.Kind.{Kind}
use Rattle.fl_ast.specs.declared.kind.Kind.TheVariants as kind
use Rattle.fl_ast.specs.Tree.{Expression, literal, get, minus, binary, power, call, Expressions, no_expressions, expression, Designator, Condition, relation, negation, conjunction, disjunction}
use Rattle.operations.specs.Tree.{Tree, done, ◌giving◌}
use Rattle.meaning.specs.declared.value.Value.{Value}
use Rattle.meaning.specs.declared.value.Value.TheVariants.{Index, Ring}
use Rattle.meaning.specs.Values.{Found, literal_value, negation_result, binary_result, power_result, call_result, relates, whole_numbers}
use Rattle.meaning.specs.Sites.{place_of, kind_of}
use Rattle.transposition.specs.Worlds.{World, Local, at_place, value_load}

-- the number of the index kind that the low half of a word holds
abbrev pub number_in : ℕ → ℤ
number_in x = cast_signed w32 (x % 2 ^ 32)

-- the value of a kind that a word stands for
abbrev pub value_from : Kind → ℕ → Value
value_from kind.Ring x = Ring (record { value = x; tangent = 0 })
value_from kind.Index x = Index (number_in x)

abbrev pub value_or_zero : Found → Value
value_or_zero (Ok v) = v
value_or_zero (Err c) = Index (pos 0)

-- where there is no place, 0 is read
abbrev pub read_at : World → Local → List ℕ → Option ℕ → Tree Value
read_at w l x o = at_place (done 0) (value_load w l) o giving (λ n. done (value_from (kind_of w.site x) n))

abbrev mutual
  pub value_tree : Expression → World → Local → Tree Value
  value_tree (literal n k) w l = done (value_or_zero (literal_value n k))
  value_tree (get x s) w l = values_tree s w l giving (λ vs. read_at w l x (place_of w.site x (whole_numbers vs)))
  value_tree (minus a) w l = value_tree a w l giving (λ v. done (value_or_zero (negation_result v)))
  value_tree (binary op a b) w l = value_tree a w l giving (λ v. value_tree b w l giving (λ u. done (value_or_zero (binary_result op v u))))
  value_tree (power a n) w l = value_tree a w l giving (λ v. done (value_or_zero (power_result v n)))
  value_tree (call f args) w l = values_tree args w l giving (λ vs. done (value_or_zero (call_result w.site.width f vs)))

  pub values_tree : Expressions → World → Local → Tree (List Value)
  values_tree no_expressions w l = done []
  values_tree (expression e es) w l = value_tree e w l giving (λ v. values_tree es w l giving (λ vs. done (v ∷ vs)))

abbrev pub holds_tree : Condition → World → Local → Tree Bool
holds_tree (relation op a b) w l = value_tree a w l giving (λ v. value_tree b w l giving (λ u. done (relates w.site.width op v u)))
holds_tree (negation a) w l = holds_tree a w l giving (λ p. done (not p))
holds_tree (conjunction a b) w l = holds_tree a w l giving (λ p. holds_tree b w l giving (λ q. done (p && q)))
holds_tree (disjunction a b) w l = holds_tree a w l giving (λ p. holds_tree b w l giving (λ q. done (p || q)))

-- the place of a designator, None outside its bounds
abbrev pub place_tree : Designator → World → Local → Tree (Option ℕ)
place_tree p w l = values_tree p.subscripts w l giving (λ vs. done (place_of w.site p.name (whole_numbers vs)))

-- The place of an occurrence, by its slot.
use Rattle.std.specs.Prelude.{◌≡◌, ℕ, zero, suc, ℤ, List, [], ◌∷◌, Option, Result, Ok, Err, slice_get, slice_index_or, length, ◌<◌, ◌≤◌, option_and_then, refl}
use Rattle.std.proofs.Common.{arith, ap}
use Rattle.store_core.specs.declared.layout.Shape.{Shape}
use Rattle.store_core.specs.Keys.{place_in_slot, place_of as place_in_shapes}
use Rattle.fl_ast.specs.Tree.{Expression, Expressions, no_expressions, expression}
use Rattle.meaning.specs.declared.value.Value.{Value}
use Rattle.meaning.specs.declared.value.Cause.{Cause}
use Rattle.meaning.specs.Values.{whole_number, whole_numbers}
use Rattle.meaning.specs.Logs.{Log, pure, continuation, ◌>>=◌}
use Rattle.meaning.specs.Expressions.{value_of, values_of}
use Rattle.dual_evaluation.specs.Answers.{numbers_of, location_of}
use Rattle.resolved.specs.SlotTables.{Names, table_site}
use Rattle.resolved.specs.declared.resolved.ResolvedExpr.{ResolvedExpr}
use Rattle.resolved.specs.ResolvedExprs.{slot_name, shape_name, expression_back, expressions_back}
use Rattle.meaning.specs.Sites.{Cells, Site, place_of}

by_shapes : (all shapes : List Shape) (slot : ℕ) (numbers : List ℤ) → slot < length shapes
    → option_and_then (λ (s : Shape). place_in_shapes all s.name numbers) (slice_get shapes slot) ≡ place_in_shapes all (shape_name (slice_get shapes slot)) numbers
by_shapes all [] slot numbers h = absurd (omega arith)
by_shapes all (s ∷ shapes) zero numbers h = refl
by_shapes all (s ∷ shapes) (suc slot) numbers h = by_shapes all shapes slot numbers (omega arith)

-- the place in a slot is the place of its name
pub place_by_slot : (names : Names) (slot : ℕ) (numbers : List ℤ) → slot < length names.0 → place_in_slot names.0 slot numbers ≡ place_of (table_site names) (slot_name names.0 slot) numbers
place_by_slot names slot numbers h = by_shapes names.0 names.0 slot numbers h

joined_place : (l : Log) (r : Result (List Value) Cause) (f : List ℤ → Option ℕ) (zs : List ℤ) → numbers_of r ≡ Ok zs
    → (continuation {X = Cause} {A = List Value} {B = Option ℕ} l r (λ vs. pure (f (whole_numbers vs)))).out ≡ Ok (f zs)
joined_place l (Ok vs) f zs e = let q : whole_numbers vs ≡ zs = cc in ap (λ ws. Ok (f ws)) q
joined_place l (Err c) f zs e = absurd (cc)

-- where the numbers of the subscripts are these, the place is theirs
pub located_at : (site : Site) (cells : Cells) (name : List ℕ) (subscripts : Expressions) (zs : List ℤ) → numbers_of (values_of subscripts site cells).out ≡ Ok zs
    → (location_of site cells (record { name = name; subscripts = subscripts })).out ≡ Ok (place_of site name zs)
located_at site cells name subscripts zs e = joined_place (values_of subscripts site cells).log (values_of subscripts site cells).out (place_of site name) zs e

joined_one : (site : Site) (cells : Cells) (l : Log) (r : Result Value Cause) (v : Value) → r ≡ Ok v
    → numbers_of (continuation {X = Cause} {A = Value} {B = List Value} l r (λ w. values_of no_expressions site cells >>= (λ vs. pure (w ∷ vs)))).out ≡ Ok (whole_number v ∷ [])
joined_one site cells l (Ok w) v e = let q : w ≡ v = cc in ap (λ u. Ok (whole_number u ∷ [])) q
joined_one site cells l (Err c) v e = absurd (cc)

-- the number of one subscript
pub one_number : (site : Site) (cells : Cells) (e : Expression) (v : Value) → (value_of e site cells).out ≡ Ok v
    → numbers_of (values_of (expression e no_expressions) site cells).out ≡ Ok (whole_number v ∷ [])
one_number site cells e v h = joined_one site cells (value_of e site cells).log (value_of e site cells).out v h

-- ---- subscripts as a slice has them

pub empty_of : (es : List ResolvedExpr) → length es < 1 → es ≡ []
empty_of [] h = refl
empty_of (e ∷ es) h = absurd (omega (arith, h))

pub one_of : (shapes : List Shape) (es : List ResolvedExpr) (e : ResolvedExpr) → 1 ≤ length es → length es < 2 → e ≡ slice_index_or es 0 e
    → expressions_back shapes es ≡ expression (expression_back shapes e) no_expressions
one_of shapes [] e a b f = absurd (omega (arith, a))
one_of shapes (x ∷ []) e a b f = rw f refl
one_of shapes (x ∷ y ∷ es) e a b f = absurd (omega (arith, b))

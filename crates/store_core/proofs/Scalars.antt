-- Places of scalars.
use Rattle.std.proofs.Common.{◌≡◌, ℕ, zero, suc, ◌<◌, true, List, [], ◌∷◌, length, take, slice_get, Some, option_and_then, refl, ap, ◌∙◌, arith, length-append}
use Rattle.std.proofs.lemmas.Bool.{and_parts}
use Rattle.store_core.specs.declared.bound.Axis.{Axis}
use Rattle.store_core.specs.declared.layout.Shape.{Shape}
use Rattle.store_core.specs.Keys.{keys_of, keys_of_shape, place_of, place_in_slot, size_of, HasEachOnce}
use Rattle.store_core.specs.Places.{is_empty, are_scalars}
use Rattle.store_core.proofs.Slots.{place_slot, length_shape}

pub no_axes : (axes : List Axis) → is_empty axes ≡ true → axes ≡ []
no_axes [] h = refl
no_axes (a ∷ axes) h = cc

pub record ScalarAt (es : List Shape) (slot : ℕ) : Type 0 where
  pub shape : Shape
  pub is : slice_get es slot ≡ Some shape
  pub scalar : shape.axes ≡ []
  pub below : length (keys_of (take slot es)) < length (keys_of es)

pub scalar_at : (es : List Shape) (slot : ℕ) → are_scalars es ≡ true → slot < length es → ScalarAt es slot
scalar_at [] slot h l = absurd (omega arith)
scalar_at (s ∷ es) zero h l =
    let axes = no_axes s.axes (and_parts (is_empty s.axes) (are_scalars es) h).0 in
    let one : length (keys_of_shape s) ≡ 1 = length_shape s ∙ ap size_of axes in
    let sum = length-append (keys_of_shape s) (keys_of es) in
    record { shape = s; is = refl; scalar = axes; below = omega arith }
scalar_at (s ∷ es) (suc slot) h l =
    let m : slot < length es = omega arith in
    let r = scalar_at es slot (and_parts (is_empty s.axes) (are_scalars es) h).1 m in
    let sum = length-append (keys_of_shape s) (keys_of es) in
    let front = length-append (keys_of_shape s) (keys_of (take slot es)) in
    record { shape = r.shape; is = r.is; scalar = r.scalar; below = omega (arith, r.below) }

pub scalar_place_is : (es : List Shape) (slot : ℕ) → HasEachOnce es → ScalarAt es slot → place_in_slot es slot [] ≡ Some (length (keys_of (take slot es)))
scalar_place_is es slot once r =
    ap (option_and_then (λ (s : Shape). place_of es s.name [])) r.is
    ∙ (place_slot es slot r.shape [] r.is once ∙ (rw r.scalar (ap Some (omega arith))))

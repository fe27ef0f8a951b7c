-- What is known of the parts of trees that are split.
use Rattle.std.specs.Prelude.{◌≡◌, ℕ, zero, suc, ◌<◌, Bool, true, false, not, ◌&&◌, ◌||◌, ℤ, List, [], ◌∷◌, length, slice_get, option_and_then, refl}
use Rattle.std.proofs.Common.{arith, rules}
use Rattle.store_core.specs.declared.layout.Shape.{Shape}
use Rattle.store_core.specs.Keys.{place_in_slot, place_of as place_in_shapes}
use Rattle.meaning.specs.Sites.{place_of}
use Rattle.sweep_trees.specs.Split.{ring_tree, ring_larger, ring_smaller}
use Rattle.sweep_trees.specs.declared.code.RingCode.{RingCode, the_lemmas as ring_lemmas}
use Rattle.sweep_trees.specs.declared.code.RingCode.TheVariants as ring
use Rattle.resolved.specs.SlotTables.{Names, table_site}
use Rattle.resolved.specs.ResolvedExprs.{slot_name, shape_name}

-- operands that are both of the ring kind
pub neither_widened : (p q x y : Bool) → (not (p || q) && (x && y)) ≡ ((not p && x) && (not q && y))
neither_widened true q x y = refl
neither_widened false true true y = refl
neither_widened false true false y = refl
neither_widened false false true y = refl
neither_widened false false false y = refl

pub larger_is : (a b : RingCode) → ring_tree (ring.Larger a b) ≡ ring_larger (ring_tree a) (ring_tree b)
larger_is a b = search (rules, ring_lemmas)

pub smaller_is : (a b : RingCode) → ring_tree (ring.Smaller a b) ≡ ring_smaller (ring_tree a) (ring_tree b)
smaller_is a b = search (rules, ring_lemmas)

by_shapes : (all shapes : List Shape) (slot : ℕ) (numbers : List ℤ) → slot < length shapes
    → option_and_then (λ (s : Shape). place_in_shapes all s.name numbers) (slice_get shapes slot) ≡ place_in_shapes all (shape_name (slice_get shapes slot)) numbers
by_shapes all [] slot numbers h = absurd (omega arith)
by_shapes all (s ∷ shapes) zero numbers h = refl
by_shapes all (s ∷ shapes) (suc slot) numbers h = by_shapes all shapes slot numbers (omega arith)

-- the place in a slot is the place of its name
pub place_by_slot : (names : Names) (slot : ℕ) (numbers : List ℤ) → slot < length names.0 → place_in_slot names.0 slot numbers ≡ place_of (table_site names) (slot_name names.0 slot) numbers
place_by_slot names slot numbers h = by_shapes names.0 names.0 slot numbers h

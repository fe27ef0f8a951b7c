-- The places of Reductions compute.
use Rattle.std.specs.Prelude.{◌≡◌, ℕ, true, false, List, [], ◌∷◌, None, Some, codes, refl}
use Rattle.ring_core.specs.declared.ring.Width.TheVariants.{Bits64}
use Rattle.fl_ast.specs.declared.kind.Kind.TheVariants.{Index, Ring}
use Rattle.fl_types.specs.declared.choice.Choice.TheVariants.{Shared, Atomic, Reduction}
use Rattle.store_core.specs.Keys.{scalar}
use Rattle.resolved.specs.SlotTables.{Names}
use Rattle.made_growths.specs.Told.{Told, choice_in, choice_here}
use Rattle.made_undos.specs.Reductions.{reduced_place, reductions_by}

abbrev x : List ℕ
x = codes "x"

abbrev y : List ℕ
y = codes "y"

abbrev i : List ℕ
i = codes "i"

-- the loop variable `i` has a place of the iteration's own
abbrev names : Names
names = (scalar x ∷ scalar y ∷ scalar i ∷ [], Ring ∷ Ring ∷ Index ∷ [], Bits64, x ∷ y ∷ i ∷ [])

-- in the first loop `x` and `y` are Reductions, in the second `y` is atomic
abbrev t : Told
t = record {
  pushed = false ∷ false ∷ false ∷ [];
  active = true ∷ true ∷ false ∷ [];
  choices = [] ∷ (Reduction ∷ Reduction ∷ Reduction ∷ []) ∷ (Reduction ∷ Atomic ∷ []) ∷ [];
  shared = 2;
}

row_1 : choice_in t 2 1 ≡ Atomic
row_1 = refl

-- where nothing is told
row_2 : choice_in t 2 2 ≡ Atomic
row_2 = refl

row_3 : choice_in t 3 0 ≡ Atomic
row_3 = refl

row_4 : choice_here t None 0 ≡ Shared
row_4 = refl

row_5 : reductions_by names t 1 (y ∷ x ∷ i ∷ []) ≡ 1 ∷ 0 ∷ []
row_5 = refl

row_6 : reductions_by names t 2 (x ∷ y ∷ []) ≡ 0 ∷ []
row_6 = refl

-- no adjoint
row_7 : reduced_place names t 1 2 ≡ None
row_7 = refl

-- no cell
row_8 : reduced_place names (record t { shared = 1 }) 1 1 ≡ None
row_8 = refl

row_9 : reduced_place names (record t { shared = 1 }) 1 0 ≡ Some 0
row_9 = refl

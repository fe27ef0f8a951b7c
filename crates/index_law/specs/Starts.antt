-- What is known of scalars at the start of an iteration, and valuations that have the values there.
use Rattle.std.specs.Prelude.{◌≡◌, ℕ, ◌/◌, ◌%◌, true, false, bytes_eq, ℤ, List, [], ◌∷◌, Option, None, Some, Ok}
use Rattle.fl_types.specs.Nests.{Head}
use Rattle.meaning.specs.declared.value.Value.TheVariants.{Index}
use Rattle.meaning.specs.declared.value.IterationCount.{IterationCount}
use Rattle.meaning.specs.Sites.{Cells, Site, in_iteration}
use Rattle.meaning.specs.Statements.{Heads, iterations, turns, heads_of}
use Rattle.meaning.specs.Sequential.{are_sequential}
use Rattle.meaning.specs.Frame.{content_by_name}
use Rattle.meaning.specs.Reached.{iteration_cells}
use Rattle.meaning.specs.Groups.{iteration_of}
use Rattle.index_forms.specs.declared.form.Side.{Side}
use Rattle.index_forms.specs.Form.{Atom, start, iter, inv, start2, iter2}
use Rattle.index_forms.specs.Loops.{HeadedLoop, inside, further, step_number, known_at_start}
use Rattle.index_law.specs.Variables.{counter_value}
use Rattle.index_law.specs.Worth.{HoldsKnown}

-- the atoms of a head have the values of its turn k
abbrev pub HasCounter : (Atom → ℤ) → (base counter : Atom) → Head → IterationCount → ℕ → Type 0
HasCounter v base counter h t k = (v base ≡ t.first) × (v counter ≡ counter_value (step_number h.step) t k)

abbrev pub HasFurther : (Atom → ℤ) → Side → Option Head → IterationCount → ℕ → Type 0
HasFurther v side None t k = Unit {0}
HasFurther v side (Some h) t k = HasCounter v start2 (iter2 side) h t k

-- the atoms of a loop, and of one that is collapsed with it, have the values of iteration k, the inner loop running faster
abbrev pub HasCounters : (Atom → ℤ) → Side → Head → Option Head → Heads → ℕ → Type 0
HasCounters v side h more [] k = Unit {0}
HasCounters v side h more (a ∷ []) k = HasCounter v start (iter side) h a.1 k
HasCounters v side h more (a ∷ b ∷ bs) k = HasCounter v start (iter side) h a.1 (k / iterations (b ∷ bs)) × HasFurther v side more b.1 (k % iterations (b ∷ bs))

-- Inv atoms have what names hold before the loop
abbrev pub HasInvariants : (Atom → ℤ) → Site → Cells → Type 0
HasInvariants v site cells = (x : List ℕ) (z : ℤ) → content_by_name site cells x [] ≡ Some (Index z) → v (inv x) ≡ z

-- a valuation stands at the start of iteration k
pub record StandsAtStart (v : Atom → ℤ) (side : Side) (l : HeadedLoop) (site : Site) (heads : Heads) (cells : Cells) (k : ℕ) : Type 0 where
  pub counters : HasCounters v side l.head (further l) heads k
  pub invariants : HasInvariants v site cells

-- the collapsed loop's variable is another one
abbrev pub HasOtherVariable : Option Head → List ℕ → Type 0
HasOtherVariable None x = Unit {0}
HasOtherVariable (Some h) x = bytes_eq x h.var ≡ false

-- an instance of a loop without another parallel one in it, with the turns that its heads give
pub record IsBegun (l : HeadedLoop) (site : Site) (heads : Heads) (cells : Cells) : Type 0 where
  pub sequential : are_sequential (inside l) ≡ true
  pub variable : l.loop.var ≡ l.head.var
  pub apart : HasOtherVariable (further l) l.head.var
  pub counted : (heads_of l.head (further l) site cells).out ≡ Ok heads

-- what is known at the start of an iteration is true under each valuation that stands there
abbrev pub KnownAtStartHolds : Type 0
KnownAtStartHolds =
    (v : Atom → ℤ) (side : Side) (l : HeadedLoop) (site : Site) (heads : Heads) (cells : Cells) → IsBegun l site heads cells → (k : ℕ) (c : Cells) → (turns k (iteration_of site l.loop heads) cells).out ≡ Ok c →
    StandsAtStart v side l site heads cells k →
    HoldsKnown v (known_at_start side l) (in_iteration site l.loop.directive l.loop.var l.loop.body) (iteration_cells site l.loop.directive l.loop.var l.loop.body heads k c)

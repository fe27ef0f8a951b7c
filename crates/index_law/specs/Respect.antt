-- Valuations that have the values of two accesses, in different iterations of a run without a conflict.
use Rattle.std.specs.Prelude.{◌≡◌, ◌≢◌, ◌⊎◌, ℕ, ℤ, List, Some, Ok}
use Rattle.fl_types.specs.declared.access.AccessKind.TheVariants.{Write}
use Rattle.fl_types.specs.Sharing.{ParallelLoop}
use Rattle.meaning.specs.declared.value.Value.{Value}
use Rattle.meaning.specs.Sites.{Cells, Site}
use Rattle.meaning.specs.Expressions.{values_of}
use Rattle.meaning.specs.Statements.{Heads}
use Rattle.index_forms.specs.Form.{Atom}
use Rattle.index_forms.specs.Sums.{values}
use Rattle.index_forms.specs.Formed.{Viewed, formed_all, subscript_forms}
use Rattle.index_law.specs.Worth.{HoldsKnown, AgreesOn, AreIndices}
use Rattle.index_law.specs.Meetings.{FreeRun, Evaluated, place_in}

-- each access that is evaluated has a place
abbrev pub AccessesHavePlaces : Type 0
AccessesHavePlaces =
    (site : Site) (l : ParallelLoop) (heads : Heads) (cells : Cells) → FreeRun site l heads cells →
    (k : ℕ) (e : Evaluated site l heads cells k) → (p : ℕ) × (place_in site l heads cells k e ≡ Some p)

-- a valuation has the values of an evaluated access, `c` being what is known where it stands; its subscripts are of the index kind
pub record Fits (v : Atom → ℤ) (c : Viewed) (site : Site) (l : ParallelLoop) (heads : Heads) (cells : Cells) (k : ℕ) (e : Evaluated site l heads cells k) : Type 0 where
  pub scalars : HoldsKnown v c.known e.group.site e.group.cells
  pub nodes : AgreesOn v e.group.site e.group.cells (formed_all c 0 e.access.place.subscripts).leaves
  pub indices : (vs : List Value) → (values_of e.access.place.subscripts e.group.site e.group.cells).out ≡ Ok vs → AreIndices vs

-- no such valuation makes the subscripts of two accesses of one name, of which one writes, the same
abbrev pub FactsAreRespected : Type 0
FactsAreRespected =
    (site : Site) (l : ParallelLoop) (heads : Heads) (cells : Cells) → FreeRun site l heads cells →
    (i j : ℕ) → i ≢ j → (a : Evaluated site l heads cells i) (b : Evaluated site l heads cells j) → (a.access.kind ≡ Write) ⊎ (b.access.kind ≡ Write) → a.access.place.name ≡ b.access.place.name →
    (v : Atom → ℤ) (f g : Viewed) → Fits v f site l heads cells i a → Fits v g site l heads cells j b →
    values v (subscript_forms f a.access.place.subscripts) ≢ values v (subscript_forms g b.access.place.subscripts)

-- What a forward sweep keeps of loads and stops, and the law that it is what the meaning tells.
use Rattle.std.specs.Prelude.{◌≡◌, ℕ, ◌<◌, ℤ, Bool, true, false, ◌&&◌, if◌then◌else◌, List, length, Option, Some, None, is_some, Result, Ok, Err}
use Rattle.fl_types.specs.declared.access.AccessKind.TheVariants.{Read}
use Rattle.store_core.specs.Keys.{keys_of}
use Rattle.store_core.specs.Tapes.{Item, IterationLists}
use Rattle.meaning.specs.declared.value.Value.{Value}
use Rattle.meaning.specs.declared.value.Value.TheVariants.{Index, Ring}
use Rattle.meaning.specs.declared.value.Cause.{Cause}
use Rattle.meaning.specs.Values.{as_dual}
use Rattle.meaning.specs.Logs.{touches, traps, Touch, tells, notes_in, Traced, at_line}
use Rattle.meaning.specs.Sites.{Cells, Site, kind_of, word_of}
use Rattle.meaning.specs.Stops.{Judge, Limits, Seen, Stop}
use Rattle.meaning.specs.Expressions.{content, value_of, holds}
use Rattle.meaning.specs.Fitting.{Fits}
use Rattle.first_stops.specs.Kept.{Kept, with_note, after_notes}
use Rattle.resolved.specs.SlotTables.{Names, kind_at}
use Rattle.resolved.specs.ResolvedExprs.{slot_name}
use Rattle.dual_evaluation.specs.declared.stop.Halt.{Halt}
use Rattle.dual_evaluation.specs.declared.stop.Halt.TheVariants.{Unset}
use Rattle.dual_evaluation.specs.Answers.{halt_cause, location_of}
use Rattle.sweep_trees.specs.Split.{SpotTree, IndexTree, RingTree, TestTree}
use Rattle.sweep_trees.specs.Standing.{is_accessed_at, spot_back, index_back, ring_back, test_back, is_spot_fit, is_index_fit, is_widened, is_ring_fit, is_test_fit}
use Rattle.fl_ast.specs.declared.kind.Kind.{Kind}
use Rattle.sweep_evaluation.specs.Machine.{Ran, Told, spot_place, index_value, ring_value, test_value}

-- where an evaluation stands: what judges loops, the limits, the names by slot, the line of its statement, the line of the
-- parallel loop around it, and the iteration
pub record Scene : Type 0 where
  pub judge : Judge
  pub limits : Limits
  pub names : Names
  pub line : ℕ
  pub around : Option ℕ
  pub iteration : ℕ

abbrev pub stopped_by : Scene → Kept → Halt → Kept
stopped_by c k why = with_note c.judge c.limits k (tells (traps (record { line = c.line; cause = halt_cause c.names.0 why })))

abbrev pub touched_by : Scene → Kept → ℕ → Kept
touched_by c k p = with_note c.judge c.limits k (tells (touches (record { place = p; iteration = c.iteration; kind = Read })))

abbrev pub loaded_cell : Scene → Kept → (slot place : ℕ) → (accessed : Bool) → Option Value → Kept
loaded_cell c k slot p accessed None = stopped_by c k (Unset slot)
loaded_cell c k slot p accessed (Some v) = if accessed && is_some c.around then touched_by c k p else k

-- the tape of a forward sweep: its items, the top first, and in a parallel loop the tapes of the iterations so far, to the last of which words go
pub record ForwardTape : Type 0 where
  pub items : List Item
  pub running : Option IterationLists

-- where a sweep stands, what it has kept, and its tape
pub record Standing : Type 0 where
  pub scene : Scene
  pub kept : Kept
  pub tape : ForwardTape

abbrev pub standing : Scene → ForwardTape → Kept → Standing
standing c t k = record { scene = c; kept = k; tape = t }

-- a load gives the word of the place's content, and tells a touch, or that the place is unset
abbrev pub told : Told Standing
told = record {
  word = λ s p. word_of (content s.kept.cells p);
  loaded = λ s slot p accessed. standing s.scene s.tape (loaded_cell s.scene s.kept slot p accessed (content s.kept.cells p));
  stopped = λ s why. standing s.scene s.tape (stopped_by s.scene s.kept why);
}

-- a site has the names of a table, and where a parallel loop is around it the flags tell by slot which make accesses
pub record IsSite (site : Site) (names : Names) (flags : List Bool) (within : Bool) : Type 0 where
  pub keys : site.keys ≡ keys_of names.0
  pub width : site.width ≡ names.2
  pub kinds : (slot : ℕ) → slot < length names.0 → kind_of site (slot_name names.0 slot) ≡ kind_at names.1 slot
  pub accesses : (slot : ℕ) → slot < length names.0 → site.accessed (slot_name names.0 slot) ≡ (is_accessed_at flags slot && within)

abbrev pub goes_on : Result Seen Stop → Bool
goes_on (Ok s) = true
goes_on (Err x) = false

-- from what was kept before it, a run comes to what the meaning tells of it at the scene's line, with the cells as they were; and
-- where there is no stop, to what stands for the value
pub record Comes {X A : Type 0} (c : Scene) (tape : ForwardTape) (k : Kept) (t : Traced Cause X) (R : X → A → Type 0) (r : Ran Standing A) : Type 0 where
  pub state : r.state ≡ standing c tape (after_notes c.judge c.limits k (notes_in c.iteration (at_line c.line t).log))
  pub cells : r.state.kept.cells ≡ k.cells
  pub value : goes_on r.state.kept.seen ≡ true → (x : X) × ((t.out ≡ Ok x) × R x r.out)

abbrev pub IsNumber : Value → ℤ → Type 0
IsNumber v z = v ≡ Index z

abbrev pub IsRing : Value → Type 0
IsRing (Ring d) = Unit {0}
IsRing (Index z) = ⊥

-- the word of a value made one of the ring kind, and of which kind it was
abbrev pub IsWord : Bool → Value → ℕ → Type 0
IsWord widened v x = ((as_dual v).value ≡ x) × (widened ≡ false → IsRing v)

abbrev pub IsSame : {A : Type 0} → A → A → Type 0
IsSame a b = a ≡ b

pub record ComesAt (c : Scene) (site : Site) (flags : List Bool) (tape : ForwardTape) (k : Kept) : Type 0 where
  pub of_spot : (of_kind : Kind → Bool) (p : SpotTree) → is_spot_fit c.names flags of_kind p ≡ true
      → Comes c tape k (location_of site k.cells (spot_back c.names.0 p)) IsSame (spot_place told c.names p (standing c tape k))
  pub of_index : (i : IndexTree) → is_index_fit c.names flags i ≡ true
      → Comes c tape k (value_of (index_back c.names.0 i) site k.cells) IsNumber (index_value told c.names i (standing c tape k))
  pub of_ring : (a : RingTree) → is_ring_fit c.names flags a ≡ true
      → Comes c tape k (value_of (ring_back c.names.0 a) site k.cells) (IsWord (is_widened a)) (ring_value told c.names a (standing c tape k))
  pub of_test : (a : TestTree) → is_test_fit c.names flags a ≡ true
      → Comes c tape k (holds (test_back c.names.0 a) site k.cells) IsSame (test_value told c.names a (standing c tape k))

abbrev pub EvaluationsAreTold : Type 0
EvaluationsAreTold = (c : Scene) (site : Site) (flags : List Bool) → IsSite site c.names flags (is_some c.around) → (tape : ForwardTape) (k : Kept) → Fits site k.cells → ComesAt c site flags tape k

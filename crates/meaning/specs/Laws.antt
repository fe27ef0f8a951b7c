-- Laws of the meaning: what runs in different directions have in common.
use Rattle.std.specs.Prelude.{◌≡◌, ℕ, ◌<◌, ℤ, pos, ◌+ℤ◌, ◌-ℤ◌, ◌*ℤ◌, int_div, List, [], ◌∷◌, map, Option, Some, None, false, Result, Ok, Err}
use Rattle.ring_core.specs.Index.{IsIndex}
use Rattle.store_core.specs.Bounds.{clipped}
use Rattle.ring_core.specs.Ring.{ring_add, ring_mul}
use Rattle.fl_ast.specs.Tree.{Expression, Condition, Statements}
use Rattle.meaning.specs.Expressions.{value_of, holds}
use Rattle.meaning.specs.declared.value.TrapAt.{TrapAt}
use Rattle.meaning.specs.Sites.{Cells, Site}
use Rattle.meaning.specs.Statements.{run_all}
use Rattle.meaning.specs.Sequential.{are_sequential}
use Rattle.meaning.specs.Adjoints.{cells_along, tangent_of}
use Rattle.meaning.specs.Logs.{Touch, Event, begins, touches, pushes, ends, traps, events, replay}
use Rattle.meaning.specs.Conflicts.{Clash, conflict, Reports}

-- what came out, with tangents 0
abbrev pub values_out : Result Cells TrapAt → Result Cells TrapAt
values_out (Ok cells) = Ok (cells_along [] cells)
values_out (Err t) = Err t

-- from cells of equal values, whatever their tangents, runs have equal logs and end with equal values or the same trap
abbrev pub TangentsAreUnseen : Type 0
TangentsAreUnseen =
    (body : Statements) (site : Site) (c d : Cells) → cells_along [] c ≡ cells_along [] d →
    ((run_all body site c).log ≡ (run_all body site d).log) × (values_out (run_all body site c).out ≡ values_out (run_all body site d).out)

-- the cells after a run are those before it with the log's stores replayed, tangents aside
abbrev pub CellsAreReplayed : Type 0
CellsAreReplayed =
    (body : Statements) (site : Site) (c d : Cells) → (run_all body site c).out ≡ Ok d → replay (run_all body site c).log (cells_along [] c) ≡ cells_along [] d

-- a run depends on the keys of the cells, the width of data and the kinds of names alone, and where there is a parallel loop on the
-- declared names: not on the loops around it, nor on what is pushed or makes touches
abbrev pub RunsGoByKeys : Type 0
RunsGoByKeys =
    (s t : Site) → s.keys ≡ t.keys → s.width ≡ t.width → ((x : List ℕ) → s.ring x ≡ t.ring x) →
    (body : Statements) → (are_sequential body ≡ false → s.declared ≡ t.declared) → (cells : Cells) →
    (run_all body s cells).out ≡ (run_all body t cells).out

-- the first trap among events
abbrev pub trap_in : List Event → Option TrapAt
trap_in [] = None
trap_in (begins ∷ es) = trap_in es
trap_in (touches t ∷ es) = trap_in es
trap_in (pushes v ∷ es) = trap_in es
trap_in (ends line ∷ es) = trap_in es
trap_in (traps t ∷ es) = Some t

abbrev pub trap_of : Result Cells TrapAt → Option TrapAt
trap_of (Ok cells) = None
trap_of (Err t) = Some t

-- a run traps exactly where its log says so
abbrev pub TrapsAreTold : Type 0
TrapsAreTold = (body : Statements) (site : Site) (c : Cells) → trap_in (events (run_all body site c).log) ≡ trap_of (run_all body site c).out

-- a times one direction and b times another, by place, 0 where a direction has no word
abbrev pub combination : ℕ → List ℕ → ℕ → List ℕ → List ℕ
combination a [] b [] = []
combination a [] b (u ∷ us) = ring_add (ring_mul a 0) (ring_mul b u) ∷ combination a [] b us
combination a (t ∷ ts) b [] = ring_add (ring_mul a t) (ring_mul b 0) ∷ combination a ts b []
combination a (t ∷ ts) b (u ∷ us) = ring_add (ring_mul a t) (ring_mul b u) ∷ combination a ts b us

-- the tangents that came out, none of a trap
abbrev pub tangents_out : Result Cells TrapAt → List ℕ
tangents_out (Ok cells) = map tangent_of cells
tangents_out (Err t) = []

-- the tangents of a combination of two directions are the combination of their tangents: with 1 and 1 the sum, with b 0 the multiple
abbrev pub TangentsAreLinear : Type 0
TangentsAreLinear =
    (body : Statements) (site : Site) (cells : Cells) (a : ℕ) (ts : List ℕ) (b : ℕ) (us : List ℕ) →
    tangents_out (run_all body site (cells_along (combination a ts b us) cells)).out
    ≡ combination a (tangents_out (run_all body site (cells_along ts cells)).out) b (tangents_out (run_all body site (cells_along us cells)).out)

-- the function reports the least clash, and none exactly where there is none
abbrev pub ConflictIsReported : Type 0
ConflictIsReported = (ts : List Touch) → Reports ts (conflict ts)

-- at most one thing is reported of touches
abbrev pub ReportsAreOne : Type 0
ReportsAreOne = (ts : List Touch) (o p : Option Clash) → Reports ts o → Reports ts p → o ≡ p

-- what an expression or a condition is worth depends on the keys of the cells and the width of data alone, not on the loops around it
abbrev pub ValuesGoByKeys : Type 0
ValuesGoByKeys =
    (s t : Site) (cells : Cells) → s.keys ≡ t.keys → s.width ≡ t.width →
    ((e : Expression) → (value_of e s cells).out ≡ (value_of e t cells).out) × ((c : Condition) → (holds c s cells).out ≡ (holds c t cells).out)

-- the variable of a loop whose bounds are of the index kind is of the index kind in each turn
abbrev pub VariablesFit : Type 0
VariablesFit =
    (first last step : ℤ) (k : ℕ) → IsIndex first → IsIndex last → k < clipped (int_div ((last -ℤ first) +ℤ step) step) →
    IsIndex (first +ℤ (pos k *ℤ step))

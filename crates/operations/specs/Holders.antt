-- The machine whose lists have holders: a worker takes a list that nobody holds, or makes the next operation of a list that is held.
use Rattle.std.specs.Prelude.{◌≡◌, ℕ, ◌<◌, ◌==◌, if◌then◌else◌, List, [], ◌∷◌, length, Option, Some, None}
use Rattle.operations.specs.declared.op.Op.{Op}
use Rattle.operations.specs.Order.{Machine, put, step, start}

pub record Crew : Type 0 where
  pub machine : Machine
  pub holder : ℕ → Option ℕ

pub data Event : Type 0 where
  claims : ℕ → ℕ → Event
  makes : ℕ → Event

abbrev pub holder_after : ℕ → ℕ → (ℕ → Option ℕ) → ℕ → Option ℕ
holder_after k w f j = if j == k then Some w else f j

-- a claim gives list k to worker w, at its start
abbrev pub crew_after : (ℕ → List Op) → Event → Crew → Crew
crew_after ops (claims k w) m = record { machine = record { cells = m.machine.cells; at = put k 0 m.machine.at; last = m.machine.last }; holder = holder_after k w m.holder }
crew_after ops (makes k) m = record { machine = step ops k m.machine; holder = m.holder }

-- a claim is of a list that nobody holds; an operation is of a list that is held, and has one left
abbrev pub MayHappen : (ℕ → List Op) → Event → Crew → Type 0
MayHappen ops (claims k w) m = m.holder k ≡ None
MayHappen ops (makes k) m = (w : ℕ) × (m.holder k ≡ Some w) × (m.machine.at k < length (ops k))

abbrev pub crew_after_all : (ℕ → List Op) → List Event → Crew → Crew
crew_after_all ops [] m = m
crew_after_all ops (e ∷ es) m = crew_after_all ops es (crew_after ops e m)

abbrev pub AllMayHappen : (ℕ → List Op) → List Event → Crew → Type 0
AllMayHappen ops [] m = Unit {0}
AllMayHappen ops (e ∷ es) m = MayHappen ops e m × AllMayHappen ops es (crew_after ops e m)

-- nobody holds a list
abbrev pub crew_start : List ℕ → Crew
crew_start c = record { machine = start c; holder = λ _. None }

-- events that may happen lead from the cells c to these cells, holders and positions of the lists below n
pub record IsReached (ops : ℕ → List Op) (n : ℕ) (c shown : List ℕ) (holder : ℕ → Option ℕ) (at : ℕ → ℕ) : Type 0 where
  pub events : List Event
  pub may_happen : AllMayHappen ops events (crew_start c)
  pub cells : (crew_after_all ops events (crew_start c)).machine.cells ≡ shown
  pub positions : (k : ℕ) → k < n → (crew_after_all ops events (crew_start c)).machine.at k ≡ at k
  pub holders : (k : ℕ) → k < n → (crew_after_all ops events (crew_start c)).holder k ≡ holder k

-- the events are of lists below n
abbrev pub AllEventsBelow : ℕ → List Event → Type 0
AllEventsBelow n [] = Unit {0}
AllEventsBelow n (claims k w ∷ es) = (k < n) × AllEventsBelow n es
AllEventsBelow n (makes k ∷ es) = (k < n) × AllEventsBelow n es

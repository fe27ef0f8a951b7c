-- What a reverse sweep has at hand, and what it does there, step by step. Places below P have cells: place p its value in cell p and its
-- adjoint in cell P + p; the words of further places are the iteration's own.
use Rattle.std.specs.Prelude.{ℕ, suc, ◌+◌, ◌-◌, Bool, true, false, ◌==◌, if◌then◌else◌, nat_lt, List, [], ◌∷◌, ◌++◌, Option, Some, None, slice_index, slice_set}
use Rattle.ring_core.specs.Ring.{ring_add}
use Rattle.fl_types.specs.declared.choice.Choice.{Choice}
use Rattle.fl_types.specs.declared.choice.Choice.TheVariants.{Shared, Atomic, Reduction}
use Rattle.operations.specs.declared.op.Op.{Op}
use Rattle.operations.specs.declared.op.Op.TheVariants.{Load, Store, Bump, Add}
use Rattle.operations.specs.Ops.{acts}
use Rattle.transposition.specs.Tapes.{Tape, rest}
use Rattle.transposition.specs.Worlds.{Local, is_one_step}
use Rattle.sweep_evaluation.specs.Machine.{Ran, ran, Told}

-- the sums of additions to cells that are made later on, the innermost first
abbrev pub Sums : Type 0
Sums = List (ℕ × ℕ)

-- the cells, the sums, the operations so far, and how many atomic additions to adjoints there were
pub record Stage : Type 0 where
  pub cells : List ℕ
  pub sums : Sums
  pub ops : List Op
  pub adds : ℕ

pub record Reversing : Type 0 where
  pub local : Local
  pub stage : Stage

abbrev pub reversing : Local → Stage → Reversing
reversing l g = record { local = l; stage = g }

-- ---- operations

abbrev pub loaded_cell : ℕ → Stage → Stage
loaded_cell p g = record g { ops = g.ops ++ Load p ∷ [] }

abbrev pub acted : Op → Stage → Stage
acted o g = record g { cells = acts o g.cells; ops = g.ops ++ o ∷ [] }

abbrev pub behind : ℕ × ℕ → Option Sums → Option Sums
behind r None = None
behind r (Some rs) = Some (r ∷ rs)

-- the sums with an addition to a cell, where one of them is of that cell
abbrev pub summed : ℕ → ℕ → Sums → Option Sums
summed q a [] = None
summed q a (r ∷ rs) = if q == r.0 then Some ((r.0, ring_add r.1 a) ∷ rs) else behind r (summed q a rs)

abbrev pub added_by : ℕ → ℕ → Option Sums → Stage → Stage
added_by q a None g = acted (Add q a) g
added_by q a (Some rs) g = record g { sums = rs }

-- an addition: to the innermost sum of the cell, or else to the cell
abbrev pub added : ℕ → ℕ → Stage → Stage
added q a g = added_by q a (summed q a g.sums) g

abbrev pub bumped : ℕ → ℕ → Stage → Stage
bumped q a g = acted (Bump q a) (loaded_cell q g)

-- an addition in one step, or by a load and a bump
abbrev pub grown : Bool → ℕ → ℕ → Stage → Stage
grown true q a g = added q a g
grown false q a g = bumped q a g

-- a sum that is collected from now on
abbrev pub opened_sum : ℕ → Stage → Stage
opened_sum q g = record g { sums = (q, 0) ∷ g.sums }

abbrev pub first_sum : Sums → ℕ
first_sum [] = 0
first_sum (r ∷ rs) = r.1

abbrev pub later_sums : Sums → Sums
later_sums [] = []
later_sums (r ∷ rs) = rs

-- the innermost sum, added to its cell
abbrev pub closed_sum : ℕ → Stage → Stage
closed_sum q g = added q (first_sum g.sums) (record g { sums = later_sums g.sums })

-- ---- words of the iteration's own

abbrev pub own_value : ℕ → ℕ → ℕ → Local → Local
own_value n p x l = record l { values = slice_set l.values (p - n) x }

abbrev pub own_adjoint : ℕ → ℕ → ℕ → Local → Local
own_adjoint n p x l = record l { adjoints = slice_set l.adjoints (p - n) x }

-- at no place, and at a shared one, nothing is set
abbrev pub own_value_set : ℕ → Option ℕ → ℕ → Local → Local
own_value_set n None x l = l
own_value_set n (Some p) x l = if nat_lt p n then l else own_value n p x l

abbrev pub own_adjoint_set : ℕ → Option ℕ → ℕ → Local → Local
own_adjoint_set n None x l = l
own_adjoint_set n (Some p) x l = if nat_lt p n then l else own_adjoint n p x l

abbrev pub popped : Local → Local
popped l = record l { tape = rest l.tape }

abbrev pub on_tape : Tape → Local → Local
on_tape t l = record l { tape = t }

-- ---- places

-- what evaluations load
abbrev pub told : ℕ → Told Reversing
told n = record {
  word = λ s p. if nat_lt p n then slice_index s.stage.cells p else slice_index s.local.values (p - n);
  loaded = λ s slot p accessed. if nat_lt p n then reversing s.local (loaded_cell p s.stage) else s;
  stopped = λ s why. s;
}

-- the adjoint at a place, 0 where there is none
abbrev pub adjoint_loaded : ℕ → Option ℕ → Reversing → Ran Reversing ℕ
adjoint_loaded n None s = ran 0 s
adjoint_loaded n (Some p) s =
    if nat_lt p n then ran (slice_index s.stage.cells (n + p)) (reversing s.local (loaded_cell (n + p) s.stage))
    else ran (slice_index s.local.adjoints (p - n)) s

abbrev pub value_stored : ℕ → ℕ → Option ℕ → Reversing → Reversing
value_stored n x None s = s
value_stored n x (Some p) s = if nat_lt p n then reversing s.local (acted (Store p x) s.stage) else reversing (own_value n p x s.local) s.stage

abbrev pub adjoint_stored : ℕ → ℕ → Option ℕ → Reversing → Reversing
adjoint_stored n x None s = s
adjoint_stored n x (Some p) s = if nat_lt p n then reversing s.local (acted (Store (n + p) x) s.stage) else reversing (own_adjoint n p x s.local) s.stage

abbrev pub value_grown : ℕ → Bool → ℕ → Option ℕ → Reversing → Reversing
value_grown n one_step a None s = s
value_grown n one_step a (Some p) s =
    if nat_lt p n then reversing s.local (grown one_step p a s.stage)
    else reversing (own_value n p (ring_add (slice_index s.local.values (p - n)) a) s.local) s.stage

abbrev pub counted : Choice → Stage → Stage
counted Shared g = g
counted Atomic g = record g { adds = suc g.adds }
counted Reduction g = g

abbrev pub adjoint_grown : ℕ → Choice → ℕ → Option ℕ → Reversing → Reversing
adjoint_grown n choice a None s = s
adjoint_grown n choice a (Some p) s =
    if nat_lt p n then reversing s.local (counted choice (grown (is_one_step choice) (n + p) a s.stage))
    else reversing (own_adjoint n p (ring_add (slice_index s.local.adjoints (p - n)) a) s.local) s.stage

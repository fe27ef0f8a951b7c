-- What the steps tell.
use Rattle.std.specs.Prelude.{◌≡◌, ◌⊎◌, ℕ, ◌+◌, ◌<◌, ◌≤◌, true, List, [], ◌∷◌, ◌++◌, length, take, drop}
use Rattle.atomic_table.specs.Table.{Me}
use Rattle.operations.specs.declared.op.Op.{Op}
use Rattle.operations.specs.Ops.{cell_of, acts_all}
use Rattle.op_table.specs.declared.view.View.{View}
use Rattle.op_table.specs.declared.plan.Key.{Key}
use Rattle.op_table.specs.Rule.{view, lists, position_of, advance, Work}

abbrev pub work : {P : Type 0} → (P → ℕ → List Op) → Key P → Work
work ops key = record { ops = ops key.plan; opening = key.words.items; chunks = key.chunks; parts = key.parts }

-- chunk k has gone on by one operation
abbrev pub view_after : ℕ → View → View
view_after k v = view (advance k v.held) v.found v.parts

module _ {S : Type 0} where
  abbrev pub IsLoad : ℕ → ℕ → Me S View → ℕ → Me S View → Type 0
  IsLoad k x m r n = (n ≡ (view_after k m.0, m.1)) × (r ≡ x)

  abbrev pub IsMove : ℕ → Me S View → Me S View → Type 0
  IsMove k m n = n ≡ (view_after k m.0, m.1)

  -- the chunk is the seat's, at its start, or it was found claimed; a seat with all parts has it then
  abbrev pub IsSwap : ℕ → ℕ → Me S View → ℕ → Me S View → Type 0
  IsSwap k all m r n = ((r ≡ 0) × (n ≡ (view ((k, 0) ∷ m.0.held) m.0.found m.0.parts, m.1)))
      ⊎ ((r ≡ 1) × (n ≡ (view m.0.held (k ∷ m.0.found) m.0.parts, m.1)) × (m.0.parts ≡ all → lists k m.0.held ≡ true))

abbrev pub join_of : View → View → View
join_of v w = view (v.held ++ w.held) (v.found ++ w.found) (v.parts + w.parts)

abbrev pub spent_view : View
spent_view = view [] [] 0

-- the operation is the next one of chunk k, which the view lists
pub record IsNext (d : Work) (k : ℕ) (v : View) (o : Op) : Type 0 where
  pub rest : List Op
  pub listed : lists k v.held ≡ true
  pub first : drop (position_of k v.held) (d.ops k) ≡ o ∷ rest
  pub inside : cell_of o < length d.opening

-- the cells after the operations so far of chunk k, run alone
abbrev pub cells_alone : Work → ℕ → View → List ℕ
cells_alone d k v = acts_all (take (position_of k v.held) (d.ops k)) d.opening

-- every chunk is in the view, at its end
abbrev pub IsFinished : Work → View → Type 0
IsFinished d v = (k : ℕ) → k < d.chunks → (lists k v.held ≡ true) × (length (d.ops k) ≤ position_of k v.held)

-- What a table shows between two steps.
use Rattle.std.specs.Prelude.{◌≡◌, ℕ, ◌<◌, true, List, length, slice_index, Option, Some}
use mathlib.Core.Option.{some}
use lib.ListN.{get_elem?}
use Rattle.atomic_table.specs.Table.{State}
use Rattle.operations.specs.Holders.{IsReached}
use Rattle.op_table.specs.declared.view.View.{View}
use Rattle.op_table.specs.Rule.{Work, lists, position_of, cell_word}

-- the machine reaches a state with the table's cells, where each chunk that a view lists is held by that view's seat, and
-- has come to the position that the view says, and where any other chunk is free
pub record IsShown {S : Type 0} (d : Work) (s : State S View) : Type 0 where
  pub cells : List ℕ
  pub holder : ℕ → Option ℕ
  pub at : ℕ → ℕ
  pub reached : IsReached d.ops d.chunks d.opening cells holder at
  pub count : length cells ≡ length d.opening
  pub shown : (p : ℕ) → p < length d.opening → slice_index cells p ≡ cell_word s.words p
  pub listed : (id : ℕ) (v : View) (k : ℕ) → get_elem? s.views id ≡ some v → lists k v.held ≡ true → (holder k ≡ Some id) × (at k ≡ position_of k v.held)
  pub held : (id k : ℕ) → k < d.chunks → holder k ≡ Some id → (v : View) × (get_elem? s.views id ≡ some v) × (lists k v.held ≡ true)

use Rattle.std.proofs.Common.{◌≡◌, ℕ, ◌+◌, ◌<◌, get_or, vec_len}
use Rattle.std.specs.Mem.Slots.{slots_items}
use mathlib.Core.Option.{some}
use lib.ListN.{get_elem?}
use Rattle.op_table.proofs.table.take_cells.Given as goal

abbrev pub invariant-loop-i : goal.invariant-loop-i
invariant-loop-i l = (vec_len l.cells ≡ vec_len l.initial.cells) × ((p : ℕ) → p < l.i → get_elem? (slots_items l.closed.words) (1 + p) ≡ some (get_or l.cells.items p 0))

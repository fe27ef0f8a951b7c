use Rattle.std.proofs.Common.{◌≡◌, ◌-◌, ◌++◌, []}
use Rattle.dual_meaning.specs.Tangents.{name_cells}
use Rattle.forward_run.proofs.entry.push_cells.Given as goal

abbrev pub invariant-loop-k : goal.invariant-loop-k
invariant-loop-k l = l.cells.items ++ name_cells l.kind l.words [] l.k (l.next - l.k) ≡ l.initial.cells.items ++ name_cells l.kind l.words [] l.first (l.next - l.first)

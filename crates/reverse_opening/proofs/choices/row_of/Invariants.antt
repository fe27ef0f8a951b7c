use Rattle.std.proofs.Common.{◌≡◌, ◌++◌, drop}
use Rattle.reverse_opening.specs.Chosen.{row_in}
use Rattle.reverse_opening.proofs.choices.row_of.Given as goal

abbrev pub invariant-loop-shape : goal.invariant-loop-shape
invariant-loop-shape l = l.row ++ row_in (drop l.shape-index l.shapes) l.collected l.shared ≡ row_in l.shapes l.collected l.shared

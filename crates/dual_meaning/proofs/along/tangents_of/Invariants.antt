use Rattle.std.proofs.Common.{◌≡◌, ◌++◌, map, drop}
use Rattle.meaning.specs.Adjoints.{tangent_of}
use Rattle.dual_meaning.proofs.along.tangents_of.Given as goal

abbrev pub invariant-loop-cell : goal.invariant-loop-cell
invariant-loop-cell l = l.words.items ++ map tangent_of (drop l.cell-index l.cells) ≡ map tangent_of l.cells

use Rattle.std.proofs.Common.{◌≡◌, ◌++◌, map, drop}
use Rattle.meaning.specs.Sites.{word_of}
use Rattle.forward_run.proofs.values.words_of.Given as goal

abbrev pub invariant-loop-cell : goal.invariant-loop-cell
invariant-loop-cell l = l.words.items ++ map word_of (drop l.cell-index l.cells) ≡ map word_of l.cells

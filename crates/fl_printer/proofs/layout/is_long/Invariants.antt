use Rattle.std.proofs.Common.{◌≡◌, ◌+◌, drop}
use Rattle.fl_printer.specs.Layout.{width_of_all}
use Rattle.fl_printer.proofs.layout.is_long.Given as goal

-- what is counted and what the rest takes is all
abbrev pub invariant-loop-word : goal.invariant-loop-word
invariant-loop-word l = l.end + width_of_all (drop l.word-index l.words) ≡ l.at + width_of_all l.words

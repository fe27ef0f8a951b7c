use Rattle.std.proofs.Common.{◌≡◌, ◌++◌, drop}
use Rattle.fl_printer.specs.Layout.{laid, laid_behind, laid_text}
use Rattle.fl_printer.proofs.layout.lay.Given as goal

-- what is added and what the rest adds is all
abbrev pub invariant-loop-i : goal.invariant-loop-i
invariant-loop-i l =
    l.text.items ++ laid_text (laid l.margin l.directive l.long l.at (drop l.i l.words))
    ≡ l.fn.text.items ++ laid_text (laid_behind l.margin l.directive l.from l.words)

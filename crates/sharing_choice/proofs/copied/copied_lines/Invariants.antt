use Rattle.std.proofs.Common.{◌≡◌, ◌++◌, drop}
use Rattle.sharing_choice.proofs.copied.copied_lines.Given as goal

abbrev pub invariant-loop-i : goal.invariant-loop-i
invariant-loop-i l = l.all ++ drop l.i l.lines ≡ l.lines

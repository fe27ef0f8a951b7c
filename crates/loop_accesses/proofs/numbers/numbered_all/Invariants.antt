use Rattle.std.proofs.Common.{◌≡◌, ◌++◌, suc, map, drop}
use Rattle.loop_accesses.specs.Numbers.{numbered, numbered_of}
use Rattle.loop_accesses.specs.Views.{occurrence_of}
use Rattle.loop_accesses.proofs.numbers.numbered_all.Given as goal

-- those that are numbered and those of the rest are all
abbrev pub invariant-loop-i : goal.invariant-loop-i
invariant-loop-i l = map numbered_of l.all ++ numbered l.loop_number (suc l.i) (map occurrence_of (drop l.i l.found)) ≡ numbered l.loop_number 1 (map occurrence_of l.found)

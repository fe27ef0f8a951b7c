use Rattle.std.proofs.Common.{◌≡◌, ◌++◌, map, drop}
use Rattle.loop_accesses.specs.Numbers.{numbered_of}
use Rattle.loop_pairs.specs.Known.{bare}
use Rattle.loop_pairs.proofs.knowledge.bare_all.Given as goal

abbrev pub invariant-loop-i : goal.invariant-loop-i
invariant-loop-i l = l.all ++ map bare (map numbered_of (drop l.i l.accesses)) ≡ map bare (map numbered_of l.accesses)

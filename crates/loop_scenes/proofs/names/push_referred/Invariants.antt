use Rattle.std.proofs.Common.{◌≡◌, ◌++◌, map, drop}
use Rattle.loop_accesses.specs.Views.{referred}
use Rattle.loop_scenes.proofs.names.push_referred.Given as goal

abbrev pub invariant-loop-i : goal.invariant-loop-i
invariant-loop-i l = l.names ++ map referred (drop l.i l.more) ≡ l.fn.names ++ map referred l.more

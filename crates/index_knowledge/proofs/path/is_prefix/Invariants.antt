use Rattle.std.proofs.Common.{◌≡◌, drop}
use Rattle.index_knowledge.specs.Knowledge.{is_prefix}
use Rattle.index_knowledge.proofs.path.is_prefix.Given as goal

abbrev pub invariant-loop-i : goal.invariant-loop-i
invariant-loop-i l = is_prefix l.path l.other ≡ is_prefix (drop l.i l.path) (drop l.i l.other)

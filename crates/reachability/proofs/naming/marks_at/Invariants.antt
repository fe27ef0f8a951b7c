use Rattle.std.proofs.Common.{take}
use Rattle.reachability.proofs.Listed.{Marked}
use Rattle.reachability.proofs.naming.marks_at.Given as goal

abbrev pub invariant-loop-node : goal.invariant-loop-node
invariant-loop-node l = Marked l.count (take l.node-index l.nodes) l.marks

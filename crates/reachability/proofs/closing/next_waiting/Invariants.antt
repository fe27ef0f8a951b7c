use Rattle.std.proofs.Common.{ℕ, ◌<◌}
use Rattle.reachability.specs.Reached.{IsMarked}
use Rattle.reachability.proofs.closing.next_waiting.Given as goal

abbrev pub invariant-loop-i : goal.invariant-loop-i
invariant-loop-i l = (k : ℕ) → k < l.i → IsMarked l.marks k → IsMarked l.done k

use Rattle.std.proofs.Common.{sum_by}
use Rattle.reachability.proofs.Marks.{Closing, undone}
use Rattle.reachability.proofs.closing.reach.Given as goal

abbrev pub invariant-loop-at : goal.invariant-loop-at
invariant-loop-at l = Closing l.links l.fn.marks l.marks l.done

abbrev pub decreases-loop-at : goal.decreases-loop-at
decreases-loop-at l = sum_by undone l.done

use Rattle.reachability.proofs.Marks.{Following}
use Rattle.reachability.proofs.closing.mark_heads.Given as goal

abbrev pub invariant-loop-link : goal.invariant-loop-link
invariant-loop-link l = Following l.links l.at l.link-index l.fn.marks l.marks

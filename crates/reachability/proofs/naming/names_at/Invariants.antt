use Rattle.reachability.proofs.Listed.{Named}
use Rattle.reachability.proofs.naming.names_at.Given as goal

abbrev pub invariant-loop-i : goal.invariant-loop-i
invariant-loop-i l = Named l.decls l.marks l.i l.names

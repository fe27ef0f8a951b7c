use Rattle.std.proofs.Common.{map}
use Rattle.loop_accesses.specs.Classes.{scope_by}
use Rattle.loop_accesses.specs.Views.{steps_of, occurrence_of}
use Rattle.loop_accesses.proofs.Walks.{StatementsFront, ArmsFront}
use Rattle.loop_accesses.proofs.statements.+push_statement.Given as goal

abbrev pub invariant-push_statements-loop-i : goal.invariant-push_statements-loop-i
invariant-push_statements-loop-i l =
    StatementsFront (scope_by l.names) (steps_of l.path) l.stmts l.n (map occurrence_of l.fn.found) l.next (map occurrence_of l.found) l.i

abbrev pub invariant-push_arms-loop-i : goal.invariant-push_arms-loop-i
invariant-push_arms-loop-i l =
    ArmsFront (scope_by l.names) l.line l.n (steps_of l.path) l.arms l.k (map occurrence_of l.fn.found) l.next (map occurrence_of l.found) l.i

use Rattle.std.proofs.Common.{◌≡◌, ◌++◌, map, drop}
use Rattle.fl_ast.specs.Tree.{expr_trees}
use Rattle.fl_types.specs.Accesses.{reads_all}
use Rattle.loop_accesses.specs.Classes.{scope_by}
use Rattle.loop_accesses.specs.Views.{steps_of, occurrence_of}
use Rattle.loop_accesses.proofs.reads.+push_reads.Given as goal

abbrev pub invariant-push_all_reads-loop-expr : goal.invariant-push_all_reads-loop-expr
invariant-push_all_reads-loop-expr l =
    map occurrence_of l.found ++ reads_all (scope_by l.names) l.line (steps_of l.path) (expr_trees (drop l.expr-index l.exprs))
    ≡ map occurrence_of l.fn.found ++ reads_all (scope_by l.names) l.line (steps_of l.path) (expr_trees l.exprs)

use Rattle.std.proofs.Common.{◌+◌}
use Rattle.fl_ast.specs.Tree.{stmt_trees}
use Rattle.fl_types.specs.Accesses.{statements_count}
use Rattle.index_forms.specs.Walk.{with_statements}
use Rattle.index_forms.specs.Scenes.{setting_there, known_there}
use Rattle.index_forms.specs.Listed.{all_forms_seen}
use Rattle.index_forms.proofs.Walks.{StatementsFront, ArmsFront}
use Rattle.index_forms.proofs.walk.+walk_statement.Given as goal

abbrev pub invariant-walk_statements-loop-i : goal.invariant-walk_statements-loop-i
invariant-walk_statements-loop-i l =
    let c = setting_there l.scene in
    StatementsFront c l.stmts (with_statements c l.n (known_there l.scene l.initial.entries) (stmt_trees l.stmts) (all_forms_seen l.initial.all)) (l.n + statements_count (stmt_trees l.stmts))
    l.next (known_there l.scene l.entries) (all_forms_seen l.all) l.i

abbrev pub invariant-walk_arms-loop-i : goal.invariant-walk_arms-loop-i
invariant-walk_arms-loop-i l =
    ArmsFront (setting_there l.scene) l.arms l.n (known_there l.scene l.initial.entries) (all_forms_seen l.initial.all) l.next (known_there l.scene l.entries) (all_forms_seen l.all) l.i

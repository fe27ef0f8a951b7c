use Rattle.std.proofs.Common.{◌≡◌, [], drop}
use Rattle.fl_ast.specs.Tree.{expr_trees}
use Rattle.fl_types.specs.Accesses.{reads_all}
use Rattle.index_forms.specs.Walk.{with_group}
use Rattle.index_forms.specs.Scenes.{setting_there, known_there}
use Rattle.index_forms.specs.Listed.{all_forms_seen}
use Rattle.index_forms.proofs.reads.+push_reads.Given as goal

abbrev pub invariant-push_all_reads-loop-i : goal.invariant-push_all_reads-loop-i
invariant-push_all_reads-loop-i l =
    let c = setting_there l.scene in
    with_group c (known_there l.scene l.entries) (reads_all c.scope 0 [] (expr_trees (drop l.i l.exprs))) (all_forms_seen l.all)
    ≡ with_group c (known_there l.scene l.entries) (reads_all c.scope 0 [] (expr_trees l.exprs)) (all_forms_seen l.initial.all)

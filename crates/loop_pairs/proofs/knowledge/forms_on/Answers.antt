use Rattle.std.proofs.Common.{ap, ◌∙◌}
use Rattle.fl_ast.specs.declared.stmt.Program.{Program}
use Rattle.fl_ast.specs.Tree.{stmt_trees}
use Rattle.index_forms.specs.Listed.{all_forms_seen}
use Rattle.loop_scenes.specs.Views.{headed_loop}
use Rattle.loop_pairs.proofs.Forms.{forms_made}
use Rattle.loop_pairs.proofs.knowledge.forms_on.Goals as goal

pub returns : goal.returns
returns c =
    forms_made c.args.side c.args.indexed.now.decls c.as_slice-decls.result.now (headed_loop c.args.headed.now) c.in_ok-scene.scene (stmt_trees c.iteration_body-body.result.now) (all_forms_seen c.in_ok-forms_of_accesses.field-0)
    c.in_ok-scene.ensures.scene (c.as_slice-decls.ensures ∙ ap (λ (p : Program). p.decls) c.program.ensures) c.iteration_body-body.ensures c.in_ok-forms_of_accesses.ensures

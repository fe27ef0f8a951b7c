use Rattle.std.proofs.Common.{ap, ◌∙◌}
use Rattle.fl_ast.specs.declared.stmt.Program.{Program}
use Rattle.fl_ast.specs.Tree.{stmt_trees}
use Rattle.fl_types.specs.Sharing.{has_name}
use Rattle.index_forms.specs.declared.form.Side.TheVariants.{One}
use Rattle.loop_scenes.specs.Views.{headed_loop}
use Rattle.loop_pairs.proofs.Forms.{rights_made}
use Rattle.loop_pairs.proofs.knowledge.rights_of.Goals as goal

pub returns : goal.returns
returns c =
    rights_made One c.args.indexed.now.decls c.as_slice-decls.result.now (λ x. has_name x c.args.active.now.names) (headed_loop c.args.headed.now) c.in_ok-scene.scene (stmt_trees c.iteration_body-body.result.now) c.in_ok-rights.field-0
    c.in_ok-scene.ensures.scene (c.as_slice-decls.ensures ∙ ap (λ (p : Program). p.decls) c.program.ensures) c.iteration_body-body.ensures c.in_ok-rights.ensures.rights

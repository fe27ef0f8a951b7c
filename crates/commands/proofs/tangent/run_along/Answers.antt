use Rattle.std.proofs.Common.{length, ap, ◌∙◌}
use Rattle.fl_ast.specs.Tree.{program_tree}
use Rattle.store_core.specs.Filled.{place_words}
use Rattle.commands.specs.Tangents.{directed_meaning}
use Rattle.commands.proofs.Lengths.{words_long, tangents_long}
use Rattle.commands.proofs.TangentDone.{stopped_part, ended_part}
use Rattle.commands.proofs.tangent.run_along.Goals as goal

pub returns-in-Ok-clause-part : goal.returns-in-Ok-clause-part
returns-in-Ok-clause-part g c = ended_part (directed_meaning c.args.inputs.now) _ c.in-Ok.ensures.2

pub returns-in-Ok-clause-long : goal.returns-in-Ok-clause-long
returns-in-Ok-clause-long g c =
    let d = c.args.inputs.now in
    ap length c.in-Ok.ensures.0 ∙ words_long (program_tree d.typed) d.layout (place_words d.layout d.args.entries) (place_words d.layout d.direction.entries) c.in-Ok.ensures.2

pub returns-in-Ok-clause-wide : goal.returns-in-Ok-clause-wide
returns-in-Ok-clause-wide g c =
    let d = c.args.inputs.now in
    ap length c.in-Ok.ensures.1 ∙ tangents_long (program_tree d.typed) d.layout (place_words d.layout d.args.entries) (place_words d.layout d.direction.entries) c.in-Ok.ensures.2

pub returns-in-Err-clause-part : goal.returns-in-Err-clause-part
returns-in-Err-clause-part g c = stopped_part (directed_meaning c.args.inputs.now) _ _ _ _ c.in-Err.ensures c.stopped.ensures

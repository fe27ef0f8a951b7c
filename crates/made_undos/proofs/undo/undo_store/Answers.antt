use Rattle.std.proofs.Common.{sym, ◌∙◌}
use Rattle.resolved.specs.ResolvedExprs.{place_back, expression_back}
use Rattle.made_steps.proofs.Stores.{same_form_is, plain_is}
use Rattle.made_undos.proofs.undo.undo_store.Goals as goal

pub undo_plain-requires-clause-plain : goal.undo_plain-requires-clause-plain
undo_plain-requires-clause-plain c = plain_is c.args.table.now (place_back c.args.table.now.0 c.args.target.now) (expression_back c.args.table.now.0 c.args.value.now) (sym c.in-None.is ∙ same_form_is c.args.form _ c.requires.formed)

pub undo_increment-requires-clause-formed : goal.undo_increment-requires-clause-formed
undo_increment-requires-clause-formed c = sym c.in-Some.is ∙ same_form_is c.args.form _ c.requires.formed

pub returns-in-None : goal.returns-in-None
returns-in-None c w outer sc = c.undo_plain.ensures w c.args.marks.now.accessed c.args.marks.now.reduced outer c.args.atomic sc

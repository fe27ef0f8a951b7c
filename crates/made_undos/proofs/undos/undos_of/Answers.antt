use Rattle.std.proofs.Common.{rules, ◌∙◌}
use Rattle.loop_scopes.specs.declared.loops.Loops.{the_lemmas as loops_lemmas}
use Rattle.made_growths.specs.Told.{told}
use Rattle.made_undos.proofs.Making.{outside_undo}
use Rattle.made_undos.proofs.undos.undos_of.Goals as goal

pub returns : goal.returns
returns c w sc =
    let marks = c.in_ok-marks.marks in
    c.in_ok-undos.ensures w
    (outside_undo c.args.table.now (told c.args.names.now) marks.accessed marks.reduced c.shapes-shapes.result.now _ w (c.shapes-shapes.ensures.value ∙ c.layout.ensures) c.in_ok-marks.ensures.accessed
    c.in_ok-marks.ensures.reduced (search (rules, loops_lemmas)) sc)

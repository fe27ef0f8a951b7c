use Rattle.std.proofs.Common.{rules, ◌∙◌}
use Rattle.loop_scopes.specs.declared.loops.Loops.{the_lemmas as loops_lemmas}
use Rattle.made_steps.proofs.Making.{outside_scope}
use Rattle.made_steps.proofs.steps.steps_of.Goals as goal

pub returns : goal.returns
returns c site sc =
    let marks = c.in_ok-marks.marks in
    c.in_ok-steps.ensures site
    (outside_scope c.args.table.now c.args.pushed.now marks.accessed marks.reduced c.shapes-shapes.result.now _ site (c.shapes-shapes.ensures.value ∙ c.layout.ensures) c.in_ok-marks.ensures.accessed
    c.in_ok-marks.ensures.reduced (search (rules, loops_lemmas)) sc)

use Rattle.std.proofs.Common.{nat_lt, refl, sym, ap, ◌∙◌, subst, arith, List}
use Rattle.std.specs.Prelude.{slice_get, ◌≡◌}
use Rattle.fl_types.specs.declared.choice.Choice.{Choice}
use Rattle.resolved.specs.ResolvedExprs.{slot_name}
use Rattle.made_growths.specs.Told.{in_row}
use Rattle.loop_choices.specs.Choosing.{choice_in}
use Rattle.reverse_opening.specs.Chosen.{count_in, rows_below}
use Rattle.reverse_opening.proofs.Rows.{rows_are}
use Rattle.reverse_opening.proofs.choices.rows_of.Goals as goal

pub returns : goal.returns
returns c = λ number slot h.
    let all = c.loop-number.auto.number-end in
    let end = c.loop-number-test.false in
    let count = c.count_of-number-end.ensures in
    let n : c.loop-number.number ≡ count_in c.args.entries.now = omega (arith, all, end, count) in
    subst (λ (rows : List (List Choice)). choice_in c.args.entries.now number (slot_name c.args.shapes.now slot) ≡ in_row (slice_get rows number) slot)
    (sym (c.loop-number.invariant ∙ ap (rows_below c.args.shapes.now c.args.entries.now) n))
    (rows_are c.args.shapes.now c.args.entries.now number slot (nat_lt number (count_in c.args.entries.now)) refl h)

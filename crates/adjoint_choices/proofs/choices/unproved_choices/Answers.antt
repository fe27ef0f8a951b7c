use Rattle.adjoint_choices.proofs.Together.{whole}
use Rattle.adjoint_choices.proofs.choices.unproved_choices.Goals as goal

pub returns : goal.returns
returns c =
    whole c.args.program.now c.args.active.now c.as_slice.result.now c.as_slice-2.result.now c.in_ok-in_order.in_order.items c.deref.result.now c.as_slice-3.result.now c.new-entries.result c.push_choices_in.new.entries
    c.as_slice.ensures c.in_ok-in_order.ensures c.deref.ensures.value c.as_slice-2.ensures c.as_slice-3.ensures c.new-entries.ensures c.in_ok-push_choices_in.ensures

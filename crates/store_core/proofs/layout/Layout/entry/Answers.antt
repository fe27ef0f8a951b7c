use Rattle.std.proofs.Common.{◌∙◌, ap, get_or}
use Rattle.store_core.proofs.Filling.{entry_found, entry_missing, empty_is}
use Rattle.store_core.proofs.layout.Layout.entry.Goals as goal

pub returns-in_ok-from_slice-in-Some : goal.returns-in_ok-from_slice-in-Some
returns-in_ok-from_slice-in-Some c =
    entry_found c.args.self.now c.args.name.now c.in_ok-name_copy.name_copy c.in-Some.slot c.first-from.result c.next-to.result c.index-shapes-slot.result c.args.words.now c.in_ok-from_slice-in-Some.field-0 c.is_empty.result
    c.in-Some.ensures.value c.in-Some.ensures.within (c.index-shapes-slot.is ∙ ap (λ es. get_or es c.in-Some.slot c.index-shapes-slot.result) c.shapes-shapes.ensures.value) c.in_ok-name_copy.ensures
    c.first-from.ensures.value c.next-to.ensures.value c.in_ok-from_slice-in-Some.ensures (empty_is c.index-shapes-slot.result.axes c.is_empty.result c.is_empty.ensures)

pub returns-in-None : goal.returns-in-None
returns-in-None c = rw c.new.ensures (entry_missing c.args.self.now c.args.name.now c.in_ok-name_copy.name_copy c.args.words.now c.in-None.ensures.value c.in_ok-name_copy.ensures)

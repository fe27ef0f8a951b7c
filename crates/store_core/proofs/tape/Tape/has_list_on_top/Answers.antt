use Rattle.std.specs.Prelude.{◌<◌, length}
use Rattle.std.proofs.Common.{ap, arith}
use Rattle.std.proofs.lemmas.Bool.Decides.{nat_tests}
use Rattle.store_core.proofs.Topped.{last_list_on_top, no_last_on_top}
use Rattle.store_core.proofs.tape.Tape.has_list_on_top.Goals as goal

pub returns-in-None : goal.returns-in-None
returns-in-None c = rw (← c.self.view_is) (no_last_on_top c.self.inside.words.items c.self.inside.lists.items (rw c.deref.ensures.value at c.in-None.ensures.value))

pub returns-in-Some : goal.returns-in-Some
returns-in-Some c =
    let n : 0 < length c.self.inside.lists.items = grind (arith, nat_tests, c.in-Some.ensures.item.0, ap length c.deref.ensures.value) in
    rw (← c.self.view_is, c.as_slice.ensures.value)
    (last_list_on_top c.self.inside.words.items c.self.inside.lists.items c.in-Some.placed.now n (rw c.deref.ensures.value at c.in-Some.ensures.item.1) c.self.invariant)

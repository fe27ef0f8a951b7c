use Rattle.store_core.proofs.Stacked.{listed, list_at, no_list_at}
use Rattle.store_core.proofs.tape.Tape.list.Goals as goal

pub returns-in-Some : goal.returns-in-Some
returns-in-Some c =
    rw (← c.self.view_is, listed c.self.inside.words.items c.self.inside.lists.items, ← c.deref.ensures.value)
    (list_at c.deref.result.now c.args.number c.in-Some.placed.now c.in-Some.ensures.lookup.3.0 c.in-Some.ensures.lookup.1)

pub returns-in-None : goal.returns-in-None
returns-in-None c =
    rw (← c.self.view_is, listed c.self.inside.words.items c.self.inside.lists.items, ← c.deref.ensures.value)
    (no_list_at c.deref.result.now c.args.number c.in-None.ensures.lookup.3)

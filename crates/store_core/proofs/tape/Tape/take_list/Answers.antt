use Rattle.std.proofs.Common.{◌≡◌, length, arith}
use Rattle.store_core.proofs.Stacked.{no_list_there, list_taken}
use Rattle.store_core.proofs.tape.Tape.take_list.Goals as goal

pub unreachable-requires : goal.unreachable-requires
unreachable-requires c =
    let e : length c.self.inside.lists.items ≡ 0 = omega (arith, c.in-None.ensures.cases) in
    no_list_there c.self.inside.words.items c.self.inside.lists.items e (rw (← c.self.view_is) at c.requires)

pub invariant_of-self : goal.invariant_of-self
invariant_of-self c =
    (list_taken c.self.inside.words.items c.self.inside.lists.items c.pop.new.self.items c.in-Some.field-0 c.in-Some.ensures.items c.self.invariant
    (rw (← c.self.view_is) at c.requires)).0

pub returns : goal.returns
returns c =
    rw (← c.self.view_is)
    (list_taken c.self.inside.words.items c.self.inside.lists.items c.pop.new.self.items c.in-Some.field-0 c.in-Some.ensures.items c.self.invariant
    (rw (← c.self.view_is) at c.requires)).1

use Rattle.std.proofs.Common.{◌≡◌, length, reverse, arith}
use Rattle.store_core.proofs.Stacked.{no_word, word_taken}
use Rattle.store_core.proofs.tape.Tape.pop.Goals as goal

pub unreachable-requires : goal.unreachable-requires
unreachable-requires c =
    let e : length c.self.inside.words.items ≡ 0 = omega (arith, c.in-None.ensures.cases) in
    no_word c.self.inside.words.items (reverse c.self.inside.lists.items) e c.self.invariant (rw (← c.self.view_is) at c.requires)

pub invariant_of-self : goal.invariant_of-self
invariant_of-self c =
    (word_taken c.self.inside.words.items c.pop.new.self.items c.in-Some.value (reverse c.self.inside.lists.items) c.in-Some.ensures.items c.self.invariant
    (rw (← c.self.view_is) at c.requires)).0

pub returns : goal.returns
returns c =
    rw (← c.self.view_is)
    (word_taken c.self.inside.words.items c.pop.new.self.items c.in-Some.value (reverse c.self.inside.lists.items) c.in-Some.ensures.items c.self.invariant
    (rw (← c.self.view_is) at c.requires)).1

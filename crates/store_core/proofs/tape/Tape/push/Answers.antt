use Rattle.std.proofs.Common.{arith, length-append, reverse}
use Rattle.std.proofs.lemmas.List.{reverse-append, length-reverse}
use Rattle.store_core.proofs.Stacked.{with_word_on_top, below_more}
use Rattle.store_core.proofs.tape.Tape.push.Goals as goal

pub invariant_of-self-2 : goal.invariant_of-self-2
invariant_of-self-2 c = rw (c.in_ok-push.ensures.items, length-append) (below_more (reverse c.self.inside.lists.items) _ _ (omega arith) c.self.invariant)

pub returns-clause-ok : goal.returns-clause-ok
returns-clause-ok c =
    rw (c.in_ok-push.ensures.items, reverse-append, ← c.self.view_is)
    (with_word_on_top c.args.value (reverse c.self.inside.words.items) (reverse c.self.inside.lists.items) (rw length-reverse c.self.invariant))

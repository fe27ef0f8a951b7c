use Rattle.std.proofs.Common.{refl, arith, length-append}
use Rattle.store_core.proofs.Pieces.{pieces_with_word, starts_below_more}
use Rattle.store_core.proofs.iteration_tapes.IterationTapes.push.Goals as goal

pub invariant_of-self-2 : goal.invariant_of-self-2
invariant_of-self-2 c = rw (c.in_ok-push.ensures.items, length-append) (starts_below_more c.self.inside.starts.items _ _ (omega arith) c.self.invariant)

pub returns-clause-ok : goal.returns-clause-ok
returns-clause-ok c =
    rw (c.in_ok-push.ensures.items, ← c.self.view_is, pieces_with_word c.self.inside.words.items c.self.inside.starts.items c.args.word c.self.invariant) refl

use Rattle.std.proofs.Common.{◌≡◌, refl, vec_len, length, arith}
use Rattle.store_core.proofs.Pieces.{pieces_with_start, starts_with_end}
use Rattle.store_core.proofs.iteration_tapes.IterationTapes.begin.Goals as goal

pub invariant_of-self-2 : goal.invariant_of-self-2
invariant_of-self-2 c =
    let n : vec_len c.self.inside.words ≡ length c.self.inside.words.items = omega arith in
    rw (c.in_ok-push.ensures.items, c.len-start.ensures) (starts_with_end c.self.inside.starts.items _ _ n c.self.invariant)

pub returns-clause-ok : goal.returns-clause-ok
returns-clause-ok c =
    let n : vec_len c.self.inside.words ≡ length c.self.inside.words.items = omega arith in
    rw (c.in_ok-push.ensures.items, c.len-start.ensures, ← c.self.view_is, pieces_with_start c.self.inside.words.items c.self.inside.starts.items _ n c.self.invariant) refl

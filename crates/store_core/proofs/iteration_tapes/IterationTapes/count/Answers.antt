use Rattle.std.proofs.Common.{◌≡◌, ◌∙◌, sym, vec_len, length, arith}
use Rattle.store_core.proofs.Pieces.{length-pieces}
use Rattle.store_core.proofs.iteration_tapes.IterationTapes.count.Goals as goal

pub returns : goal.returns
returns c =
    let n : vec_len c.self.inside.starts ≡ length c.self.inside.starts.items = omega arith in
    rw (← c.self.view_is) (c.len.ensures ∙ n ∙ sym (length-pieces c.self.inside.words.items c.self.inside.starts.items))

use Rattle.std.proofs.Common.{refl, ◌∙◌}
use Rattle.reverse_state.proofs.Stepping.{held_begun}
use Rattle.reverse_state.proofs.reverse.Reverse.begin.Goals as goal

pub returns : goal.returns
returns g c =
    rw (← c.self.view_is)
    (held_begun c.args.iteration _ _ (record { shared = refl; cells = refl; sums = refl; adds = refl; lost = refl }) refl refl
    (c.copy_words.ensures ∙ c.deref.ensures.value) (c.copy_words-2.ensures ∙ c.deref-2.ensures.value) c.begin.ensures.around c.begin.ensures.now)

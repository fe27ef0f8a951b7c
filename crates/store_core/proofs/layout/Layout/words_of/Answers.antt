use Rattle.std.proofs.Common.{ap, ◌∙◌, replicate}
use Rattle.store_core.specs.Filled.{written, place_words}
use Rattle.store_core.proofs.Filling.{written_all}
use Rattle.store_core.proofs.layout.Layout.words_of.Goals as goal

pub returns : goal.returns
returns c =
    c.into_words.ensures ∙ (c.fill.ensures ∙ (ap (λ s. written s 0 (place_words c.args.self.now c.args.entries.now)) (c.in_ok-store.ensures ∙ ap (λ n. replicate n 0) c.count.ensures.value)
    ∙ written_all c.args.self.now c.args.entries.now))

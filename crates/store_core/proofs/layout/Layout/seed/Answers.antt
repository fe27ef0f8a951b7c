use Rattle.std.proofs.Common.{◌∙◌, ap, length}
use Rattle.store_core.specs.Filled.{written, place_words}
use Rattle.store_core.proofs.Filling.{seeded, length-written}
use Rattle.store_core.proofs.layout.Layout.seed.Goals as goal

pub returns-clause-words : goal.returns-clause-words
returns-clause-words c =
    c.fill.ensures ∙ ap (λ es. written c.args.store.now c.count.result (place_words c.args.self.now es)) c.as_slice.ensures
    ∙ seeded c.args.self.now c.args.weights.now.entries c.args.store.now c.count.result c.count.ensures.value c.requires

pub returns-clause-paired : goal.returns-clause-paired
returns-clause-paired c = ap length c.fill.ensures ∙ length-written c.args.store.now c.count.result (place_words c.args.self.now c.as_slice.result.now)

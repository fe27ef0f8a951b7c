use Rattle.std.proofs.Common.{◌*◌, ◌∙◌, ap, length, replicate}
use Rattle.std.proofs.lemmas.List.{length-replicate}
use Rattle.store_core.specs.Filled.{written, place_words}
use Rattle.store_core.proofs.Filling.{opened, length-written}
use Rattle.store_core.proofs.layout.Layout.opening.Goals as goal

pub returns-clause-words : goal.returns-clause-words
returns-clause-words c =
    c.fill.ensures ∙ ap (λ s. written s 0 (place_words c.args.self.now c.as_slice.result.now)) c.in_ok-store.ensures
    ∙ ap (λ es. written (replicate (2 * c.count.result) 0) 0 (place_words c.args.self.now es)) c.as_slice.ensures
    ∙ opened c.args.self.now c.args.args.now.entries (2 * c.count.result) (ap (λ n. 2 * n) c.count.ensures.value)

pub returns-clause-paired : goal.returns-clause-paired
returns-clause-paired c =
    ap length c.fill.ensures ∙ length-written c.in_ok-store.store 0 (place_words c.args.self.now c.as_slice.result.now) ∙ ap length c.in_ok-store.ensures
    ∙ length-replicate (2 * c.count.result) 0 ∙ ap (λ n. 2 * n) c.count.ensures.value

use Rattle.std.proofs.Common.{ap, sym, ◌∙◌}
use Rattle.certificate.proofs.Items.{behind, no-multiple}
use Rattle.certificate.proofs.words.read_multiples.Goals as goal

pub returns-else-is_empty : goal.returns-else-is_empty
returns-else-is_empty c =
    sym (c.loop-rest.invariant ∙ ap (behind c.loop-rest.all) (no-multiple c.loop-rest.rest.now c.in_default.len_below (sym c.is_empty.ensures ∙ c.if-is_empty.false)))

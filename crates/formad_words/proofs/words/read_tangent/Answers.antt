use Rattle.std.proofs.Common.{sym, ◌∙◌, refl, Err}
use Rattle.formad_words.specs.declared.error.WordsError.TheVariants.{Bad}
use Rattle.formad_words.specs.Grammar.{tangent_in}
use Rattle.formad_words.proofs.Positions.{by_three}
use Rattle.formad_words.proofs.Shorts.{no_tangent}
use Rattle.formad_words.proofs.words.read_tangent.Goals as goal

pub returns-in_default : goal.returns-in_default
returns-in_default c _ = no_tangent _ c.in_default.len_below

pub returns-then-is_empty : goal.returns-then-is_empty
unfolding tangent_in
returns-then-is_empty c =
    by_three tangent_in _ c.program-item.result c.values-item.result c.direction-item.result _ c.in-len3-up.len_at_least
    c.program-item.is c.values-item.is c.direction-item.is (rw (sym c.is_empty.ensures ∙ c.if-is_empty.true) c.tangent_of.ensures)

pub returns-else-is_empty : goal.returns-else-is_empty
unfolding tangent_in
returns-else-is_empty c =
    by_three tangent_in _ c.program-item.result c.values-item.result c.direction-item.result (Err Bad) c.in-len3-up.len_at_least
    c.program-item.is c.values-item.is c.direction-item.is (λ _. rw (sym c.is_empty.ensures ∙ c.if-is_empty.false) refl)

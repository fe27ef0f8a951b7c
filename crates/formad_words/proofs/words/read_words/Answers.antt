use Rattle.std.proofs.Common.{sym, ap, ◌∙◌, Err}
use Rattle.std.specs.Prelude.{option_and_then}
use Rattle.formad_words.specs.declared.error.WordsError.TheVariants.{Bad}
use Rattle.formad_words.specs.Grammar.{words_in}
use Rattle.formad_words.proofs.Positions.{by_one, found_then}
use Rattle.formad_words.proofs.Shorts.{no_words}
use Rattle.formad_words.proofs.words.read_words.Goals as goal

pub returns-in_default : goal.returns-in_default
returns-in_default c _ = no_words _ c.in_default.len_below

pub returns-in-Some : goal.returns-in-Some
unfolding words_in
returns-in-Some c =
    by_one words_in _ c.name-item.result _ c.in-len1-up.len_at_least c.name-item.is
    (found_then _ _ _ _ (sym (rw c.bytes.ensures at c.command_named.ensures) ∙ c.in-Some.is) c.words_of.ensures)

pub returns-in-None : goal.returns-in-None
unfolding words_in
returns-in-None c =
    by_one words_in _ c.name-item.result (Err Bad) c.in-len1-up.len_at_least c.name-item.is
    (λ _. ap (option_and_then _) (sym (rw c.bytes.ensures at c.command_named.ensures) ∙ c.in-None.is))

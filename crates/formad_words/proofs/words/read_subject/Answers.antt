use Rattle.formad_words.specs.Grammar.{subject_in}
use Rattle.formad_words.proofs.Positions.{by_one, found_then, none_then}
use Rattle.formad_words.proofs.Shorts.{no_subject}
use Rattle.formad_words.proofs.words.read_subject.Goals as goal

pub returns-in_default : goal.returns-in_default
returns-in_default c _ = no_subject _ c.in_default.len_below

pub returns-in_err-read_settings-in-len1-up : goal.returns-in_err-read_settings-in-len1-up
unfolding subject_in
returns-in_err-read_settings-in-len1-up c =
    by_one subject_in _ c.program-item.result _ c.in-len1-up.len_at_least c.program-item.is (none_then _ _ _ _ c.in_err-read_settings-in-len1-up.ensures c.from_residual.ensures)

pub returns-in_ok-read_settings-in-len1-up : goal.returns-in_ok-read_settings-in-len1-up
unfolding subject_in
returns-in_ok-read_settings-in-len1-up c =
    by_one subject_in _ c.program-item.result _ c.in-len1-up.len_at_least c.program-item.is (found_then _ _ _ _ c.in_ok-read_settings-in-len1-up.ensures c.subject_of.ensures)

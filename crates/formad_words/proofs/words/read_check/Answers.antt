use Rattle.formad_words.specs.Grammar.{check_in}
use Rattle.formad_words.proofs.Positions.{by_two, found_then, none_then}
use Rattle.formad_words.proofs.Shorts.{no_check}
use Rattle.formad_words.proofs.words.read_check.Goals as goal

pub returns-in_default : goal.returns-in_default
returns-in_default c _ = no_check _ c.in_default.len_below

pub returns-in_err-read_settings-in-len2-up : goal.returns-in_err-read_settings-in-len2-up
unfolding check_in
returns-in_err-read_settings-in-len2-up c =
    by_two check_in _ c.program-item.result c.certificate-item.result _ c.in-len2-up.len_at_least c.program-item.is c.certificate-item.is (none_then _ _ _ _ c.in_err-read_settings-in-len2-up.ensures c.from_residual.ensures)

pub returns-in_ok-read_settings-in-len2-up : goal.returns-in_ok-read_settings-in-len2-up
unfolding check_in
returns-in_ok-read_settings-in-len2-up c =
    by_two check_in _ c.program-item.result c.certificate-item.result _ c.in-len2-up.len_at_least c.program-item.is c.certificate-item.is (found_then _ _ _ _ c.in_ok-read_settings-in-len2-up.ensures c.check_of.ensures)

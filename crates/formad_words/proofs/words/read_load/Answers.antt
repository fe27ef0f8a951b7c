use Rattle.formad_words.specs.Grammar.{load_in}
use Rattle.formad_words.proofs.Positions.{by_one, found_then, none_then}
use Rattle.formad_words.proofs.Shorts.{no_load}
use Rattle.formad_words.proofs.words.read_load.Goals as goal

pub returns-in_default : goal.returns-in_default
returns-in_default c _ = no_load _ c.in_default.len_below

pub returns-in_err-read_settings-in-len1-up : goal.returns-in_err-read_settings-in-len1-up
unfolding load_in
returns-in_err-read_settings-in-len1-up c =
    by_one load_in _ c.edges-item.result _ c.in-len1-up.len_at_least c.edges-item.is (none_then _ _ _ _ c.in_err-read_settings-in-len1-up.ensures c.from_residual.ensures)

pub returns-in_ok-read_settings-in-len1-up : goal.returns-in_ok-read_settings-in-len1-up
unfolding load_in
returns-in_ok-read_settings-in-len1-up c =
    by_one load_in _ c.edges-item.result _ c.in-len1-up.len_at_least c.edges-item.is (found_then _ _ _ _ c.in_ok-read_settings-in-len1-up.ensures c.load_of.ensures)

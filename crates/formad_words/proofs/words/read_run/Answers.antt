use Rattle.formad_words.specs.Grammar.{run_in}
use Rattle.formad_words.proofs.Positions.{by_three, found_then, none_then}
use Rattle.formad_words.proofs.Shorts.{no_run}
use Rattle.formad_words.proofs.words.read_run.Goals as goal

pub returns-in_default : goal.returns-in_default
returns-in_default c _ = no_run _ c.in_default.len_below

pub returns-in_err-read_settings-in-len3-up : goal.returns-in_err-read_settings-in-len3-up
unfolding run_in
returns-in_err-read_settings-in-len3-up c =
    by_three run_in _ c.program-item.result c.values-item.result c.seed-item.result _ c.in-len3-up.len_at_least c.program-item.is c.values-item.is c.seed-item.is (none_then _ _ _ _ c.in_err-read_settings-in-len3-up.ensures c.from_residual.ensures)

pub returns-in_ok-read_settings-in-len3-up : goal.returns-in_ok-read_settings-in-len3-up
unfolding run_in
returns-in_ok-read_settings-in-len3-up c =
    by_three run_in _ c.program-item.result c.values-item.result c.seed-item.result _ c.in-len3-up.len_at_least c.program-item.is c.values-item.is c.seed-item.is (found_then _ _ _ _ c.in_ok-read_settings-in-len3-up.ensures c.run_of.ensures)

use Rattle.formad_words.specs.Grammar.{replay_in}
use Rattle.formad_words.proofs.Positions.{by_four, found_then, none_then}
use Rattle.formad_words.proofs.Shorts.{no_replay}
use Rattle.formad_words.proofs.words.read_replay.Goals as goal

pub returns-in_default : goal.returns-in_default
returns-in_default c _ = no_replay _ c.in_default.len_below

pub returns-in_err-read_settings-in-len4-up : goal.returns-in_err-read_settings-in-len4-up
unfolding replay_in
returns-in_err-read_settings-in-len4-up c =
    by_four replay_in _ c.program-item.result c.values-item.result c.seed-item.result c.steps-item.result _ c.in-len4-up.len_at_least c.program-item.is c.values-item.is c.seed-item.is c.steps-item.is (none_then _ _ _ _ c.in_err-read_settings-in-len4-up.ensures c.from_residual.ensures)

pub returns-in_ok-read_settings-in-len4-up : goal.returns-in_ok-read_settings-in-len4-up
unfolding replay_in
returns-in_ok-read_settings-in-len4-up c =
    by_four replay_in _ c.program-item.result c.values-item.result c.seed-item.result c.steps-item.result _ c.in-len4-up.len_at_least c.program-item.is c.values-item.is c.seed-item.is c.steps-item.is (found_then _ _ _ _ c.in_ok-read_settings-in-len4-up.ensures c.replay_of.ensures)

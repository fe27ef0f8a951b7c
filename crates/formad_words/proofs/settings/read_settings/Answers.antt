use Rattle.std.proofs.Common.{◌≡◌, ◌∙◌, sym, Err}
use Rattle.formad_words.proofs.SettingsRead.{set_more, set_none, set_twice, all_set}
use Rattle.formad_words.proofs.Positions.{handed_on}
use Rattle.formad_words.proofs.settings.read_settings.Goals as goal

pub returns-in_err-read_setting : goal.returns-in_err-read_setting
returns-in_err-read_setting c = handed_on _ _ _ (λ k. set_none _ _ _ c.word-item.result c.loop-word-test.true c.word-item.is (rw c.bytes.ensures at c.in_err-read_setting.ensures k) c.loop-word.invariant) c.from_residual.ensures

pub returns-in_err-add : goal.returns-in_err-add
returns-in_err-add c = handed_on _ _ _ (λ k. set_twice _ _ _ _ c.word-item.result c.loop-word-test.true c.word-item.is (rw c.bytes.ensures at c.in_ok-read_setting.ensures) c.in_err-add.ensures c.loop-word.invariant) c.from_residual-in_err-add.ensures

pub loop-word-preserved : goal.loop-word-preserved
loop-word-preserved c = sym (set_more _ _ _ _ _ c.word-item.result c.loop-word-test.true c.word-item.is (rw c.bytes.ensures at c.in_ok-read_setting.ensures) c.in_ok-add.ensures) ∙ c.loop-word.invariant

pub returns : goal.returns
returns c = all_set _ _ _ c.loop-word-test.false c.loop-word.invariant

use Rattle.std.proofs.Common.{◌≡◌, drop, Some}
use Rattle.formad_words.specs.SettingsWords.{no_settings, settings_from}
use Rattle.formad_words.proofs.settings.read_settings.Given as goal

-- what is set so far, with the words that are left, is the whole
abbrev pub invariant-loop-word : goal.invariant-loop-word
invariant-loop-word l = settings_from (Some l.settings) (drop l.word-index l.words) ≡ settings_from (Some no_settings) l.words

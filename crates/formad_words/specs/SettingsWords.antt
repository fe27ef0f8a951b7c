-- The words of the form name=value.
use Rattle.std.specs.Prelude.{ℕ, Bool, ◌&&◌, if◌then◌else◌, List, [], ◌∷◌, Option, Some, None, is_none, option_and_then}
use Rattle.formad_words.specs.declared.setting.Setting.{Setting}
use Rattle.formad_words.specs.declared.setting.Setting.TheVariants as setting
use Rattle.formad_words.specs.declared.settings.Settings.{Settings}
use Rattle.formad_words.specs.SettingWords.{setting_in}

abbrev pub no_settings : Settings
no_settings = record { of = None; wrt = None; workers = None; schedule = None; certificate = None; force = None }

-- something new, where it isn't set yet
abbrev pub unless_set : {A : Type 0} → Option A → Settings → Option Settings
unless_set None new = Some new
unless_set (Some a) new = None

-- one setting more
abbrev pub with_setting : Settings → Setting → Option Settings
with_setting s (setting.Of names) = unless_set s.of (record s { of = Some names })
with_setting s (setting.Wrt names) = unless_set s.wrt (record s { wrt = Some names })
with_setting s (setting.Workers n) = unless_set s.workers (record s { workers = Some n })
with_setting s (setting.Schedule c) = unless_set s.schedule (record s { schedule = Some c })
with_setting s (setting.Certificate file) = unless_set s.certificate (record s { certificate = Some file })
with_setting s (setting.Force force) = unless_set s.force (record s { force = Some force })

-- what a word adds to the settings
unfoldable pub with_word : Settings → List ℕ → Option Settings
with_word s word = option_and_then (with_setting s) (setting_in word)

-- what the words add to the settings, no key twice
abbrev pub settings_from : Option Settings → List (List ℕ) → Option Settings
settings_from s [] = s
settings_from s (word ∷ words) = settings_from (option_and_then (λ t. with_word t word) s) words

unfoldable pub settings_in : List (List ℕ) → Option Settings
settings_in words = settings_from (Some no_settings) words

-- nothing is set but the names of `of` and `wrt`
abbrev pub is_plain : Settings → Bool
is_plain s = is_none s.workers && is_none s.schedule && is_none s.certificate && is_none s.force

-- both lists of names, which have to stand
abbrev pub pair_of : Option (List (List ℕ)) → Option (List (List ℕ)) → Option (List (List ℕ) × List (List ℕ))
pair_of None wrt = None
pair_of (Some of) None = None
pair_of (Some of) (Some wrt) = Some (of, wrt)

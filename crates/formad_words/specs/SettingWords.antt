-- One word of the form name=value.
use Rattle.std.specs.Prelude.{ℕ, ◌+◌, ◌==◌, not, Bool, if◌then◌else◌, List, length, take, drop, codes, Option, Some, None, option_map, bytes_eq}
use Rattle.std.specs.List.{position}
use Rattle.formad_words.specs.declared.setting.Force.{Force}
use Rattle.formad_words.specs.declared.setting.Setting.{Setting}
use Rattle.formad_words.specs.declared.setting.Setting.TheVariants as setting
use Rattle.formad_words.specs.Names.{name_in, names_in}
use Rattle.formad_words.specs.Numbers.{number_up_to}
use Rattle.formad_words.specs.Schedules.{schedule_in}

-- a word that isn't empty names a file
abbrev pub is_file : List ℕ → Bool
is_file word = not (length word == 0)

abbrev pub file_in : List ℕ → Option (List ℕ)
file_in word = if is_file word then Some word else None

abbrev pub force_of : Option ℕ → Option (List ℕ) → Option Force
force_of None name = None
force_of (Some number) None = None
force_of (Some number) (Some name) = Some (record { loop_number = number; name = name })

abbrev pub force_at : List ℕ → Option ℕ → Option Force
force_at text None = None
force_at text (Some at) = force_of (number_up_to 4096 (take at text)) (name_in (drop (at + 1) text))

-- a loop's number from 1 to 4096, a colon and a name
unfoldable pub force_in : List ℕ → Option Force
force_in text = force_at text (position (λ b. b == 58) text)

abbrev pub setting_by : List ℕ → List ℕ → Option Setting
setting_by key value =
    if bytes_eq key (codes "of") then option_map setting.Of (names_in value)
    else (if bytes_eq key (codes "wrt") then option_map setting.Wrt (names_in value)
    else (if bytes_eq key (codes "cert") then option_map setting.Certificate (file_in value)
    else (if bytes_eq key (codes "force") then option_map setting.Force (force_in value)
    else (if bytes_eq key (codes "workers") then option_map setting.Workers (number_up_to 64 value)
    else (if bytes_eq key (codes "schedule") then option_map setting.Schedule (schedule_in value)
    else None)))))

abbrev pub setting_at : List ℕ → Option ℕ → Option Setting
setting_at word None = None
setting_at word (Some at) = setting_by (take at word) (drop (at + 1) word)

-- a key, an equals sign and the key's value
unfoldable pub setting_in : List ℕ → Option Setting
setting_in word = setting_at word (position (λ b. b == 61) word)

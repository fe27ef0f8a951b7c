-- The grammar on small cases.
use Rattle.std.proofs.Common.{◌≡◌, List, ℕ, [], ◌∷◌, codes, Some, None, refl}
use Rattle.fl_ast.specs.declared.directive.Schedule.TheVariants.{Static, GuidedBy}
use Rattle.formad_words.specs.declared.words.Words.TheVariants as words
use Rattle.formad_words.specs.Names.{names_in}
use Rattle.formad_words.specs.Numbers.{number_up_to}
use Rattle.formad_words.specs.Schedules.{schedule_in}
use Rattle.formad_words.specs.SettingWords.{force_in, setting_in}
use Rattle.formad_words.specs.SettingsWords.{with_word, settings_in}
use Rattle.formad_words.specs.Grammar.{subject_in, check_in, tangent_in, run_in, replay_in, load_in, words_in}

-- keys in any order, names lowered, a file word that looks like a key, and what is taken where a key isn't there
pub either_order : words_in (codes "run" ∷ codes "A.f90" ∷ codes "of=y" ∷ codes "s" ∷ codes "wrt=X,y_2" ∷ codes "of=Y" ∷ []) ≡
    Some (words.Run (record { program = codes "A.f90"; «data» = codes "of=y"; seed = codes "s"; of = codes "y" ∷ []; wrt = codes "x" ∷ codes "y_2" ∷ []; workers = 1; schedule = Static; certificate = None }))
unfolding names_in number_up_to schedule_in force_in setting_in with_word settings_in run_in words_in
either_order = refl

-- all keys of `run`
pub every_key : words_in (codes "run" ∷ codes "p" ∷ codes "d" ∷ codes "s" ∷ codes "cert=c=1" ∷ codes "schedule=guided:1048576" ∷ codes "workers=64" ∷ codes "wrt=x" ∷ codes "of=y" ∷ []) ≡
    Some (words.Run (record { program = codes "p"; «data» = codes "d"; seed = codes "s"; of = codes "y" ∷ []; wrt = codes "x" ∷ []; workers = 64; schedule = GuidedBy 1048576; certificate = Some (codes "c=1") }))
unfolding names_in number_up_to schedule_in force_in setting_in with_word settings_in run_in words_in
every_key = refl

-- a replay with a forced choice, a tangent, a check, a load
pub forced : words_in (codes "replay" ∷ codes "p" ∷ codes "d" ∷ codes "s" ∷ codes "t" ∷ codes "workers=2" ∷ codes "force=12:X" ∷ codes "of=y" ∷ codes "wrt=x" ∷ []) ≡
    Some (words.Replay (record { program = codes "p"; «data» = codes "d"; seed = codes "s"; steps = codes "t"; of = codes "y" ∷ []; wrt = codes "x" ∷ []; workers = 2; force = Some (record { loop_number = 12; name = codes "x" }) }))
unfolding names_in number_up_to schedule_in force_in setting_in with_word settings_in replay_in words_in
forced = refl

pub along : words_in (codes "tangent" ∷ codes "p" ∷ codes "d" ∷ codes "t" ∷ []) ≡ Some (words.Tangent (codes "p") (codes "d") (codes "t"))
unfolding tangent_in words_in
along = refl

pub loaded : words_in (codes "load" ∷ codes "100000" ∷ codes "workers=1" ∷ []) ≡ Some (words.Load 100000 1)
unfolding names_in number_up_to schedule_in force_in setting_in with_word settings_in load_in words_in
loaded = refl

-- a key twice, missing, unknown, in another case, of another command; another case of a command; an empty file word
abbrev run_with : List (List ℕ) → List (List ℕ)
run_with keys = codes "run" ∷ codes "p" ∷ codes "d" ∷ codes "s" ∷ keys

pub key_twice : words_in (run_with (codes "of=y" ∷ codes "wrt=x" ∷ codes "of=y" ∷ [])) ≡ None
unfolding names_in number_up_to schedule_in force_in setting_in with_word settings_in run_in words_in
key_twice = refl

pub key_missing : words_in (run_with (codes "of=y" ∷ [])) ≡ None
unfolding names_in number_up_to schedule_in force_in setting_in with_word settings_in run_in words_in
key_missing = refl

pub key_unknown : words_in (run_with (codes "of=y" ∷ codes "wrt=x" ∷ codes "by=y" ∷ [])) ≡ None
unfolding names_in number_up_to schedule_in force_in setting_in with_word settings_in run_in words_in
key_unknown = refl

pub key_case : words_in (run_with (codes "Of=y" ∷ codes "wrt=x" ∷ [])) ≡ None
unfolding names_in number_up_to schedule_in force_in setting_in with_word settings_in run_in words_in
key_case = refl

pub key_elsewhere : words_in (run_with (codes "of=y" ∷ codes "wrt=x" ∷ codes "force=1:x" ∷ [])) ≡ None
unfolding names_in number_up_to schedule_in force_in setting_in with_word settings_in run_in words_in
key_elsewhere = refl

pub other_case : words_in (codes "Run" ∷ codes "p" ∷ codes "d" ∷ codes "s" ∷ codes "of=y" ∷ codes "wrt=x" ∷ []) ≡ None
unfolding words_in
other_case = refl

pub empty_file : words_in (codes "tangent" ∷ codes "p" ∷ [] ∷ codes "s" ∷ []) ≡ None
unfolding tangent_in words_in
empty_file = refl

-- numbers: 0, a leading zero, a sign, too great
pub zero_workers : number_up_to 64 (codes "0") ≡ None
unfolding number_up_to
zero_workers = refl

pub leading_zero : number_up_to 64 (codes "01") ≡ None
unfolding number_up_to
leading_zero = refl

pub with_sign : number_up_to 64 (codes "+1") ≡ None
unfolding number_up_to
with_sign = refl

pub too_many : number_up_to 64 (codes "65") ≡ None
unfolding number_up_to
too_many = refl

pub no_number : number_up_to 64 [] ≡ None
unfolding number_up_to
no_number = refl

-- names: one twice, none, none after a comma, one that doesn't begin with a letter
pub name_twice : names_in (codes "x,y,X") ≡ None
unfolding names_in
name_twice = refl

pub no_name : names_in [] ≡ None
unfolding names_in
no_name = refl

pub no_last_name : names_in (codes "x,") ≡ None
unfolding names_in
no_last_name = refl

pub no_letter : names_in (codes "x,_y") ≡ None
unfolding names_in
no_letter = refl

-- Settings, word by word.
use Rattle.std.proofs.Common.{◌≡◌, ℕ, suc, ◌+◌, ◌<◌, ◌≤◌, List, [], ◌∷◌, length, drop, get_or, Option, Some, None, refl, ap, sym, ◌∙◌, add-one, arith}
use Rattle.std.specs.Prelude.{option_and_then}
use Rattle.std.proofs.Math.Seq.{drop-cons}
use Rattle.std.proofs.lemmas.Grind.{common_steps}
use Rattle.formad_words.specs.declared.setting.Setting.{Setting}
use Rattle.formad_words.specs.declared.settings.Settings.{Settings}
use Rattle.formad_words.specs.SettingWords.{setting_in}
use Rattle.formad_words.specs.SettingsWords.{no_settings, with_setting, with_word, settings_from, settings_in}

pub none_left : (words : List (List ℕ)) → settings_from None words ≡ None
none_left [] = refl
none_left (word ∷ words) = none_left words

opened : (s : Settings) (words : List (List ℕ)) (i : ℕ) (word : List ℕ) → i < length words → word ≡ get_or words i word →
    settings_from (Some s) (drop i words) ≡ settings_from (with_word s word) (drop (i + 1) words)
opened s words i word h e =
    let whole : drop i words ≡ word ∷ drop (i + 1) words = drop-cons words i word h ∙ ap (λ n. n ∷ drop (suc i) words) (sym e) ∙ ap (λ k. word ∷ drop k words) (sym (add-one i)) in
    ap (settings_from (Some s)) whole

-- a word that sets something new
pub set_more : (s t : Settings) (x : Setting) (words : List (List ℕ)) (i : ℕ) (word : List ℕ) → i < length words → word ≡ get_or words i word →
    setting_in word ≡ Some x → with_setting s x ≡ Some t → settings_from (Some s) (drop i words) ≡ settings_from (Some t) (drop (i + 1) words)
unfolding with_word
set_more s t x words i word h e is set =
    opened s words i word h e ∙ ap (λ o. settings_from (option_and_then (with_setting s) o) (drop (i + 1) words)) is ∙ ap (λ o. settings_from o (drop (i + 1) words)) set

-- one that sets nothing
pub set_none : (s : Settings) (words : List (List ℕ)) (i : ℕ) (word : List ℕ) → i < length words → word ≡ get_or words i word →
    setting_in word ≡ None → settings_from (Some s) (drop i words) ≡ settings_from (Some no_settings) words → settings_in words ≡ None
unfolding with_word settings_in
set_none s words i word h e is same =
    sym same ∙ opened s words i word h e ∙ ap (λ o. settings_from (option_and_then (with_setting s) o) (drop (i + 1) words)) is ∙ none_left (drop (i + 1) words)

-- and one that sets what is set
pub set_twice : (s : Settings) (x : Setting) (words : List (List ℕ)) (i : ℕ) (word : List ℕ) → i < length words → word ≡ get_or words i word →
    setting_in word ≡ Some x → with_setting s x ≡ None → settings_from (Some s) (drop i words) ≡ settings_from (Some no_settings) words → settings_in words ≡ None
unfolding with_word settings_in
set_twice s x words i word h e is set same =
    sym same ∙ opened s words i word h e ∙ ap (λ o. settings_from (option_and_then (with_setting s) o) (drop (i + 1) words)) is
    ∙ ap (λ o. settings_from o (drop (i + 1) words)) set ∙ none_left (drop (i + 1) words)

pub all_set : (s : Settings) (words : List (List ℕ)) (i : ℕ) → length words ≤ i → settings_from (Some s) (drop i words) ≡ settings_from (Some no_settings) words →
    settings_in words ≡ Some s
unfolding settings_in
all_set s words i h same =
    let none : drop i words ≡ [] = grind (arith, common_steps) in
    sym same ∙ ap (settings_from (Some s)) none

-- Words of which there are too few.
use Rattle.std.proofs.Common.{◌≡◌, ℕ, ◌<◌, ◌≤◌, ◌⊎◌, inl, inr, List, [], ◌∷◌, length, None, refl, arith}
use Rattle.formad_words.specs.Grammar.{subject_in, check_in, tangent_in, run_in, replay_in, load_in, words_in}

pub no_subject : (ws : List (List ℕ)) → length ws < 1 → subject_in ws ≡ None
unfolding subject_in
no_subject [] h = refl
no_subject (a ∷ ws) h = absurd (omega arith)

pub no_load : (ws : List (List ℕ)) → length ws < 1 → load_in ws ≡ None
unfolding load_in
no_load [] h = refl
no_load (a ∷ ws) h = absurd (omega arith)

pub no_words : (ws : List (List ℕ)) → length ws < 1 → words_in ws ≡ None
unfolding words_in
no_words [] h = refl
no_words (a ∷ ws) h = absurd (omega arith)

pub no_check : (ws : List (List ℕ)) → length ws < 2 → check_in ws ≡ None
unfolding check_in
no_check [] h = refl
no_check (a ∷ []) h = refl
no_check (a ∷ b ∷ ws) h = absurd (omega arith)

pub no_run : (ws : List (List ℕ)) → length ws < 3 → run_in ws ≡ None
unfolding run_in
no_run [] h = refl
no_run (a ∷ []) h = refl
no_run (a ∷ b ∷ []) h = refl
no_run (a ∷ b ∷ c ∷ ws) h = absurd (omega arith)

pub no_replay : (ws : List (List ℕ)) → length ws < 4 → replay_in ws ≡ None
unfolding replay_in
no_replay [] h = refl
no_replay (a ∷ []) h = refl
no_replay (a ∷ b ∷ []) h = refl
no_replay (a ∷ b ∷ c ∷ []) h = refl
no_replay (a ∷ b ∷ c ∷ d ∷ ws) h = absurd (omega arith)

pub no_tangent : (ws : List (List ℕ)) → length ws < 3 → tangent_in ws ≡ None
unfolding tangent_in
no_tangent [] h = refl
no_tangent (a ∷ []) h = refl
no_tangent (a ∷ b ∷ []) h = refl
no_tangent (a ∷ b ∷ c ∷ ws) h = absurd (omega arith)

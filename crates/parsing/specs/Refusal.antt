-- The place of a refusal: up to there some text of the grammar goes on, and through the token there none does.
use Rattle.std.specs.Prelude.{◌≡◌, ◌<◌, ℕ, [], ◌∷◌, ◌++◌, length, Result, Ok, Err}
use Rattle.parsing.specs.declared.fault.Fault.{Fault}
use Rattle.parsing.specs.declared.fault.Cause.TheVariants.{Expected}
use Rattle.parsing.specs.Reading.{Lexemes, Outcome, fault}
use Rattle.parsing.specs.Grammar.{Grammar}

abbrev pub Goes_on : {A : Type 0} → Grammar A → Lexemes → Type 0
Goes_on N ts = (x : _) × (more : Lexemes) × N x (ts ++ more)

abbrev pub Ends : {A : Type 0} → Grammar A → Lexemes → Lexemes → Type 0
Ends N done [] = (x : _) → N x done → ⊥
Ends N done (t ∷ rest) = Goes_on N (done ++ t ∷ []) → ⊥

-- the first token, or the end, at which nothing of the grammar goes on; so many tokens are left there
abbrev pub Refused_at : {A : Type 0} → Grammar A → Lexemes → ℕ → Type 0
Refused_at N ts left = (done : Lexemes) × (rest : Lexemes) × (ts ≡ done ++ rest) × (length rest ≡ left) × Goes_on N done × Ends N done rest

-- some text of the grammar goes on to a place with fewer tokens left
abbrev pub Goes_past : {A : Type 0} → Grammar A → Lexemes → ℕ → Type 0
Goes_past N ts left = (done : Lexemes) × (rest : Lexemes) × (ts ≡ done ++ rest) × (length rest < left) × Goes_on N done

-- a reading that takes all of the tokens
abbrev pub no_more : {A : Type 0} → A → Lexemes → Result A Fault
no_more x [] = Ok x
no_more x (t ∷ ts) = Err (fault Expected (t ∷ ts))

abbrev pub all_of : {A : Type 0} → Outcome A → Result A Fault
all_of (Ok u) = no_more u.0 u.1
all_of (Err f) = Err f

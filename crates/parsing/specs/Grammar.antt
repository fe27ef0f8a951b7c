-- Grammars: which lexemes spell which value. No order of reading, no rest and no refusal is in them.
use Rattle.std.specs.Prelude.{◌≡◌, ℕ, zero, suc, Bool, true, [], ◌∷◌, ◌++◌, Option, Some, ◌⊎◌}
use Rattle.tokens.specs.Lexeme.{Lexeme}
use Rattle.parsing.specs.Limit.{Limit, less}
use Rattle.parsing.specs.Reading.{Lexemes}

abbrev pub Grammar : Type 0 → Type 1
Grammar A = A → Lexemes → Type 0

-- nothing, for this value
abbrev pub gives : {A : Type 0} → A → Grammar A
gives a = λ x us. (x ≡ a) × (us ≡ [])

-- one token, which reads as the value
abbrev pub one : {A : Type 0} → (Lexeme → Option A) → Grammar A
one read = λ x us. (t : Lexeme) × (read t ≡ Some x) × (us ≡ t ∷ [])

-- one after the other
infixl 10 ◌>>=◌
abbrev pub ◌>>=◌ : {A B : Type 0} → Grammar A → (A → Grammar B) → Grammar B
N >>= M = λ z us. (x : _) × (vs ws : Lexemes) × N x vs × M x z ws × (us ≡ vs ++ ws)

-- one or the other
infixl 9 ◌or◌
abbrev pub ◌or◌ : {A : Type 0} → Grammar A → Grammar A → Grammar A
N or M = λ x us. N x us ⊎ M x us

-- only where the test holds
abbrev pub where_ : {A : Type 0} → Bool → Grammar A → Grammar A
where_ test N = λ x us. (test ≡ true) × N x us

-- so many times
abbrev pub times : {A : Type 0} → (A → Grammar A) → ℕ → A → Grammar A
times step zero left = gives left
times step (suc n) left = step left >>= times step n

-- any number of times
abbrev pub many : {A : Type 0} → (A → Grammar A) → A → Grammar A
many step left = λ x us. (n : ℕ) × times step n left x us

-- op operand, behind what stands left
abbrev pub grouped : {O A : Type 0} → (Lexeme → Option O) → (O → A → A → A) → (Limit → Grammar A) → Limit → A → Grammar A
grouped op combine operand limit left =
    one op >>= (λ o. operand (less limit) >>= (λ right. gives (combine o left right)))

-- { op operand } behind what stands left, grouped from the left, each where the limit has room for what stands before it
abbrev pub left_grouped : {O A : Type 0} → (Lexeme → Option O) → (O → A → A → A) → (Limit → A → Bool) → (Limit → Grammar A) → Limit → A → Grammar A
left_grouped op combine room operand limit = many (λ left. where_ (room limit left) (grouped op combine operand limit left))

-- Outcomes of readings: what they were, and how far they got.
use Rattle.std.proofs.Common.{◌≡◌, ℕ, ◌+◌, ◌<◌, ◌≤◌, Bool, true, false, List, [], ◌∷◌, ◌++◌, length, Option, Some, None, Ok, Err, ◌⊎◌, inl, inr, refl, sym, ap, ◌∙◌, length-append, arith}
use Rattle.tokens.specs.Lexeme.{Lexeme}
use Rattle.parsing.specs.declared.fault.Cause.{Cause}
use Rattle.parsing.specs.declared.fault.Fault.{Fault}
use Rattle.parsing.specs.Reading.{◌>>=◌ as ◌▷◌, Lexemes, Outcome, Parser, and_then, sees, choose, refuse, pure}

-- the first token, where there is one
abbrev pub first : Lexemes → Option Lexeme
first [] = None
first (t ∷ ts) = Some t

pub append_nil : {A : Type 0} (us : List A) → us ++ [] ≡ us
append_nil [] = refl
append_nil (t ∷ us) = ap (λ vs. t ∷ vs) (append_nil us)

pub append_split : {A : Type 0} (a b c d : List A) → a ++ b ≡ c ++ d → length b ≡ length d → (a ≡ c) × (b ≡ d)
append_split [] b [] d e h = (refl, e)
append_split [] b (x ∷ c) d e h =
    let whole : length b ≡ length (x ∷ c) + length d = ap length e ∙ length-append (x ∷ c) d in absurd (omega arith)
append_split (x ∷ a) b [] d e h =
    let whole : length (x ∷ a) + length b ≡ length d = sym (length-append (x ∷ a) b) ∙ ap length e in absurd (omega arith)
append_split {A} (x ∷ a) b (y ∷ c) d e h =
    let rest = append_split a b c d (tails x y (a ++ b) (c ++ d) e) h in
    (both x y a c (heads x y (a ++ b) (c ++ d) e) rest.0, rest.1)
  where
    heads : (x y : A) (us vs : List A) → x ∷ us ≡ y ∷ vs → x ≡ y
    heads x y us vs e = cc

    tails : (x y : A) (us vs : List A) → x ∷ us ≡ y ∷ vs → us ≡ vs
    tails x y us vs e = cc

    both : (x y : A) (us vs : List A) → x ≡ y → us ≡ vs → x ∷ us ≡ y ∷ vs
    both x y us vs e f = cc

-- with other tokens after it from the second on
pub first-append : (us r rest : Lexemes) → first r ≡ first rest → first (us ++ r) ≡ first (us ++ rest)
first-append [] r rest e = e
first-append (t ∷ us) r rest e = refl

abbrev sees-some : (test : Lexeme → Bool) → Option Lexeme → Bool
sees-some test None = false
sees-some test (Some t) = test t

sees-first : (test : Lexeme → Bool) (ts : Lexemes) → sees test ts ≡ sees-some test (first ts)
sees-first test [] = refl
sees-first test (t ∷ ts) = refl

pub sees-same : (test : Lexeme → Bool) (r rest : Lexemes) → first r ≡ first rest → sees test r ≡ sees test rest
sees-same test r rest e = sees-first test r ∙ ap (sees-some test) e ∙ sym (sees-first test rest)

abbrev pub never : Lexeme → Bool
never t = false

pub sees-never : (ts : Lexemes) → sees never ts ≡ false
sees-never [] = refl
sees-never (t ∷ ts) = refl

pub which : (b : Bool) → (b ≡ true) ⊎ (b ≡ false)
which true = inl refl
which false = inr refl

pub differ : {A : Type 0} (b : Bool) → b ≡ true → b ≡ false → A
differ b e f = absurd (let no = sym e ∙ f in cc)

-- ---- constructors

pub ok_is : {A : Type 0} (u v : A × Lexemes) → (let a : Outcome A = Ok u in a) ≡ Ok v → u ≡ v
ok_is u v e = cc

pub ok_value : {A : Type 0} (x y : A) (r s : Lexemes) → (let a : Outcome A = Ok (x, r) in a) ≡ Ok (y, s) → x ≡ y
ok_value x y r s e = ap (λ u. u.0) (ok_is (x, r) (y, s) e)

pub ok_rest : {A : Type 0} (x y : A) (r s : Lexemes) → (let a : Outcome A = Ok (x, r) in a) ≡ Ok (y, s) → r ≡ s
ok_rest x y r s e = ap (λ u. u.1) (ok_is (x, r) (y, s) e)

pub ok_same : {A : Type 0} (x y : A) (r s : Lexemes) → x ≡ y → r ≡ s → (let a : Outcome A = Ok (x, r) in a) ≡ Ok (y, s)
ok_same x y r s e f = cc

pub err_is : {A : Type 0} (f g : Fault) → (let a : Outcome A = Err f in a) ≡ Err g → f ≡ g
err_is f g e = cc

pub ok_err : {A B : Type 0} (f : Fault) (u : A × Lexemes) → (let a : Outcome A = Ok u in a) ≡ Err f → B
ok_err {A} f u e = absurd (wrong f u e)
  where
    wrong : (f : Fault) (u : A × Lexemes) → (let a : Outcome A = Ok u in a) ≡ Err f → ⊥
    wrong f u e = cc

-- ---- one after the other

pub bind_ok : {A B : Type 0} (o : Outcome A) (f : A → Parser B) (z : B) (rest : Lexemes) → and_then o f ≡ Ok (z, rest) →
    (x : A) × (mid : Lexemes) × (o ≡ Ok (x, mid)) × (f x mid ≡ Ok (z, rest))
bind_ok (Ok u) f z rest e = (u.0, u.1, refl, e)
bind_ok (Err d) f z rest e = cc

pub bind_err : {A B : Type 0} (o : Outcome A) (f : A → Parser B) (d : Fault) → and_then o f ≡ Err d →
    (o ≡ Err d) ⊎ ((x : A) × (mid : Lexemes) × (o ≡ Ok (x, mid)) × (f x mid ≡ Err d))
bind_err (Ok u) f d e = inr (u.0, u.1, refl, e)
bind_err (Err c) f d e = inl (cc)

pub bind_at : {A B : Type 0} (o : Outcome A) (f : A → Parser B) (x : A) (mid : Lexemes) → o ≡ Ok (x, mid) → and_then o f ≡ f x mid
bind_at o f x mid e = rw e refl

pub bind_at_err : {A B : Type 0} (o : Outcome A) (f : A → Parser B) (d : Fault) → o ≡ Err d → and_then o f ≡ Err d
bind_at_err o f d e = rw e refl

-- ---- the one or the other

pub choose_true : {A : Type 0} (test : Lexeme → Bool) (q s : Parser A) (ts : Lexemes) → sees test ts ≡ true → choose test q s ts ≡ q ts
choose_true test q s ts h = rw h refl

pub choose_false : {A : Type 0} (test : Lexeme → Bool) (q s : Parser A) (ts : Lexemes) → sees test ts ≡ false → choose test q s ts ≡ s ts
choose_false test q s ts h = rw h refl

-- ---- how far an outcome got: at most so many tokens are left, or fewer

abbrev pub Within : {A : Type 0} → Outcome A → ℕ → Type 0
Within (Ok u) n = length u.1 ≤ n
Within (Err f) n = f.left ≤ n

abbrev pub Past : {A : Type 0} → Outcome A → ℕ → Type 0
Past (Ok u) n = length u.1 < n
Past (Err f) n = f.left < n

-- A reading leaves no more tokens than there were.
abbrev pub Shrinks : {A : Type 0} → Parser A → Type 0
Shrinks q = (ts : Lexemes) → Within (q ts) (length ts)

-- It takes a first token that passes the test.
abbrev pub Bites : {A : Type 0} → Parser A → (Lexeme → Bool) → Type 0
Bites q test = (ts : Lexemes) → sees test ts ≡ true → Past (q ts) (length ts)

pub within_past : {A : Type 0} (o : Outcome A) (n : ℕ) → Past o n → Within o n
within_past (Ok u) n h = omega arith
within_past (Err f) n h = omega arith

pub within_more : {A : Type 0} (o : Outcome A) (m n : ℕ) → Within o m → m ≤ n → Within o n
within_more (Ok u) m n h less = omega arith
within_more (Err f) m n h less = omega arith

pub past_more : {A : Type 0} (o : Outcome A) (m n : ℕ) → Within o m → m < n → Past o n
past_more (Ok u) m n h less = omega arith
past_more (Err f) m n h less = omega arith

pub within_on : {A B : Type 0} (o : Outcome A) (f : A → Parser B) (n : ℕ) → ((x : A) → Shrinks (f x)) → Within o n → Within (and_then o f) n
within_on (Ok u) f n less h = within_more (f u.0 u.1) (length u.1) n (less u.0 u.1) h
within_on (Err g) f n less h = h

pub past_on : {A B : Type 0} (o : Outcome A) (f : A → Parser B) (n : ℕ) → ((x : A) → Shrinks (f x)) → Past o n → Past (and_then o f) n
past_on (Ok u) f n less h = past_more (f u.0 u.1) (length u.1) n (less u.0 u.1) h
past_on (Err g) f n less h = h

pub shrinks_pure : {A : Type 0} (a : A) → Shrinks (pure a)
shrinks_pure a ts = omega arith

pub shrinks_refuse : (A : Type 0) (cause : Cause) → Shrinks (refuse {A = A} cause)
shrinks_refuse A cause ts = omega arith

pub shrinks_seq : {A B : Type 0} (q : Parser A) (f : A → Parser B) → Shrinks q → ((x : A) → Shrinks (f x)) → Shrinks (q ▷ f)
shrinks_seq q f P F ts = within_on (q ts) f (length ts) F (P ts)

pub bites_seq : {A B : Type 0} (q : Parser A) (f : A → Parser B) (test : Lexeme → Bool) → Bites q test → ((x : A) → Shrinks (f x)) → Bites (q ▷ f) test
bites_seq q f test P F ts h = past_on (q ts) f (length ts) F (P ts h)

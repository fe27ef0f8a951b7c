-- What holds of each value of a grammar, and how many bytes its tokens have at least.
use Rattle.std.proofs.Common.{◌≡◌, ℕ, zero, suc, ◌+◌, ◌-◌, ◌<◌, ◌≤◌, Bool, true, false, cond, not, ◌&&◌, ◌||◌, nat_le, List, [], ◌∷◌, ◌++◌, length, map, take, drop, slice_range, Option, Some, None, refl, sym, ap, subst, ◌∙◌, arith, bytes_eq}
use Rattle.std.specs.List.{list_all, list_any}
use Rattle.std.specs.Char.{to_ascii_lowercase}
use Rattle.std.proofs.lemmas.List.{length-take, length-map}
use Rattle.std.proofs.lemmas.Slice.Eq.{bytes_eq-Decides}
use Rattle.fl_base.specs.Spelling.{is_name}
use Rattle.tokens.specs.declared.TokenKind.{TokenKind}
use Rattle.tokens.specs.declared.TokenKind.TheVariants.{Word as word_kind, Number as number_kind, Mark, Dots, Sentinel, LineEnd}
use Rattle.tokens.specs.declared.Token.{Token}
use Rattle.tokens.specs.Lexeme.{Lexeme, lexeme}
use Rattle.tokens.specs.Spelled.{is_spelled_as, is_spelled, AreSpelled}
use Rattle.fl_ast.specs.Words.{reserved_words}
use Rattle.fl_ast.specs.Readable.{is_variable}
use Rattle.parsing.specs.declared.symbol.Symbol.{Symbol}
use Rattle.parsing.specs.declared.symbol.Symbol.TheVariants as s
use Rattle.parsing.specs.declared.cursor.Word.{Word}
use Rattle.parsing.specs.declared.cursor.Number.{Number}
use Rattle.parsing.specs.Symbol.{look_up, words as word_table, kind_numbers, marks, dot_words, symbol_by}
use Rattle.parsing.specs.Terminal.{on, names, name, number_by, number, at_most, small_number, words, word, word_of}
use Rattle.parsing.specs.Reading.{Lexemes, sees}
use Rattle.parsing.specs.Grammar.{Grammar, gives, one, times, many, ◌>>=◌ as ◌⨟◌}
use Rattle.parsing.proofs.Outcomes.{differ}
use Rattle.parsing.proofs.Exact.{Begins}
use Rattle.parsing.proofs.Rules.{stepping}
use Rattle.parsing.proofs.OnSymbols.{look_up_is}

-- ---- lexemes

abbrev pub AllSpelled : Lexemes → Type 0
AllSpelled [] = Unit {0}
AllSpelled (t ∷ ts) = (is_spelled t ≡ true) × AllSpelled ts

-- their bytes
abbrev pub width : Lexemes → ℕ
width [] = 0
width (t ∷ ts) = length t.bytes + width ts

width-append : (vs ws : Lexemes) → width (vs ++ ws) ≡ width vs + width ws
width-append [] ws = omega arith
width-append (t ∷ vs) ws = ap (λ n. length t.bytes + n) (width-append vs ws) ∙ omega arith

spelled_split : (vs ws : Lexemes) → AllSpelled (vs ++ ws) → AllSpelled vs × AllSpelled ws
spelled_split [] ws s = (tt, s)
spelled_split (t ∷ vs) ws s = let rest = spelled_split vs ws s.1 in ((s.0, rest.0), rest.1)

pub lexemes_spelled : (text : List ℕ) (from : ℕ) (ts : List Token) → AreSpelled text from ts → AllSpelled (map (lexeme text) ts)
lexemes_spelled text from [] s = tt
lexemes_spelled text from (t ∷ ts) s = (s.3, lexemes_spelled text t.end ts s.4)

slice_short : (text : List ℕ) (a b : ℕ) → length (map to_ascii_lowercase (slice_range text a b)) ≤ b - a
slice_short text a b =
    let e = length-map (take (b - a) (drop a text)) to_ascii_lowercase in
    let f = length-take (b - a) (drop a text) in
    omega arith

pub lexemes_narrow : (text : List ℕ) (from : ℕ) (ts : List Token) → from ≤ length text → AreSpelled text from ts → width (map (lexeme text) ts) + from ≤ length text
lexemes_narrow text from [] h s = omega (arith, h)
lexemes_narrow text from (t ∷ ts) h s =
    let rest = lexemes_narrow text t.end ts s.2 s.4 in
    let here = slice_short text t.start t.end in
    let before = s.0 in
    let order = s.1 in
    omega (arith, rest, here, before, order)

-- ---- grammars

-- Behind so many bytes, what holds of each value and the bytes up to its end.
abbrev pub Holds : {A : Type 0} → ℕ → Grammar A → (A → ℕ → Type 0) → Type 0
Holds m N P = (x : _) (us : Lexemes) → AllSpelled us → N x us → P x (m + width us)

pub holds_bind : {A B : Type 0} (m : ℕ) (N : Grammar A) (M : A → Grammar B) (Q : A → ℕ → Type 0) (P : B → ℕ → Type 0) →
    Holds m N Q → ((x : A) (k : ℕ) → Q x k → Holds k (M x) P) → Holds m (N ⨟ M) P
holds_bind m N M Q P q f z us s (x, vs, ws, n, r, e) =
    let both = spelled_split vs ws (subst AllSpelled e s) in
    let whole : m + width vs + width ws ≡ m + width us = omega (arith, width-append vs ws, ap width e) in
    subst (λ (k : ℕ). P z k) whole (f x (m + width vs) (q x vs both.0 n) z ws both.1 r)

pub holds_gives : {A : Type 0} (m : ℕ) (a : A) (P : A → ℕ → Type 0) → P a m → Holds m (gives a) P
holds_gives {A} m a P h x us s n =
    let none : m ≡ m + width us = omega (arith, ap width n.1) in
    subst (λ (k : ℕ). P x k) none (subst (λ (y : A). P y m) (sym n.0) h)

pub holds_many : {A : Type 0} (room : A → Bool) (step : A → Grammar A) (P : A → ℕ → Type 0) →
    ((left : A) (k : ℕ) → P left k → room left ≡ true → Holds k (step left) P) → (left : A) (m : ℕ) → P left m → Holds m (many (stepping room step) left) P
holds_many {A} room step P f left m p x us s t = by t.0 left m p x us s t.1
  where
    by : (n : ℕ) (left : A) (m : ℕ) → P left m → (x : A) (us : Lexemes) → AllSpelled us → times (stepping room step) n left x us → P x (m + width us)
    by zero left m p x us s t = holds_gives m left P p x us s t
    by (suc n) left m p x us s (y, vs, ws, (r, here), t, e) =
        let both = spelled_split vs ws (subst AllSpelled e s) in
        let whole : m + width vs + width ws ≡ m + width us = omega (arith, width-append vs ws, ap width e) in
        subst (λ (k : ℕ). P x k) whole (by n y (m + width vs) (f left m p r y vs both.0 here) x ws both.1 t)

-- ---- tokens

-- any token
pub holds_any : {A : Type 0} (m : ℕ) (N : Grammar A) → Holds m N (λ x k. m ≤ k)
holds_any m N x us s n = omega arith

some_bytes : (test : Symbol → Bool) → test s.LineEnd ≡ false → (k : TokenKind) (bs : List ℕ) → is_spelled_as k bs ≡ true → test (symbol_by k bs) ≡ true → 0 < length bs
unfolding symbol_by
some_bytes test unlike word_kind [] there h = cc
some_bytes test unlike word_kind (b ∷ bs) there h = omega arith
some_bytes test unlike (number_kind v f) [] there h = cc
some_bytes test unlike (number_kind v f) (b ∷ bs) there h = omega arith
some_bytes test unlike Mark [] there h = cc
some_bytes test unlike Mark (b ∷ bs) there h = omega arith
some_bytes test unlike Dots [] there h = cc
some_bytes test unlike Dots (b ∷ bs) there h = omega arith
some_bytes test unlike Sentinel [] there h = cc
some_bytes test unlike Sentinel (b ∷ bs) there h = omega arith
some_bytes test unlike LineEnd bs there h = differ (test s.LineEnd) h unlike

-- a token of these symbols has a byte, where the end of a line isn't one of them
pub holds_some : {A : Type 0} (m : ℕ) (read : Lexeme → Option A) (test : Symbol → Bool) → test s.LineEnd ≡ false → Begins (one read) (on test) → Holds m (one read) (λ x k. m < k)
holds_some m read test unlike begins x us spelled n =
    let first : sees (on test) (n.0 ∷ []) ≡ true = sym (ap (λ v. sees (on test) (v ++ [])) n.2) ∙ begins x us [] n in
    let there = (subst AllSpelled n.2 spelled).0 in
    let bytes = some_bytes test unlike n.0.kind n.0.bytes there first in
    omega (arith, bytes, ap width n.2)

cond_is : {A : Type 0} (b : Bool) (a x : A) → cond b (Some a) None ≡ Some x → (b ≡ true) × (a ≡ x)
cond_is true a x h = (refl, cc)
cond_is false a x h = cc

-- ---- names and numbers

abbrev are_no_names : List (List ℕ) → Bool
are_no_names = list_all (λ w. not (names (look_up word_table w s.Name)))

and_true : (a b : Bool) → a ≡ true → b ≡ true → (a && b) ≡ true
and_true a b h k = rw (h, k) refl

and_first : (a b : Bool) → (a && b) ≡ true → a ≡ true
and_first true b e = refl
and_first false b e = e

and_second : (a b : Bool) → (a && b) ≡ true → b ≡ true
and_second true b e = e
and_second false b e = cc

not_true : {A : Type 0} (a : Bool) → not a ≡ true → a ≡ true → A
not_true true h e = absurd (let wrong : false ≡ true = h in cc)
not_true false h e = differ false e refl

not_any : (bs : List ℕ) (ws : List (List ℕ)) → are_no_names ws ≡ true → names (look_up word_table bs s.Name) ≡ true → not (list_any (bytes_eq bs) ws) ≡ true
not_any bs [] h n = refl
not_any bs (w ∷ ws) h n = by (not_any bs ws (and_second _ _ h) n) (bytes_eq bs w) refl
  where
    by : not (list_any (bytes_eq bs) ws) ≡ true → (r : Bool) → bytes_eq bs w ≡ r → not (r || list_any (bytes_eq bs) ws) ≡ true
    by rest true e =
        let is_w : bs ≡ w = (bytes_eq-Decides bs w).0 e in
        not_true (names (look_up word_table w s.Name)) (and_first _ _ h) (ap (λ v. names (look_up word_table v s.Name)) (sym is_w) ∙ n)
    by rest false e = rest

variable_by : (k : TokenKind) (bs : List ℕ) → is_spelled_as k bs ≡ true → names (symbol_by k bs) ≡ true → is_variable bs ≡ true
unfolding symbol_by
variable_by word_kind bs spelled n = and_true _ _ spelled (not_any bs reserved_words refl n)
variable_by (number_kind v f) bs spelled n = not_true (names (look_up kind_numbers bs s.Number)) (look_up_is (λ a. not (names a)) kind_numbers bs s.Number refl refl) n
variable_by Mark bs spelled n = not_true (names (look_up marks bs s.Other)) (look_up_is (λ a. not (names a)) marks bs s.Other refl refl) n
variable_by Dots bs spelled n = not_true (names (look_up dot_words bs s.Other)) (look_up_is (λ a. not (names a)) dot_words bs s.Other refl refl) n
variable_by Sentinel bs spelled n = cc
variable_by LineEnd bs spelled n = cc

pub holds_name : (m : ℕ) → Holds m (one name) (λ x k. is_variable x.name ≡ true)
holds_name m x us s n =
    let both = cond_is (on names n.0) (word_of n.0) x n.1 in
    let there = (subst AllSpelled n.2 s).0 in
    ap (λ (w : Word). is_variable w.name) (sym both.1) ∙ variable_by n.0.kind n.0.bytes there both.0

spelled_word : (k : TokenKind) (bs : List ℕ) → is_spelled_as k bs ≡ true → words (symbol_by k bs) ≡ true → is_name bs ≡ true
unfolding symbol_by
spelled_word word_kind bs spelled n = spelled
spelled_word (number_kind v f) bs spelled n = not_true (words (look_up kind_numbers bs s.Number)) (look_up_is (λ a. not (words a)) kind_numbers bs s.Number refl refl) n
spelled_word Mark bs spelled n = not_true (words (look_up marks bs s.Other)) (look_up_is (λ a. not (words a)) marks bs s.Other refl refl) n
spelled_word Dots bs spelled n = not_true (words (look_up dot_words bs s.Other)) (look_up_is (λ a. not (words a)) dot_words bs s.Other refl refl) n
spelled_word Sentinel bs spelled n = cc
spelled_word LineEnd bs spelled n = cc

pub holds_word : (m : ℕ) → Holds m (one word) (λ x k. is_name x.name ≡ true)
holds_word m x us s n =
    let both = cond_is (on words n.0) (word_of n.0) x n.1 in
    let there = (subst AllSpelled n.2 s).0 in
    ap (λ (w : Word). is_name w.name) (sym both.1) ∙ spelled_word n.0.kind n.0.bytes there both.0

number_value : (k : TokenKind) (bs : List ℕ) (x : Number) → is_spelled_as k bs ≡ true → number_by k ≡ Some x → nat_le x.value 9223372036854775807 ≡ true
number_value word_kind bs x s e = cc
number_value (number_kind v f) bs x s e = ap (λ (n : Number). nat_le n.value 9223372036854775807) (sym (same v f x e)) ∙ and_second _ _ s
  where
    same : (v : ℕ) (f : Option ℕ) (x : Number) → number_by (number_kind v f) ≡ Some x → record { value = v; suffix = f } ≡ x
    same v f x e = cc
number_value Mark bs x s e = cc
number_value Dots bs x s e = cc
number_value Sentinel bs x s e = cc
number_value LineEnd bs x s e = cc

pub holds_number : (m : ℕ) → Holds m (one number) (λ x k. nat_le x.value 9223372036854775807 ≡ true)
holds_number m x us s n = number_value n.0.kind n.0.bytes x ((subst AllSpelled n.2 s).0) n.1

-- both of two facts
pub holds_both : {A : Type 0} (m : ℕ) (N : Grammar A) (P Q : A → ℕ → Type 0) → Holds m N P → Holds m N Q → Holds m N (λ x k. P x k × Q x k)
holds_both m N P Q p q x us s n = (p x us s n, q x us s n)

small_of : (most : ℕ) (o : Option Number) (x : Number) → at_most most o ≡ Some x → nat_le x.value most ≡ true
small_of most None x e = cc
small_of most (Some n) x e = let both = cond_is (nat_le n.value most) n x e in ap (λ (i : Number). nat_le i.value most) (sym both.1) ∙ both.0

pub holds_small : (m most : ℕ) → Holds m (one (small_number most)) (λ x k. nat_le x.value most ≡ true)
holds_small m most x us s n = small_of most (number n.0) x n.1

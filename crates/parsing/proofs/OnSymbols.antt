-- What the tests on tokens say of each other: tests on symbols are decided by trying each.
use Rattle.std.proofs.Common.{◌≡◌, ℕ, zero, suc, Bool, true, false, cond, not, ◌&&◌, ◌||◌, List, [], ◌∷◌, ◌++◌, Option, Some, None, refl, sym, ap, ◌∙◌, eqb-true, eq-eqb, arith, nat_le}
use Rattle.tokens.specs.Lexeme.{Lexeme}
use Rattle.parsing.specs.declared.symbol.Symbol.{Symbol}
use Rattle.parsing.specs.declared.symbol.Symbol.TheVariants as s
use Rattle.parsing.specs.Freed.{Freed}
use Rattle.std.specs.Prelude.{bytes_eq}
use Rattle.std.proofs.lemmas.Bool.Decides.{nat_tests}
use Rattle.std.specs.Str.{str_to_ascii_lowercase}
use Rattle.tokens.specs.declared.TokenKind.{TokenKind}
use Rattle.tokens.specs.declared.TokenKind.TheVariants as kind
use Rattle.parsing.specs.declared.cursor.Number.{Number}
use Rattle.parsing.specs.Symbol.{Entry, look_up, kind_numbers, words as word_table, symbol_of, symbol_by}
use Rattle.parsing.proofs.Table.{same_bytes}
use Rattle.parsing.specs.Example.{example}
use Rattle.parsing.specs.Terminal.{code, same, on, is, marked, by, some, reads, names, word_of, name, words, word, number_by, numbers, number, at_most, small_number, same_word, without_eight, plain_number}
use Rattle.parsing.specs.Reading.{Lexemes, Parser, ◌>>=◌ as ◌▷◌, sees, token}
use Rattle.parsing.specs.Grammar.{Grammar, one, ◌>>=◌ as ◌⨟◌}
use Rattle.parsing.proofs.Outcomes.{never, differ, Bites, Shrinks, bites_seq}
use Rattle.parsing.proofs.Exact.{Exact, Begins, Meets, seq, token_exact, bites_token}
use Rattle.parsing.proofs.Rules.{meets_never}

abbrev symbol_at : List Symbol → ℕ → Symbol
symbol_at [] n = s.Other
symbol_at (a ∷ as_) zero = a
symbol_at (a ∷ as_) (suc n) = symbol_at as_ n

abbrev all : List Symbol
all = s.Name ∷ s.Number ∷ s.Four ∷ s.Eight ∷ s.Open ∷ s.Close ∷ s.Comma ∷ s.Equals ∷ s.Plus ∷ s.Minus ∷ s.Star ∷ s.Slash ∷ s.Power ∷ s.Colon ∷ s.Colons ∷ s.Equal ∷ s.Unequal ∷ s.Less ∷ s.AtMost ∷ s.Greater ∷ s.AtLeast ∷ s.And ∷ s.Or ∷ s.Not ∷ s.If ∷ s.Do ∷ s.Else ∷ s.ElseIf ∷ s.End ∷ s.EndDo ∷ s.EndIf ∷ s.EndSubroutine ∷ s.Call ∷ s.Integer ∷ s.Subroutine ∷ s.Implicit ∷ s.Max ∷ s.Min ∷ s.Abs ∷ s.Mod ∷ s.Merge ∷ s.Int ∷ s.NoneWord ∷ s.Kind ∷ s.Intent ∷ s.In ∷ s.Out ∷ s.InOut ∷ s.Then ∷ s.Parallel ∷ s.Atomic ∷ s.Update ∷ s.Private ∷ s.FirstPrivate ∷ s.Shared ∷ s.Reduction ∷ s.Default ∷ s.Schedule ∷ s.Static ∷ s.Dynamic ∷ s.Guided ∷ s.Auto ∷ s.Runtime ∷ s.Collapse ∷ s.FormadPush ∷ s.FormadPop ∷ s.FormadOpen ∷ s.FormadClose ∷ s.Construct ∷ s.Sentinel ∷ s.LineEnd ∷ s.Other ∷ []

back : (a : Symbol) → symbol_at all (code a) ≡ a
back s.Name = refl
back s.Number = refl
back s.Four = refl
back s.Eight = refl
back s.Open = refl
back s.Close = refl
back s.Comma = refl
back s.Equals = refl
back s.Plus = refl
back s.Minus = refl
back s.Star = refl
back s.Slash = refl
back s.Power = refl
back s.Colon = refl
back s.Colons = refl
back s.Equal = refl
back s.Unequal = refl
back s.Less = refl
back s.AtMost = refl
back s.Greater = refl
back s.AtLeast = refl
back s.And = refl
back s.Or = refl
back s.Not = refl
back s.If = refl
back s.Do = refl
back s.Else = refl
back s.ElseIf = refl
back s.End = refl
back s.EndDo = refl
back s.EndIf = refl
back s.EndSubroutine = refl
back s.Call = refl
back s.Integer = refl
back s.Subroutine = refl
back s.Implicit = refl
back s.Max = refl
back s.Min = refl
back s.Abs = refl
back s.Mod = refl
back s.Merge = refl
back s.Int = refl
back s.NoneWord = refl
back s.Kind = refl
back s.Intent = refl
back s.In = refl
back s.Out = refl
back s.InOut = refl
back s.Then = refl
back s.Parallel = refl
back s.Atomic = refl
back s.Update = refl
back s.Private = refl
back s.FirstPrivate = refl
back s.Shared = refl
back s.Reduction = refl
back s.Default = refl
back s.Schedule = refl
back s.Static = refl
back s.Dynamic = refl
back s.Guided = refl
back s.Auto = refl
back s.Runtime = refl
back s.Collapse = refl
back s.FormadPush = refl
back s.FormadPop = refl
back s.FormadOpen = refl
back s.FormadClose = refl
back s.Construct = refl
back s.Sentinel = refl
back s.LineEnd = refl
back s.Other = refl

pub same_is : (a b : Symbol) → same a b ≡ true → b ≡ a
same_is a b h = sym (sym (back a) ∙ ap (symbol_at all) (eqb-true _ _ h) ∙ back b)

pub same_self : (a : Symbol) → same a a ≡ true
same_self a = eq-eqb (code a) (code a) refl

-- each symbol is spelled
pub example_is : (a : Symbol) → symbol_of (example a) ≡ a
unfolding symbol_by
example_is s.Name = refl
example_is s.Number = refl
example_is s.Four = refl
example_is s.Eight = refl
example_is s.Open = refl
example_is s.Close = refl
example_is s.Comma = refl
example_is s.Equals = refl
example_is s.Plus = refl
example_is s.Minus = refl
example_is s.Star = refl
example_is s.Slash = refl
example_is s.Power = refl
example_is s.Colon = refl
example_is s.Colons = refl
example_is s.Equal = refl
example_is s.Unequal = refl
example_is s.Less = refl
example_is s.AtMost = refl
example_is s.Greater = refl
example_is s.AtLeast = refl
example_is s.And = refl
example_is s.Or = refl
example_is s.Not = refl
example_is s.If = refl
example_is s.Do = refl
example_is s.Else = refl
example_is s.ElseIf = refl
example_is s.End = refl
example_is s.EndDo = refl
example_is s.EndIf = refl
example_is s.EndSubroutine = refl
example_is s.Call = refl
example_is s.Integer = refl
example_is s.Subroutine = refl
example_is s.Implicit = refl
example_is s.Max = refl
example_is s.Min = refl
example_is s.Abs = refl
example_is s.Mod = refl
example_is s.Merge = refl
example_is s.Int = refl
example_is s.NoneWord = refl
example_is s.Kind = refl
example_is s.Intent = refl
example_is s.In = refl
example_is s.Out = refl
example_is s.InOut = refl
example_is s.Then = refl
example_is s.Parallel = refl
example_is s.Atomic = refl
example_is s.Update = refl
example_is s.Private = refl
example_is s.FirstPrivate = refl
example_is s.Shared = refl
example_is s.Reduction = refl
example_is s.Default = refl
example_is s.Schedule = refl
example_is s.Static = refl
example_is s.Dynamic = refl
example_is s.Guided = refl
example_is s.Auto = refl
example_is s.Runtime = refl
example_is s.Collapse = refl
example_is s.FormadPush = refl
example_is s.FormadPop = refl
example_is s.FormadOpen = refl
example_is s.FormadClose = refl
example_is s.Construct = refl
example_is s.Sentinel = refl
example_is s.LineEnd = refl
example_is s.Other = refl

-- ---- tests on symbols

abbrev every_of : (Symbol → Bool) → List Symbol → Bool
every_of f [] = true
every_of f (a ∷ as_) = f a && every_of f as_

abbrev pub every : (Symbol → Bool) → Bool
every f = every_of f all

and_l : (a b : Bool) → (a && b) ≡ true → a ≡ true
and_l true b e = refl
and_l false b e = e

and_r : (a b : Bool) → (a && b) ≡ true → b ≡ true
and_r true b e = e
and_r false b e = cc

every_nth : (f : Symbol → Bool) (as_ : List Symbol) → every_of f as_ ≡ true → f s.Other ≡ true → (n : ℕ) → f (symbol_at as_ n) ≡ true
every_nth f [] h last n = last
every_nth f (a ∷ as_) h last zero = and_l (f a) (every_of f as_) h
every_nth f (a ∷ as_) h last (suc n) = every_nth f as_ (and_r (f a) (every_of f as_) h) last n

every_at : (f : Symbol → Bool) → every f ≡ true → f s.Other ≡ true → (a : Symbol) → f a ≡ true
every_at f h last a = sym (ap f (back a)) ∙ every_nth f all h last (code a)

abbrev pub excludes : (Symbol → Bool) → (Symbol → Bool) → Symbol → Bool
excludes f g a = cond (f a) (not (g a)) true

abbrev pub implies : (Symbol → Bool) → (Symbol → Bool) → Symbol → Bool
implies f g a = cond (f a) (g a) true

not_both : (b c : Bool) → cond b (not c) true ≡ true → b ≡ true → c ≡ false
not_both true true h e = cc
not_both true false h e = refl
not_both false c h e = cc

neither : (b c : Bool) → cond b c true ≡ true → c ≡ false → b ≡ false
neither true c h e = sym h ∙ e
neither false c h e = refl

both : (b c : Bool) → cond b c true ≡ true → b ≡ true → c ≡ true
both true c h e = h
both false c h e = cc

-- what passes the one test fails the other
pub apart : (f g : Symbol → Bool) → every (excludes f g) ≡ true → excludes f g s.Other ≡ true → (ts : Lexemes) → sees (on f) ts ≡ true → sees (on g) ts ≡ false
apart f g h last [] e = refl
apart f g h last (t ∷ ts) e = not_both (f (symbol_of t)) (g (symbol_of t)) (every_at (excludes f g) h last (symbol_of t)) e

-- what fails the wider test fails the narrower one
pub less : (f g : Symbol → Bool) → every (implies f g) ≡ true → implies f g s.Other ≡ true → (ts : Lexemes) → sees (on g) ts ≡ false → sees (on f) ts ≡ false
less f g h last [] e = refl
less f g h last (t ∷ ts) e = neither (f (symbol_of t)) (g (symbol_of t)) (every_at (implies f g) h last (symbol_of t)) e

pub wider : (f g : Symbol → Bool) → every (implies f g) ≡ true → implies f g s.Other ≡ true → (ts : Lexemes) → sees (on f) ts ≡ true → sees (on g) ts ≡ true
wider f g h last [] e = cc
wider f g h last (t ∷ ts) e = both (f (symbol_of t)) (g (symbol_of t)) (every_at (implies f g) h last (symbol_of t)) e

abbrev pub among : List Symbol → Symbol → Bool
among [] a = false
among (b ∷ bs) a = same b a || among bs a

pub meets : {B : Type 0} (f g : Symbol → Bool) (after : Lexeme → Bool) (M : Grammar B) → Begins M (on f) → every (excludes f g) ≡ true → excludes f g s.Other ≡ true → Meets M (on g) after
meets f g after M b h last z ws rest m _ = apart f g h last (ws ++ rest) (b z ws rest m)

pub begins_in : {A : Type 0} (f g : Symbol → Bool) (N : Grammar A) → Begins N (on f) → every (implies f g) ≡ true → implies f g s.Other ≡ true → Begins N (on g)
begins_in f g N b h last x us rest n = wider f g h last (us ++ rest) (b x us rest n)

-- ---- tokens

cond_some : {A : Type 0} (b : Bool) (a x : A) → cond b (Some a) None ≡ Some x → b ≡ true
cond_some true a x h = refl
cond_some false a x h = cc

pub begins_one : {A : Type 0} (read : Lexeme → Option A) (test : Lexeme → Bool) → ((t : Lexeme) (x : A) → read t ≡ Some x → test t ≡ true) → Begins (one read) test
begins_one read test h x us rest n = ap (λ v. sees test (v ++ rest)) n.2 ∙ h n.0 x n.1

pub begins_mark : (a : Symbol) → Begins (one (marked a)) (is a)
begins_mark a = begins_one (marked a) (is a) (λ t x h. cond_some (is a t) t.line x h)

pub begins_name : Begins (one name) (on names)
begins_name = begins_one name (on names) (λ t x h. cond_some (on names t) (word_of t) x h)

pub begins_by : {A : Type 0} (read : Symbol → Option A) → Begins (one (by read)) (on (reads read))
begins_by read = begins_one (by read) (on (reads read)) (λ t x h. ap some h)

pub mark_exact : {l : Freed} (a : Symbol) → Exact l (one (marked a)) never (token (marked a)) (token (marked a))
mark_exact a = token_exact (marked a) (example a).line (example a)
    (ap (λ b. cond b (Some (example a).line) None) (ap (same a) (example_is a) ∙ same_self a))

pub name_exact : {l : Freed} → Exact l (one name) never (token name) (token name)
name_exact = token_exact name (word_of (example s.Name)) (example s.Name) (ap (λ v. cond (names v) (Some (word_of (example s.Name))) None) (example_is s.Name))

pub word_exact : {l : Freed} → Exact l (one word) never (token word) (token word)
word_exact = token_exact word (word_of (example s.Name)) (example s.Name) (ap (λ v. cond (words v) (Some (word_of (example s.Name))) None) (example_is s.Name))

pub number_exact : {l : Freed} → Exact l (one number) never (token number) (token number)
number_exact = token_exact number (record { value = 0; suffix = None }) (example s.Number) refl

least : (most : ℕ) → nat_le 0 most ≡ true
least most = grind (arith, nat_tests)

pub small_number_exact : {l : Freed} (most : ℕ) → Exact l (one (small_number most)) never (token (small_number most)) (token (small_number most))
small_number_exact most =
    let nought : Number = record { value = 0; suffix = None } in
    token_exact (small_number most) nought (example s.Number) (ap (λ b. cond b (Some nought) None) (least most))

pub plain_number_exact : {l : Freed} (most : ℕ) → Exact l (one (plain_number most)) never (token (plain_number most)) (token (plain_number most))
plain_number_exact most =
    let nought : Number = record { value = 0; suffix = None } in
    token_exact (plain_number most) nought (example s.Number) (ap (λ b. cond (b && true) (Some nought) None) (least most))

-- a token that reads by its symbol
pub by_exact : {A : Type 0} {l : Freed} (read : Symbol → Option A) (a : Symbol) (x : A) → read a ≡ Some x → Exact l (one (by read)) never (token (by read)) (token (by read))
by_exact read a x e = token_exact (by read) x (example a) (ap read (example_is a) ∙ e)

-- a mark, and then something
pub mark_then : {B : Type 0} {l : Freed} {after : Lexeme → Bool} (a : Symbol) (M : ℕ → Grammar B) (f f2 : ℕ → Parser B) →
    ((x : ℕ) → Exact l (M x) after (f x) (f2 x)) → Exact l (one (marked a) ⨟ M) after (token (marked a) ▷ f) (token (marked a) ▷ f2)
mark_then {B} {l} {after} a M f f2 F = seq (mark_exact a) F (λ x. meets_never after (M x))

pub bites_mark : {B : Type 0} (a : Symbol) (f : ℕ → Parser B) → ((x : ℕ) → Shrinks (f x)) → Bites (token (marked a) ▷ f) (is a)
bites_mark a f F = bites_seq (token (marked a)) f (is a) (bites_token (marked a) (is a) (λ t h. (t.line, ap (λ b. cond b (Some t.line) None) h))) F

pub bites_name : {B : Type 0} (f : _ → Parser B) → ((x : _) → Shrinks (f x)) → Bites (token name ▷ f) (on names)
bites_name f F = bites_seq (token name) f (on names) (bites_token name (on names) (λ t h. (word_of t, ap (λ b. cond b (Some (word_of t)) None) h))) F

some_of : {A : Type 0} (o : Option A) → some o ≡ true → (x : A) × (o ≡ Some x)
some_of (Some x) e = (x, refl)
some_of None e = cc

pub bites_by : {A B : Type 0} (read : Symbol → Option A) (f : A → Parser B) → ((x : A) → Shrinks (f x)) → Bites (token (by read) ▷ f) (on (reads read))
bites_by read f F = bites_seq (token (by read)) f (on (reads read)) (bites_token (by read) (on (reads read)) (λ t h. some_of (read (symbol_of t)) h)) F

-- ---- what words and numbers have for symbols

abbrev pub every_entry : (Symbol → Bool) → List Entry → Bool
every_entry f [] = true
every_entry f (e ∷ es) = f e.1 && every_entry f es

of_cond : (f : Symbol → Bool) (b : Bool) (a c : Symbol) → f a ≡ true → f c ≡ true → f (cond b a c) ≡ true
of_cond f true a c h k = h
of_cond f false a c h k = k

pub look_up_is : (f : Symbol → Bool) (table : List Entry) (bytes : List ℕ) (otherwise : Symbol) → every_entry f table ≡ true → f otherwise ≡ true → f (look_up table bytes otherwise) ≡ true
look_up_is f [] bytes otherwise h k = k
look_up_is f (e ∷ es) bytes otherwise h k =
    of_cond f (bytes_eq bytes (str_to_ascii_lowercase e.0)) e.1 (look_up es bytes otherwise) (and_l (f e.1) (every_entry f es) h) (look_up_is f es bytes otherwise (and_r (f e.1) (every_entry f es) h) k)

number_symbol : (k : TokenKind) (bytes : List ℕ) (x : Number) → number_by k ≡ Some x → numbers (symbol_by k bytes) ≡ true
unfolding symbol_by
number_symbol kind.Word bytes x e = cc
number_symbol (kind.Number value suffix) bytes x e = look_up_is numbers kind_numbers bytes s.Number refl refl
number_symbol kind.Mark bytes x e = cc
number_symbol kind.Dots bytes x e = cc
number_symbol kind.Sentinel bytes x e = cc
number_symbol kind.LineEnd bytes x e = cc

pub begins_number : Begins (one number) (on numbers)
begins_number = begins_one number (on numbers) (λ t x h. number_symbol t.kind t.bytes x h)

some_small : (most : ℕ) (o : Option Number) (x : Number) → at_most most o ≡ Some x → (n : Number) × (o ≡ Some n)
some_small most None x e = cc
some_small most (Some n) x e = (n, refl)

pub begins_small_number : (most : ℕ) → Begins (one (small_number most)) (on numbers)
begins_small_number most = begins_one (small_number most) (on numbers) (λ t x h. let n = some_small most (number t) x h in number_symbol t.kind t.bytes n.0 n.1)

plain_some : (most : ℕ) (o : Option Number) (x : Number) → without_eight most o ≡ Some x → (n : Number) × (o ≡ Some n)
plain_some most None x e = cc
plain_some most (Some n) x e = (n, refl)

pub begins_plain_number : (most : ℕ) → Begins (one (plain_number most)) (on numbers)
begins_plain_number most = begins_one (plain_number most) (on numbers) (λ t x h. let n = plain_some most (number t) x h in number_symbol t.kind t.bytes n.0 n.1)

pub begins_word : Begins (one word) (on words)
begins_word = begins_one word (on words) (λ t x h. cond_some (on words t) (word_of t) x h)

word_symbol : (bytes : List ℕ) → words (symbol_by kind.Word bytes) ≡ true
unfolding symbol_by
word_symbol bytes = look_up_is words word_table bytes s.Name refl refl

pub begins_same_word : (bytes : List ℕ) → Begins (one (same_word bytes)) (on words)
begins_same_word bytes = begins_one (same_word bytes) (on words)
    (λ t x h. and_l (on words t) (bytes_eq t.bytes (str_to_ascii_lowercase bytes)) (cond_some (on words t && bytes_eq t.bytes (str_to_ascii_lowercase bytes)) tt x h))

given : {A : Type 0} (x : A) (a b : Bool) → a ≡ true → b ≡ true → cond (a && b) (Some x) None ≡ Some x
given x true true h k = refl
given x true false h k = differ false k refl
given x false b h k = differ false h refl

pub same_word_exact : {l : Freed} (bytes : List ℕ) → Exact l (one (same_word bytes)) never (token (same_word bytes)) (token (same_word bytes))
same_word_exact bytes =
    let t : Lexeme = record { line = 1; kind = kind.Word; bytes = str_to_ascii_lowercase bytes } in
    token_exact (same_word bytes) tt t (given tt (on words t) (bytes_eq t.bytes (str_to_ascii_lowercase bytes)) (word_symbol t.bytes) (same_bytes t.bytes t.bytes refl))

-- A name is read exactly, where it stands once only and where it doesn't.
use Rattle.std.proofs.Common.{◌≡◌, ℕ, ◌+◌, ◌<◌, Bool, true, false, cond, not, ◌&&◌, ◌||◌, List, [], ◌∷◌, ◌++◌, length, Option, Some, None, Ok, Err, refl, sym, ap, subst, ◌∙◌, inl, inr, bytes_eq, arith}
use Rattle.std.specs.List.{list_any}
use Rattle.std.proofs.lemmas.Slice.Eq.{bytes_eq-Decides}
use Rattle.tokens.specs.declared.TokenKind.TheVariants as kind
use Rattle.tokens.specs.Lexeme.{Lexeme}
use Rattle.fl_ast.specs.Readable.{listed_names}
use Rattle.parsing.specs.declared.cursor.Word.{Word}
use Rattle.parsing.specs.declared.fault.Cause.TheVariants.{Expected, Twice}
use Rattle.parsing.specs.declared.fault.Fault.{Fault}
use Rattle.parsing.specs.declared.fault.Failure.{Failure}
use Rattle.parsing.specs.declared.fault.Failure.TheVariants.{Memory, Refused}
use Rattle.parsing.specs.Code.{Fails}
use Rattle.parsing.specs.Freed.{Freed, frees}
use Rattle.parsing.specs.Symbol.{symbol_by}
use Rattle.parsing.specs.Terminal.{on, names, name, word_of}
use Rattle.parsing.specs.Reading.{Lexemes, Outcome, fault, taken, token}
use Rattle.parsing.specs.Grammar.{one}
use Rattle.omp_clauses.specs.Said.{Said, lists}
use Rattle.omp_clauses.specs.Terminals as t
use Rattle.omp_clauses.specs.Once.{Onces}
use Rattle.omp_clauses.specs.ClauseReading as p
use Rattle.parsing.proofs.Outcomes.{first, never, which, differ, ok_value, ok_rest, err_is, ok_err, Within, Past, Shrinks}
use Rattle.parsing.proofs.Exact.{Exact, Room, Steady, Stuck, expected_stays}

-- ---- by whether it is a name, and whether it may not stand there

abbrev outcome : Bool → Bool → Lexeme → Lexemes → Outcome Word
outcome a b t ts = cond (a && b) (Err (fault Twice (t ∷ ts))) (taken (cond a (Some (word_of t)) None) t ts)

abbrev value : Bool → Bool → Lexeme → Option Word
value a b t = cond b None (cond a (Some (word_of t)) None)

reads : (a b : Bool) (t : Lexeme) (r : Lexemes) (x : Word) → value a b t ≡ Some x → outcome a b t r ≡ Ok (x, r)
reads true true t r x e = cc
reads true false t r x e = cc
reads false true t r x e = cc
reads false false t r x e = cc

was : (a b : Bool) (t : Lexeme) (ts rest : Lexemes) (x : Word) → outcome a b t ts ≡ Ok (x, rest) → (value a b t ≡ Some x) × (ts ≡ rest)
was true true t ts rest x e = cc
was true false t ts rest x e = (ap (λ v. Some v) (ok_value (word_of t) x ts rest e), ok_rest (word_of t) x ts rest e)
was false true t ts rest x e = cc
was false false t ts rest x e = cc

stuck_at : (a b : Bool) (t : Lexeme) (ts r : Lexemes) (f : Fault) → outcome a b t ts ≡ Err f → outcome a b t r ≡ Err (fault f.cause (t ∷ r))
stuck_at true true t ts r f e = ap (λ v. Err (fault v.cause (t ∷ r))) (err_is (fault Twice (t ∷ ts)) f e)
stuck_at true false t ts r f e = ok_err f (word_of t, ts) e
stuck_at false true t ts r f e = ap (λ v. Err (fault v.cause (t ∷ r))) (err_is (fault Expected (t ∷ ts)) f e)
stuck_at false false t ts r f e = ap (λ v. Err (fault v.cause (t ∷ r))) (err_is (fault Expected (t ∷ ts)) f e)

looser : (a b : Bool) (t : Lexeme) (ts : Lexemes) (u : Word × Lexemes) → outcome a b t ts ≡ Ok u → outcome a false t ts ≡ Ok u
looser true true t ts u e = ok_err (fault Twice (t ∷ ts)) u (sym e)
looser true false t ts u e = e
looser false true t ts u e = e
looser false false t ts u e = e

-- a refusal for another cause
still : (l : Freed) (a b : Bool) (t : Lexeme) (ts : Lexemes) (f : Fault) → frees l Twice ≡ true → outcome a b t ts ≡ Err f → frees l f.cause ≡ false → outcome a false t ts ≡ Err f
still l true true t ts f h e c = differ (frees l Twice) h (ap (λ v. frees l v.cause) (err_is (fault Twice (t ∷ ts)) f e) ∙ c)
still l true false t ts f h e c = e
still l false true t ts f h e c = e
still l false false t ts f h e c = e

passed : (l : Freed) (a b : Bool) (t : Lexeme) (ts : Lexemes) (f : Fault) → outcome a b t ts ≡ Err f → frees l f.cause ≡ true → (frees l Twice ≡ true) × Past (outcome a false t ts) f.left
passed l true true t ts f e c =
    let is_f = err_is {A = Word} (fault Twice (t ∷ ts)) f e in
    (ap (λ v. frees l v.cause) is_f ∙ c, subst (λ (n : ℕ). length ts < n) (ap (λ v. v.left) is_f) (omega arith))
passed l true false t ts f e c = ok_err f (word_of t, ts) e
passed l false true t ts f e c = differ (frees l f.cause) c (ap (λ v. frees l v.cause) (sym (err_is (fault Expected (t ∷ ts)) f e)) ∙ expected_stays l)
passed l false false t ts f e c = differ (frees l f.cause) c (ap (λ v. frees l v.cause) (sym (err_is (fault Expected (t ∷ ts)) f e)) ∙ expected_stays l)

shorter : (a b : Bool) (t : Lexeme) (ts : Lexemes) → Within (outcome a b t ts) (length (t ∷ ts))
shorter true true t ts = omega arith
shorter true false t ts = omega arith
shorter false true t ts = omega arith
shorter false false t ts = omega arith

-- ---- a name that isn't listed

abbrev all_letters : List (List ℕ) → List ℕ
all_letters [] = []
all_letters (x ∷ xs) = x ++ all_letters xs

abbrev total : List (List ℕ) → ℕ
total [] = 0
total (x ∷ xs) = length x + total xs

longer : (xs : List (List ℕ)) → total xs ≡ length (all_letters xs)
longer [] = refl
longer (x ∷ xs) = ap (λ n. length x + n) (longer xs) ∙ sym (length-of x (all_letters xs))
  where
    length-of : (a b : List ℕ) → length (a ++ b) ≡ length a + length b
    length-of [] b = omega arith
    length-of (x ∷ a) b = let rest = length-of a b in omega arith

none_so_long : (bs : List ℕ) (xs : List (List ℕ)) → total xs < length bs → list_any (bytes_eq bs) xs ≡ false
none_so_long bs [] h = refl
none_so_long bs (x ∷ xs) h = by (bytes_eq bs x) refl (none_so_long bs xs (omega arith))
  where
    by : (b : Bool) → bytes_eq bs x ≡ b → list_any (bytes_eq bs) xs ≡ false → (b || list_any (bytes_eq bs) xs) ≡ false
    by true e rest = let same_length : length bs ≡ length x = ap length ((bytes_eq-Decides bs x).0 e) in absurd (omega arith)
    by false e rest = rest

-- longer than all that are listed
abbrev unused : Said → Lexeme
unused c = record { line = 1; kind = kind.Word; bytes = 97 ∷ 97 ∷ all_letters (listed_names c.directive) }

unused_names : (c : Said) → on names (unused c) ≡ true
unfolding symbol_by
unused_names c = refl

unused_new : (c : Said) → lists c (unused c).bytes ≡ false
unused_new c =
    let sizes = longer (listed_names c.directive) in
    none_so_long (unused c).bytes (listed_names c.directive) (omega arith)

pub may_name : (once : Bool) (c : Said) → t.new_name once c (unused c) ≡ Some (word_of (unused c))
may_name once c =
    ap (λ b. cond (once && b) None (name (unused c))) (unused_new c) ∙ loose once ∙ ap (λ b. cond b (Some (word_of (unused c))) None) (unused_names c)
  where
    loose : (once : Bool) → cond (once && false) None (name (unused c)) ≡ name (unused c)
    loose true = refl
    loose false = refl

-- ---- exactness

module _ (l : Freed) (once wide : Bool) (O : Onces l once wide) (c : Said) where
  new_takes : (ts rest : Lexemes) (x : Word) → p.new_name once c ts ≡ Ok (x, rest) →
      (us : Lexemes) × one (t.new_name once c) x us × (ts ≡ us ++ rest) × Steady (p.new_name once c) us rest x
  unfolding p.new_name
  new_takes [] rest x e = cc
  new_takes (u ∷ ts) rest x e =
      let k = was (on names u) (once && lists c u.bytes) u ts rest x e in
      (u ∷ [], (u, k.0, refl), ap (λ v. u ∷ v) k.1, λ r h. reads (on names u) (once && lists c u.bytes) u r x k.0)

  new_again : (x : Word) (us rest : Lexemes) → one (t.new_name once c) x us → p.new_name once c (us ++ rest) ≡ Ok (x, rest)
  unfolding p.new_name
  new_again x us rest n =
      ap (λ v. p.new_name once c (v ++ rest)) n.2 ∙ reads (on names n.0) (once && lists c n.0.bytes) n.0 rest x n.1

  new_fails : (ts : Lexemes) (f : Fault) → p.new_name once c ts ≡ Err f →
      (done : Lexemes) × (rest : Lexemes) × (ts ≡ done ++ rest) × ((x : Word) × (more : Lexemes) × one (t.new_name once c) x (done ++ more)) × Stuck (p.new_name once c) done rest f.cause
  unfolding p.new_name
  new_fails [] f e = ([], [], refl, (word_of (unused c), unused c ∷ [], (unused c, may_name once c, refl)), λ r h. at_end r h)
    where
      at_end : (r : Lexemes) → first r ≡ None → p.new_name once c r ≡ Err (fault f.cause r)
      at_end [] h = ap (λ v. Err (fault v.cause [])) (err_is (fault Expected []) f e)
      at_end (u ∷ r) h = cc
  new_fails (u ∷ ts) f e = ([], u ∷ ts, refl, (word_of (unused c), unused c ∷ [], (unused c, may_name once c, refl)), λ r h. at_token r h)
    where
      at_token : (r : Lexemes) → first r ≡ Some u → p.new_name once c r ≡ Err (fault f.cause r)
      at_token [] h = cc
      at_token (v ∷ r) h =
          let same : v ≡ u = cc in
          ap (λ w. p.new_name once c (w ∷ r)) same ∙ stuck_at (on names u) (once && lists c u.bytes) u ts r f e ∙ ap (λ w. Err (fault f.cause (w ∷ r))) (sym same)

  new_ok : (ts : Lexemes) (u : Word × Lexemes) → p.new_name once c ts ≡ Ok u → p.new_name wide c ts ≡ Ok u
  unfolding p.new_name
  new_ok [] u e = e
  new_ok (v ∷ ts) u e =
      elim (which (frees l Twice)) [
        | inl h ↦ ap (λ b. outcome (on names v) (b && lists c v.bytes) v ts) (O.goes h) ∙ looser (on names v) (once && lists c v.bytes) v ts u e
        | inr h ↦ ap (λ b. outcome (on names v) (b && lists c v.bytes) v ts) (sym (O.stays h)) ∙ e
      ]

  new_same : (ts : Lexemes) (f : Fault) → p.new_name once c ts ≡ Err f → frees l f.cause ≡ false → p.new_name wide c ts ≡ Err f
  unfolding p.new_name
  new_same [] f e k = e
  new_same (v ∷ ts) f e k =
      elim (which (frees l Twice)) [
        | inl h ↦ ap (λ b. outcome (on names v) (b && lists c v.bytes) v ts) (O.goes h) ∙ still l (on names v) (once && lists c v.bytes) v ts f h e k
        | inr h ↦ ap (λ b. outcome (on names v) (b && lists c v.bytes) v ts) (sym (O.stays h)) ∙ e
      ]

  new_past : (ts : Lexemes) (f : Fault) → p.new_name once c ts ≡ Err f → frees l f.cause ≡ true → Past (p.new_name wide c ts) f.left
  unfolding p.new_name
  new_past [] f e k = differ (frees l f.cause) k (ap (λ v. frees l v.cause) (sym (err_is (fault Expected []) f e)) ∙ expected_stays l)
  new_past (v ∷ ts) f e k =
      let both = passed l (on names v) (once && lists c v.bytes) v ts f e k in
      subst (λ (b : Bool). Past (outcome (on names v) (b && lists c v.bytes) v ts) f.left) (sym (O.goes both.0)) both.1

  pub new_shrinks : Shrinks (p.new_name wide c)
  unfolding p.new_name
  new_shrinks [] = omega arith
  new_shrinks (v ∷ ts) = shorter (on names v) (wide && lists c v.bytes) v ts

  pub new_exact : Exact l (one (t.new_name once c)) never (p.new_name once c) (p.new_name wide c)
  new_exact = record {
    some = (word_of (unused c), unused c ∷ [], (unused c, may_name once c, refl));
    takes = new_takes;
    again = λ x us rest n h. new_again x us rest n;
    fails = new_fails;
    ok = new_ok;
    same = new_same;
    past = new_past;
    shrinks = new_shrinks;
  }

-- ---- what the code reads

by_name : (a b : Bool) (t : Lexeme) (ts : Lexemes) (f : Fault) → taken (cond a (Some (word_of t)) None) t ts ≡ Err f → outcome a b t ts ≡ Err f
by_name true b t ts f e = ok_err f (word_of t, ts) e
by_name false b t ts f e = e

pub refused_name : (c : Said) (ts : Lexemes) (f : Fault) → token name ts ≡ Err f → p.new_name true c ts ≡ Err f
unfolding p.new_name
refused_name c [] f e = e
refused_name c (t ∷ ts) f e = by_name (on names t) (lists c t.bytes) t ts f e

pub refused_too : (c : Said) (ts : Lexemes) (e : Failure) → Fails (token name ts) e → Fails (p.new_name true c ts) e
refused_too c ts Memory h = tt
refused_too c ts (Refused f) h = refused_name c ts f h

named_twice : (a : Bool) (c : Said) (t : Lexeme) (ts rest : Lexemes) (x : Word) → taken (cond a (Some (word_of t)) None) t ts ≡ Ok (x, rest) → lists c x.name ≡ true →
    outcome a (lists c t.bytes) t ts ≡ Err (fault Twice (t ∷ ts))
named_twice true c t ts rest x e h =
    ap (λ b. outcome true b t ts) (ap (λ (w : Word). lists c w.name) (ok_value (word_of t) x ts rest e) ∙ h)
named_twice false c t ts rest x e h = ok_err (fault Expected (t ∷ ts)) (x, rest) (sym e)

pub listed_name : (c : Said) (ts rest : Lexemes) (x : Word) → token name ts ≡ Ok (x, rest) → lists c x.name ≡ true → p.new_name true c ts ≡ Err (fault Twice ts)
unfolding p.new_name
listed_name c [] rest x e h = cc
listed_name c (t ∷ ts) rest x e h = named_twice (on names t) c t ts rest x e h

named_new : (a : Bool) (c : Said) (t : Lexeme) (ts rest : Lexemes) (x : Word) → taken (cond a (Some (word_of t)) None) t ts ≡ Ok (x, rest) → lists c x.name ≡ false →
    outcome a (lists c t.bytes) t ts ≡ Ok (x, rest)
named_new true c t ts rest x e h =
    ap (λ b. outcome true b t ts) (ap (λ (w : Word). lists c w.name) (ok_value (word_of t) x ts rest e) ∙ h) ∙ e
named_new false c t ts rest x e h = ok_err (fault Expected (t ∷ ts)) (x, rest) (sym e)

pub unlisted_name : (c : Said) (ts rest : Lexemes) (x : Word) → token name ts ≡ Ok (x, rest) → lists c x.name ≡ false → p.new_name true c ts ≡ Ok (x, rest)
unfolding p.new_name
unlisted_name c [] rest x e h = cc
unlisted_name c (t ∷ ts) rest x e h = named_new (on names t) c t ts rest x e h

-- ---- clauses that stand once

pub once_room : (l : Freed) (once wide : Bool) → Onces l once wide → (stands : Bool) → Room l Twice (not (once && stands)) (not (wide && stands))
once_room l once wide O stands = record {
  grows = λ h. elim (which (frees l Twice)) [ inl k ↦ ap (λ b. not (b && stands)) (O.goes k) | inr k ↦ ap (λ b. not (b && stands)) (sym (O.stays k)) ∙ h ];
  lifts = λ h. elim (which (frees l Twice)) [
    | inl k ↦ ap (λ b. not (b && stands)) (O.goes k) ∙ sym k
    | inr k ↦ ap (λ b. not (b && stands)) (sym (O.stays k)) ∙ h ∙ sym k
  ];
}

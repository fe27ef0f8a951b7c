-- What it is for a reader to be exact for a grammar, and that each way of putting readers together keeps it.
use Rattle.std.proofs.Common.{◌≡◌, ℕ, Bool, true, false, ◌&&◌, [], ◌∷◌, ◌++◌, length, Option, Some, None, Ok, Err, inl, inr, refl, sym, ap, ◌∙◌, subst, append_assoc, arith}
use Rattle.tokens.specs.Lexeme.{Lexeme}
use Rattle.parsing.specs.declared.fault.Cause.{Cause}
use Rattle.parsing.specs.declared.fault.Cause.TheVariants.{Expected}
use Rattle.parsing.specs.declared.fault.Fault.{Fault}
use Rattle.parsing.specs.Freed.{Freed, Frees, frees}
use Rattle.parsing.specs.Freed.Freed.{Nothing, Counts, All, Repeats}
use Rattle.parsing.specs.Limit.{Limit, allows, less as fewer}
use Rattle.parsing.specs.Reading.{◌>>=◌ as ◌▷◌, Lexemes, Outcome, Parser, and_then, sees, fault, choose, within, token, taken, pure}
use Rattle.parsing.specs.Grammar.{◌>>=◌ as ◌⨟◌, Grammar, gives, one, ◌or◌, where_}
use Rattle.parsing.proofs.Outcomes.{first, first-append, sees-same, never, which, differ, ok_value, ok_rest, ok_same, err_is, ok_err, bind_ok, bind_err, bind_at, bind_at_err, choose_true, choose_false, Within, Past, Shrinks, Bites, within_past, within_on, past_on, shrinks_pure}

-- On the tokens that were read, with the same token behind them, the answer is the same.
abbrev pub Steady : {A : Type 0} → Parser A → Lexemes → Lexemes → A → Type 0
Steady parser us rest x = (r : Lexemes) → first r ≡ first rest → parser (us ++ r) ≡ Ok (x, r)

-- The token after these is refused, whatever follows it.
abbrev pub Stuck : {A : Type 0} → Parser A → Lexemes → Lexemes → Cause → Type 0
Stuck parser done rest cause = (r : Lexemes) → first r ≡ first rest → parser (done ++ r) ≡ Err (fault cause r)

-- A reader of a grammar, and the same reader where some limits are taken away.
pub record Exact {A : Type 0} (l : Freed) (N : Grammar A) (goes_on : Lexeme → Bool) (parser wide : Parser A) : Type 0 where
  -- the grammar has a phrase
  pub some : (x : A) × (us : Lexemes) × N x us
  -- what is read is in the grammar
  pub takes : (ts rest : Lexemes) (x : A) → parser ts ≡ Ok (x, rest) → (us : Lexemes) × N x us × (ts ≡ us ++ rest) × Steady parser us rest x
  -- what is in the grammar is read, where no token follows that would go on
  pub again : (x : A) (us rest : Lexemes) → N x us → sees goes_on rest ≡ false → parser (us ++ rest) ≡ Ok (x, rest)
  -- what is refused is refused at the first token at which no phrase goes on
  pub fails : (ts : Lexemes) (f : Fault) → parser ts ≡ Err f →
      (done : Lexemes) × (rest : Lexemes) × (ts ≡ done ++ rest) × ((x : A) × (more : Lexemes) × N x (done ++ more)) × Stuck parser done rest f.cause
  -- what is read is read without the limits as well
  pub ok : (ts : Lexemes) (u : A × Lexemes) → parser ts ≡ Ok u → wide ts ≡ Ok u
  -- and what is refused for another cause is refused then
  pub same : (ts : Lexemes) (f : Fault) → parser ts ≡ Err f → frees l f.cause ≡ false → wide ts ≡ Err f
  -- but a token that a limit refused is passed
  pub past : (ts : Lexemes) (f : Fault) → parser ts ≡ Err f → frees l f.cause ≡ true → Past (wide ts) f.left
  pub shrinks : Shrinks wide

pub expected_stays : (l : Freed) → frees l Expected ≡ false
expected_stays Nothing = refl
expected_stays Counts = refl
expected_stays All = refl
expected_stays Repeats = refl

-- ---- nothing

pub pure_exact : {A : Type 0} {l : Freed} (a : A) → Exact l (gives a) never (pure a) (pure a)
pure_exact a = record {
  some = (a, [], (refl, refl));
  takes = λ ts rest x e. ([], (sym (ok_value a x ts rest e), refl), ok_rest a x ts rest e, λ r h. ok_same a x r r (ok_value a x ts rest e) refl);
  again = λ x us rest n h. rw n.1 (ok_same a x rest rest (sym n.0) refl);
  fails = λ ts f e. ok_err f (a, ts) e;
  ok = λ ts u e. e;
  same = λ ts f e c. e;
  past = λ ts f e c. ok_err f (a, ts) e;
  shrinks = shrinks_pure a;
}

-- ---- one after the other

-- A phrase of M begins with no token with which a phrase before it would go on.
abbrev pub Meets : {B : Type 0} → Grammar B → (Lexeme → Bool) → (Lexeme → Bool) → Type 0
Meets M before after = (z : _) (ws rest : Lexemes) → M z ws → sees after rest ≡ false → sees before (ws ++ rest) ≡ false

pub seq : {A B : Type 0} {l : Freed} {N : Grammar A} {M : A → Grammar B} {before after : Lexeme → Bool} {q q2 : Parser A} {f f2 : A → Parser B} →
    Exact l N before q q2 → ((x : A) → Exact l (M x) after (f x) (f2 x)) → ((x : A) → Meets (M x) before after) →
    Exact l (N ⨟ M) after (q ▷ f) (q2 ▷ f2)
seq {A} {B} {l} {N} {M} {before} {after} {q} {q2} {f} {f2} P F meets = record {
  some =
      let s = P.some in
      let t = (F s.0).some in
      (t.0, s.1 ++ t.1, (s.0, s.1, t.1, s.2, t.2, refl));
  takes = λ ts rest z e.
      let b = bind_ok (q ts) f z rest e in
      let s = P.takes ts b.1 b.0 b.2 in
      let t = (F b.0).takes b.1 rest z b.3 in (
        s.0 ++ t.0,
        (b.0, s.0, t.0, s.1, t.1, refl),
        (s.2 ∙ ap (λ v. s.0 ++ v) t.2 ∙ sym (append_assoc s.0 t.0 rest)),
        λ r h.
            let here : first (t.0 ++ r) ≡ first b.1 = first-append t.0 r rest h ∙ ap first (sym t.2) in
            ap (λ v. and_then (q v) f) (append_assoc s.0 t.0 r) ∙ bind_at (q (s.0 ++ (t.0 ++ r))) f b.0 (t.0 ++ r) (s.3 (t.0 ++ r) here) ∙ t.3 r h,
      );
  again = λ z us rest n h.
      let x = n.0 in let vs = n.1 in let ws = n.2 in
      ap (λ v. and_then (q v) f) (ap (λ v. v ++ rest) n.5 ∙ append_assoc vs ws rest)
      ∙ bind_at (q (vs ++ (ws ++ rest))) f x (ws ++ rest) (P.again x vs (ws ++ rest) n.3 (meets x z ws rest n.4 h))
      ∙ (F x).again z ws rest n.4 h;
  fails = λ ts d e.
      elim (bind_err (q ts) f d e) [
        | inl e1 ↦
            let s = P.fails ts d e1 in
            let x = s.3.0 in
            let t = (F x).some in (
              s.0,
              s.1,
              s.2,
              (t.0, s.3.1 ++ t.1, (x, s.0 ++ s.3.1, t.1, s.3.2, t.2, sym (append_assoc s.0 s.3.1 t.1))),
              λ r h. bind_at_err (q (s.0 ++ r)) f (fault d.cause r) (s.4 r h),
            )
        | inr b ↦
            let s = P.takes ts b.1 b.0 b.2 in
            let t = (F b.0).fails b.1 d b.3 in (
              s.0 ++ t.0,
              t.1,
              (s.2 ∙ ap (λ v. s.0 ++ v) t.2 ∙ sym (append_assoc s.0 t.0 t.1)),
              (t.3.0, t.3.1, (b.0, s.0, t.0 ++ t.3.1, s.1, t.3.2, append_assoc s.0 t.0 t.3.1)),
              λ r h.
                  let here : first (t.0 ++ r) ≡ first b.1 = first-append t.0 r t.1 h ∙ ap first (sym t.2) in
                  ap (λ v. and_then (q v) f) (append_assoc s.0 t.0 r) ∙ bind_at (q (s.0 ++ (t.0 ++ r))) f b.0 (t.0 ++ r) (s.3 (t.0 ++ r) here) ∙ t.4 r h,
            )
      ];
  ok = λ ts u e.
      let b = bind_ok (q ts) f u.0 u.1 e in
      bind_at (q2 ts) f2 b.0 b.1 (P.ok ts (b.0, b.1) b.2) ∙ (F b.0).ok b.1 u b.3;
  same = λ ts d e c.
      elim (bind_err (q ts) f d e) [
        | inl e1 ↦ bind_at_err (q2 ts) f2 d (P.same ts d e1 c)
        | inr b ↦ bind_at (q2 ts) f2 b.0 b.1 (P.ok ts (b.0, b.1) b.2) ∙ (F b.0).same b.1 d b.3 c
      ];
  past = λ ts d e c.
      elim (bind_err (q ts) f d e) [
        | inl e1 ↦ past_on (q2 ts) f2 d.left (λ x. (F x).shrinks) (P.past ts d e1 c)
        | inr b ↦ subst (λ (v : Outcome B). Past v d.left) (sym (bind_at (q2 ts) f2 b.0 b.1 (P.ok ts (b.0, b.1) b.2))) ((F b.0).past b.1 d b.3 c)
      ];
  shrinks = λ ts. within_on (q2 ts) f2 (length ts) (λ x. (F x).shrinks) (P.shrinks ts);
}

-- ---- one token

taken_ok : {A : Type 0} (o : Option A) (t : Lexeme) (ts rest : Lexemes) (x : A) → taken o t ts ≡ Ok (x, rest) → (o ≡ Some x) × (ts ≡ rest)
taken_ok (Some a) t ts rest x e = (ap (λ v. Some v) (ok_value a x ts rest e), ok_rest a x ts rest e)
taken_ok None t ts rest x e = cc

taken_err : {A : Type 0} (o : Option A) (t : Lexeme) (ts : Lexemes) (f : Fault) → taken o t ts ≡ Err f → (o ≡ None) × (f ≡ fault Expected (t ∷ ts))
taken_err (Some a) t ts f e = cc
taken_err None t ts f e = (refl, cc)

token_take : {A : Type 0} (read : Lexeme → Option A) (ts rest : Lexemes) (x : A) → token read ts ≡ Ok (x, rest) →
    (us : Lexemes) × one read x us × (ts ≡ us ++ rest) × Steady (token read) us rest x
token_take read [] rest x e = cc
token_take read (t ∷ ts) rest x e =
    let k = taken_ok (read t) t ts rest x e in
    (t ∷ [], (t, k.0, refl), ap (λ v. t ∷ v) k.1, λ r h. rw k.0 refl)

token_fail : {A : Type 0} (read : Lexeme → Option A) (x : A) (us : Lexemes) → one read x us → (ts : Lexemes) (f : Fault) → token read ts ≡ Err f →
    (done : Lexemes) × (rest : Lexemes) × (ts ≡ done ++ rest) × ((y : A) × (more : Lexemes) × one read y (done ++ more)) × Stuck (token read) done rest f.cause
token_fail {A} read x us n [] f e = ([], [], refl, (x, us, n), λ r h. at_end r h f e)
  where
    at_end : (r : Lexemes) → first r ≡ None → (f : Fault) → (let a : Outcome A = Err (fault Expected []) in a) ≡ Err f → token read r ≡ Err (fault f.cause r)
    at_end [] h f e = let k : fault Expected [] ≡ f = cc in rw (← k) refl
    at_end (t ∷ ts) h f e = cc
token_fail {A} read x us n (t ∷ ts) f e =
    let k = taken_err (read t) t ts f e in
    ([], t ∷ ts, refl, (x, us, n), λ r h. at_token r h)
  where
    at_token : (r : Lexemes) → first r ≡ Some t → token read r ≡ Err (fault f.cause r)
    at_token [] h = cc
    at_token (s ∷ r) h =
        let same : s ≡ t = cc in
        let k = taken_err (read t) t ts f e in
        rw (same, k.0, k.1) refl

token_cause : {A : Type 0} (read : Lexeme → Option A) (ts : Lexemes) (f : Fault) → token read ts ≡ Err f → f.cause ≡ Expected
token_cause read [] f e = ap (λ v. v.cause) (sym (err_is (fault Expected []) f e))
token_cause read (t ∷ ts) f e = ap (λ v. v.cause) ((taken_err (read t) t ts f e).1)

pub shrinks_token : {A : Type 0} (read : Lexeme → Option A) → Shrinks (token read)
shrinks_token read [] = omega arith
shrinks_token {A} read (t ∷ ts) = by (read t)
  where
    by : (o : Option A) → Within (taken o t ts) (length (t ∷ ts))
    by (Some a) = omega arith
    by None = omega arith

pub token_exact : {A : Type 0} {l : Freed} (read : Lexeme → Option A) (x : A) (t : Lexeme) → read t ≡ Some x → Exact l (one read) never (token read) (token read)
token_exact {A} {l} read x t e = record {
  some = (x, t ∷ [], (t, e, refl));
  takes = token_take read;
  again = λ y us rest n h. rw n.2 (rw n.1 refl);
  fails = token_fail read x (t ∷ []) (t, e, refl);
  ok = λ ts u e. e;
  same = λ ts f e c. e;
  past = λ ts f e c. differ (frees l f.cause) c (ap (frees l) (token_cause read ts f e) ∙ expected_stays l);
  shrinks = shrinks_token read;
}

pub bites_token : {A : Type 0} (read : Lexeme → Option A) (test : Lexeme → Bool) → ((t : Lexeme) → test t ≡ true → (x : A) × (read t ≡ Some x)) → Bites (token read) test
bites_token read test reads [] h = cc
bites_token {A} read test reads (t ∷ ts) h =
    let k = reads t h in
    subst (λ (o : Option A). Past (taken o t ts) (length (t ∷ ts))) (sym k.1) (short k.0)
  where
    short : (x : A) → Past (taken (Some x) t ts) (length (t ∷ ts))
    short x = omega arith

-- ---- one or the other, by the next token

-- Whatever follows, a phrase begins with a token that passes the test.
abbrev pub Begins : {A : Type 0} → Grammar A → (Lexeme → Bool) → Type 0
Begins N test = (x : _) (us rest : Lexemes) → N x us → sees test (us ++ rest) ≡ true

-- A test of a limit, and the same test where limits are taken away.
pub record Room (l : Freed) (cause : Cause) (room room2 : Bool) : Type 0 where
  pub grows : room ≡ true → room2 ≡ true
  pub lifts : room ≡ false → room2 ≡ frees l cause

pub always_room : {l : Freed} {cause : Cause} → Room l cause true true
always_room = record { grows = λ h. h; lifts = λ h. differ true refl h }

-- the limit's own test
pub room_of : {l : Freed} {cause : Cause} {limit wide : Limit} → Frees l cause limit wide → (n : ℕ) → Room l cause (allows limit n) (allows wide n)
room_of {l} {cause} {limit} {wide} F n = record {
  grows = λ h. elim (which (frees l cause)) [ inl t ↦ ap (λ v. allows v n) (F.goes t) | inr f ↦ sym (ap (λ v. allows v n) (F.stays f)) ∙ h ];
  lifts = λ h. elim (which (frees l cause)) [
    | inl t ↦ ap (λ v. allows v n) (F.goes t) ∙ sym t
    | inr f ↦ sym (ap (λ v. allows v n) (F.stays f)) ∙ h ∙ sym f
  ];
}

lifted : (a b a2 b2 f : Bool) → (a ≡ true → a2 ≡ true) → (b ≡ true → b2 ≡ true) → (a ≡ false → a2 ≡ f) → (b ≡ false → b2 ≡ f) → (a && b) ≡ false → (a2 && b2) ≡ f
lifted true true a2 b2 f g h k l e = cc
lifted true false a2 b2 f g h k l e = ap (λ v. v && b2) (g refl) ∙ l refl
lifted false true a2 b2 f g h k l e = ap (λ v. a2 && v) (h refl) ∙ with_true a2 ∙ k refl
  where
    with_true : (a : Bool) → (a && true) ≡ a
    with_true true = refl
    with_true false = refl
lifted false false a2 b2 f g h k l e = ap (λ v. v && b2) (k refl) ∙ ap (λ v. f && v) (l refl) ∙ with_self f
  where
    with_self : (a : Bool) → (a && a) ≡ a
    with_self true = refl
    with_self false = refl

-- two limits at once
pub both_rooms : {l : Freed} {cause : Cause} {a a2 b b2 : Bool} → Room l cause a a2 → Room l cause b b2 → Room l cause (a && b) (a2 && b2)
both_rooms {l} {cause} {a} {a2} {b} {b2} R S = record {
  grows = λ h. grown a b a2 b2 R.grows S.grows h;
  lifts = λ h. lifted a b a2 b2 (frees l cause) R.grows S.grows R.lifts S.lifts h;
}
  where
    grown : (a b a2 b2 : Bool) → (a ≡ true → a2 ≡ true) → (b ≡ true → b2 ≡ true) → (a && b) ≡ true → (a2 && b2) ≡ true
    grown true true a2 b2 g h e = ap (λ v. v && b2) (g refl) ∙ h refl
    grown true false a2 b2 g h e = cc
    grown false b a2 b2 g h e = cc

pub frees_less : {l : Freed} {cause : Cause} {limit wide : Limit} → Frees l cause limit wide → Frees l cause (fewer limit) (fewer wide)
frees_less F = record { stays = λ h. ap fewer (F.stays h); goes = λ h. ap fewer (F.goes h) }

inside_ok : {A : Type 0} {l : Freed} {N : Grammar A} {after : Lexeme → Bool} {q q2 : Parser A} (r r2 : Bool) (cause : Cause) → Room l cause r r2 → (r ≡ true → Exact l N after q q2) → (ts : Lexemes) (u : A × Lexemes) → within r cause q ts ≡ Ok u → within r2 cause q2 ts ≡ Ok u
inside_ok {A} {l} {N} {after} {q} {q2} true r2 cause R P ts u e = ap (λ b. within b cause q2 ts) (R.grows refl) ∙ (P refl).ok ts u e
inside_ok false r2 cause R P ts u e = ok_err (fault cause ts) u (sym e)

inside_same : {A : Type 0} {l : Freed} {N : Grammar A} {after : Lexeme → Bool} {q q2 : Parser A} (r r2 : Bool) (cause : Cause) → Room l cause r r2 → (r ≡ true → Exact l N after q q2) → (ts : Lexemes) (f : Fault) → within r cause q ts ≡ Err f → frees l f.cause ≡ false → within r2 cause q2 ts ≡ Err f
inside_same {A} {l} {N} {after} {q} {q2} true r2 cause R P ts f e c = ap (λ b. within b cause q2 ts) (R.grows refl) ∙ (P refl).same ts f e c
inside_same {A} {l} {N} {after} {q} {q2} false r2 cause R P ts f e c =
    ap (λ b. within b cause q2 ts) (R.lifts refl ∙ ap (λ v. frees l v.cause) (err_is (fault cause ts) f e) ∙ c) ∙ e

inside_past : {A : Type 0} {l : Freed} {N : Grammar A} {after : Lexeme → Bool} {q q2 : Parser A} (test : Lexeme → Bool) (r r2 : Bool) (cause : Cause) → Room l cause r r2 → (r ≡ true → Exact l N after q q2) → (r ≡ false → r2 ≡ true → Bites q2 test) →
    (ts : Lexemes) (f : Fault) → sees test ts ≡ true → within r cause q ts ≡ Err f → frees l f.cause ≡ true → Past (within r2 cause q2 ts) f.left
inside_past {A} {l} {N} {after} {q} {q2} test true r2 cause R P bites ts f h e c = subst (λ (b : Bool). Past (within b cause q2 ts) f.left) (sym (R.grows refl)) ((P refl).past ts f e c)
inside_past {A} {l} {N} {after} {q} {q2} test false r2 cause R P bites ts f h e c =
    let k = err_is (fault cause ts) f e in
    let open_ : r2 ≡ true = R.lifts refl ∙ ap (λ v. frees l v.cause) k ∙ c in
    subst (λ (b : Bool). Past (within b cause q2 ts) f.left) (sym open_)
    (subst (λ (n : ℕ). Past (q2 ts) n) (ap (λ v. v.left) k) (bites refl open_ ts h))

inside_shrinks : {A : Type 0} {l : Freed} {N : Grammar A} {after : Lexeme → Bool} {q q2 : Parser A} (test : Lexeme → Bool) (r r2 : Bool) (cause : Cause) → Room l cause r r2 → (r ≡ true → Exact l N after q q2) → (r ≡ false → r2 ≡ true → Bites q2 test) →
    (ts : Lexemes) → sees test ts ≡ true → Within (within r2 cause q2 ts) (length ts)
inside_shrinks {A} {l} {N} {after} {q} {q2} test true r2 cause R P bites ts h = subst (λ (b : Bool). Within (within b cause q2 ts) (length ts)) (sym (R.grows refl)) ((P refl).shrinks ts)
inside_shrinks {A} {l} {N} {after} {q} {q2} test false true cause R P bites ts h = within_past (q2 ts) (length ts) (bites refl refl ts h)
inside_shrinks {A} {l} {N} {after} {q} {q2} test false false cause R P bites ts h = omega arith

-- The one where its limit leaves room, and else the token that would begin it is refused.
pub either_within : {A : Type 0} {l : Freed} {N M : Grammar A} {after : Lexeme → Bool} {test : Lexeme → Bool} {q q2 s s2 : Parser A} (room room2 : Bool) (cause : Cause) → Room l cause room room2 →
    (room ≡ true → Exact l N after q q2) → (room ≡ false → room2 ≡ true → Bites q2 test) → Exact l M after s s2 → Begins N test → Meets M test after →
    Exact l (where_ room N or M) after (choose test (within room cause q) s) (choose test (within room2 cause q2) s2)
either_within {A} {l} {N} {M} {after} {test} {q} {q2} {s} {s2} room room2 cause R P bites Q begins other = record {
  some = let n = Q.some in (n.0, n.1, inr n.2);
  takes = λ ts rest x e.
      elim (which (sees test ts)) [
        | inl h ↦
            let n = inside_takes room P ts rest x (sym (choose_true test (within room cause q) s ts h) ∙ e) in
            (n.0, inl n.1, n.2, λ r k. choose_true test (within room cause q) s (n.0 ++ r) (sees-same test (n.0 ++ r) ts (first-append n.0 r rest k ∙ ap first (sym n.2)) ∙ h) ∙ n.3 r k)
        | inr h ↦
            let n = Q.takes ts rest x (sym (choose_false test (within room cause q) s ts h) ∙ e) in
            (n.0, inr n.1, n.2, λ r k. choose_false test (within room cause q) s (n.0 ++ r) (sees-same test (n.0 ++ r) ts (first-append n.0 r rest k ∙ ap first (sym n.2)) ∙ h) ∙ n.3 r k)
      ];
  again = λ x us rest n h.
      elim n [
        | inl m ↦ choose_true test (within room cause q) s (us ++ rest) (begins x us rest m.1) ∙ inside_again room P x us rest m h
        | inr m ↦ choose_false test (within room cause q) s (us ++ rest) (other x us rest m h) ∙ Q.again x us rest m h
      ];
  fails = λ ts f e.
      elim (which (sees test ts)) [
        | inl h ↦
            let n = inside_fails room P ts f (sym (choose_true test (within room cause q) s ts h) ∙ e) in
            (n.0, n.1, n.2, n.3, λ r k. choose_true test (within room cause q) s (n.0 ++ r) (sees-same test (n.0 ++ r) ts (first-append n.0 r n.1 k ∙ ap first (sym n.2)) ∙ h) ∙ n.4 r k)
        | inr h ↦
            let n = Q.fails ts f (sym (choose_false test (within room cause q) s ts h) ∙ e) in
            (n.0, n.1, n.2, (n.3.0, n.3.1, inr n.3.2), λ r k. choose_false test (within room cause q) s (n.0 ++ r) (sees-same test (n.0 ++ r) ts (first-append n.0 r n.1 k ∙ ap first (sym n.2)) ∙ h) ∙ n.4 r k)
      ];
  ok = λ ts u e.
      elim (which (sees test ts)) [
        | inl h ↦ choose_true test (within room2 cause q2) s2 ts h ∙ inside_ok room room2 cause R P ts u (sym (choose_true test (within room cause q) s ts h) ∙ e)
        | inr h ↦ choose_false test (within room2 cause q2) s2 ts h ∙ Q.ok ts u (sym (choose_false test (within room cause q) s ts h) ∙ e)
      ];
  same = λ ts f e c.
      elim (which (sees test ts)) [
        | inl h ↦ choose_true test (within room2 cause q2) s2 ts h ∙ inside_same room room2 cause R P ts f (sym (choose_true test (within room cause q) s ts h) ∙ e) c
        | inr h ↦ choose_false test (within room2 cause q2) s2 ts h ∙ Q.same ts f (sym (choose_false test (within room cause q) s ts h) ∙ e) c
      ];
  past = λ ts f e c.
      elim (which (sees test ts)) [
        | inl h ↦ subst (λ (v : Outcome A). Past v f.left) (sym (choose_true test (within room2 cause q2) s2 ts h))
            (inside_past test room room2 cause R P bites ts f h (sym (choose_true test (within room cause q) s ts h) ∙ e) c)
        | inr h ↦ subst (λ (v : Outcome A). Past v f.left) (sym (choose_false test (within room2 cause q2) s2 ts h))
            (Q.past ts f (sym (choose_false test (within room cause q) s ts h) ∙ e) c)
      ];
  shrinks = λ ts.
      elim (which (sees test ts)) [
        | inl h ↦ subst (λ (v : Outcome A). Within v (length ts)) (sym (choose_true test (within room2 cause q2) s2 ts h)) (inside_shrinks test room room2 cause R P bites ts h)
        | inr h ↦ subst (λ (v : Outcome A). Within v (length ts)) (sym (choose_false test (within room2 cause q2) s2 ts h)) (Q.shrinks ts)
      ];
}
  where
    inside_takes : (r : Bool) → (r ≡ true → Exact l N after q q2) → (ts rest : Lexemes) (x : A) → within r cause q ts ≡ Ok (x, rest) →
        (us : Lexemes) × where_ r N x us × (ts ≡ us ++ rest) × Steady (within r cause q) us rest x
    inside_takes true P ts rest x e = let n = (P refl).takes ts rest x e in (n.0, (refl, n.1), n.2, n.3)
    inside_takes false P ts rest x e = ok_err (fault cause ts) (x, rest) (sym e)

    inside_again : (r : Bool) → (r ≡ true → Exact l N after q q2) → (x : A) (us rest : Lexemes) → where_ r N x us → sees after rest ≡ false → within r cause q (us ++ rest) ≡ Ok (x, rest)
    inside_again true P x us rest n h = (P refl).again x us rest n.1 h
    inside_again false P x us rest n h = differ true refl (sym n.0)

    inside_fails : (r : Bool) → (r ≡ true → Exact l N after q q2) → (ts : Lexemes) (f : Fault) → within r cause q ts ≡ Err f →
        (done : Lexemes) × (rest : Lexemes) × (ts ≡ done ++ rest) × ((x : A) × (more : Lexemes) × (where_ r N or M) x (done ++ more)) × Stuck (within r cause q) done rest f.cause
    inside_fails true P ts f e = let n = (P refl).fails ts f e in (n.0, n.1, n.2, (n.3.0, n.3.1, inl (refl, n.3.2)), n.4)
    inside_fails false P ts f e =
        let n = Q.some in
        ([], ts, refl, (n.0, n.1, inr n.2), λ r j. ap (λ v. Err (fault v r)) (ap (λ v. v.cause) (err_is (fault cause ts) f e)))

-- Limits that guard each other, and lists whose steps are exact as turns.
use Rattle.std.proofs.Common.{◌≡◌, ℕ, zero, suc, ◌+◌, ◌<◌, ◌≤◌, Bool, true, false, ◌||◌, cond, [], ◌∷◌, ◌++◌, length, Ok, Err, ◌⊎◌, inl, inr, refl, sym, ap, subst, ◌∙◌, length-append, arith}
use Rattle.std.proofs.lemmas.List.{append_cancel_right}
use Rattle.tokens.specs.Lexeme.{Lexeme}
use Rattle.parsing.specs.declared.fault.Cause.{Cause}
use Rattle.parsing.specs.declared.symbol.Symbol.{Symbol}
use Rattle.parsing.specs.Symbol.{symbol_of}
use Rattle.parsing.specs.Terminal.{on, is, same, marked}
use Rattle.parsing.specs.declared.fault.Cause.TheVariants.{Expected, Deep, Many, Construct}
use Rattle.parsing.specs.declared.fault.Fault.{Fault}
use Rattle.parsing.specs.Freed.{Freed, frees}
use Rattle.parsing.specs.Freed.Freed.{Nothing, Counts, All, Repeats}
use Rattle.parsing.specs.Reading.{◌>>=◌ as ◌▷◌, Lexemes, Outcome, Parser, and_then, sees, fault, choose, within, token, turns, loop, pure}
use Rattle.parsing.specs.Grammar.{◌>>=◌ as ◌⨟◌, Grammar, gives, ◌or◌, where_, times, many}
use Rattle.parsing.proofs.Outcomes.{first, append_split, which, differ, err_is, choose_true, choose_false, Past, Within, Shrinks, Bites}
use Rattle.parsing.proofs.Exact.{Exact, Room, Begins, Meets, Steady, Stuck, pure_exact, either_within}
use Rattle.parsing.proofs.OnSymbols.{bites_mark}
use Rattle.parsing.proofs.Rules.{anywhere, restate, not_empty}

-- ---- limits

pub construct_stays : (l : Freed) → frees l Construct ≡ false
construct_stays Nothing = refl
construct_stays Counts = refl
construct_stays All = refl
construct_stays Repeats = refl

-- what takes away depths takes away numbers
pub deep_frees_many : (l : Freed) → frees l Deep ≡ true → frees l Many ≡ true
deep_frees_many Nothing h = h
deep_frees_many Counts h = refl
deep_frees_many All h = refl
deep_frees_many Repeats h = h

-- so there is room for one more where a depth was taken away
pub counted : {l : Freed} {r r2 : Bool} → Room l Many r r2 → frees l Deep ≡ true → r2 ≡ true
counted {l} {r} {r2} R h = elim (which r) [ inl t ↦ R.grows t | inr f ↦ R.lifts f ∙ deep_frees_many l h ]

-- a test that no limit changes
pub fixed_room : {l : Freed} (r : Bool) → Room l Construct r r
fixed_room {l} r = record { grows = λ h. h; lifts = λ h. h ∙ sym (construct_stays l) }

-- The one where its limit leaves room; what stands there is exact then.
pub guarded : {A : Type 0} {l : Freed} {N M : Grammar A} {after : Lexeme → Bool} {test : Lexeme → Bool} {q q2 s s2 : Parser A} (room room2 : Bool) (cause : Cause) → Room l cause room room2 →
    (room ≡ true → Exact l (N or M) after (choose test q s) (choose test q2 s2)) → (room ≡ false → room2 ≡ true → Bites q2 test) → Exact l M after s s2 → Begins N test → Meets M test after →
    Exact l (where_ room N or M) after (choose test (within room cause q) s) (choose test (within room2 cause q2) s2)
guarded {A} {l} {N} {M} {after} {test} {q} {q2} {s} {s2} true room2 cause R P bites Q begins other =
    subst (λ (b : Bool). Exact l (where_ true N or M) after (choose test q s) (choose test (within b cause q2) s2)) (sym (R.grows refl)) (restate (P refl) to from)
  where
    to : (x : A) (us : Lexemes) → (N or M) x us → (where_ true N or M) x us
    to x us (inl n) = inl (refl, n)
    to x us (inr m) = inr m

    from : (x : A) (us : Lexemes) → (where_ true N or M) x us → (N or M) x us
    from x us (inl n) = inl n.1
    from x us (inr m) = inr m
guarded {A} {l} {N} {M} {after} {test} {q} {q2} {s} {s2} false room2 cause R P bites Q begins other =
    either_within {N = N} {test = test} {q = q} {q2 = q2} {s = s} {s2 = s2} false room2 cause R (λ no. differ true refl (sym no)) bites Q begins other

-- with room, a reader bites still
pub bites_within : {A : Type 0} (test : Lexeme → Bool) (room : Bool) (cause : Cause) (q : Parser A) → room ≡ true → Bites q test → Bites (within room cause q) test
bites_within test room cause q h b = subst (λ (r : Bool). Bites (within r cause q) test) (sym h) b

-- two readers that answer alike
pub alike : {A : Type 0} {l : Freed} {N : Grammar A} {after : Lexeme → Bool} {q q2 s s2 : Parser A} → Exact l N after q q2 → ((ts : Lexemes) → s ts ≡ q ts) → ((ts : Lexemes) → s2 ts ≡ q2 ts) → Exact l N after s s2
alike {A} {l} {N} {after} {q} {q2} {s} {s2} P e e2 = record {
  some = P.some;
  takes = λ ts rest x h. let n = P.takes ts rest x (sym (e ts) ∙ h) in (n.0, n.1, n.2, λ r k. e (n.0 ++ r) ∙ n.3 r k);
  again = λ x us rest n h. e (us ++ rest) ∙ P.again x us rest n h;
  fails = λ ts f h. let n = P.fails ts f (sym (e ts) ∙ h) in (n.0, n.1, n.2, n.3, λ r k. e (n.0 ++ r) ∙ n.4 r k);
  ok = λ ts u h. e2 ts ∙ P.ok ts u (sym (e ts) ∙ h);
  same = λ ts f h c. e2 ts ∙ P.same ts f (sym (e ts) ∙ h) c;
  past = λ ts f h c. subst (λ (v : Outcome A). Past v f.left) (sym (e2 ts)) (P.past ts f (sym (e ts) ∙ h) c);
  shrinks = λ ts. subst (λ (v : Outcome A). Within v (length ts)) (sym (e2 ts)) (P.shrinks ts);
}

-- what is read takes a token
pub takes_some : {A : Type 0} {l : Freed} {N : Grammar A} {after test : Lexeme → Bool} {q q2 : Parser A} → Exact l N after q q2 → Begins N test → (ts mid : Lexemes) (y : A) → q ts ≡ Ok (y, mid) → length mid + 1 ≤ length ts
takes_some {test = test} P b ts mid y e =
    let s = P.takes ts mid y e in
    let some_ : 0 < length s.0 = not_empty test s.0 (b y s.0 [] s.1) in
    let whole : length ts ≡ length s.0 + length mid = ap length s.2 ∙ length-append s.0 mid in
    omega arith

-- ---- the same step again and again, where a turn is exact as a whole

module _ {A : Type 0} (l : Freed) (test after : Lexeme → Bool) (step : A → Grammar A) (read read2 : A → Parser A)
    (turn : (K : A → Grammar A) (k k2 : A → Parser A) → ((y : A) → Exact l (K y) after (k y) (k2 y)) → (left : A) →
    Exact l ((step left ⨟ K) or gives left) after (choose test (read left ▷ k) (pure left)) (choose test (read2 left ▷ k2) (pure left)))
    (shorter : (left y : A) (ts mid : Lexemes) → read left ts ≡ Ok (y, mid) → length mid + 1 ≤ length ts) where
  -- at most so many times
  abbrev up_to : ℕ → A → Grammar A
  up_to zero left = gives left
  up_to (suc n) left = (step left ⨟ up_to n) or gives left

  abbrev so_many : (A → Parser A) → ℕ → A → Parser A
  so_many r n left = turns test (λ _. true) Expected r n left

  up_exact : (n : ℕ) (left : A) → Exact l (up_to n left) after (so_many read n left) (so_many read2 n left)
  up_exact zero left = anywhere (pure_exact left)
  up_exact (suc n) left = turn (up_to n) (so_many read n) (so_many read2 n) (up_exact n) left

  many_of : (n : ℕ) (left x : A) (us : Lexemes) → up_to n left x us → many step left x us
  many_of zero left x us g = (0, g)
  many_of (suc n) left x us (inr g) = (0, g)
  many_of (suc n) left x us (inl (y, vs, ws, s, t, e)) = let k = many_of n y x ws t in (suc k.0, (y, vs, ws, s, k.1, e))

  up_of : (k n : ℕ) (left x : A) (us : Lexemes) → k ≤ n → times step k left x us → up_to n left x us
  up_of zero zero left x us h t = t
  up_of zero (suc n) left x us h t = inr t
  up_of (suc k) zero left x us h t = absurd (omega arith)
  up_of (suc k) (suc n) left x us h (y, vs, ws, s, t, e) = inl (y, vs, ws, s, up_of k n y x ws (omega arith) t, e)

  -- enough turns are as good as any number above
  enough : (n m : ℕ) (left : A) (ts : Lexemes) → length ts ≤ n → length ts ≤ m → so_many read n left ts ≡ so_many read m left ts
  enough zero zero left ts h k = refl
  enough zero (suc m) left [] h k = refl
  enough zero (suc m) left (t ∷ ts) h k = absurd (omega arith)
  enough (suc n) zero left [] h k = refl
  enough (suc n) zero left (t ∷ ts) h k = absurd (omega arith)
  enough (suc n) (suc m) left ts h k =
      elim (which (sees test ts)) [
        | inl is_so ↦ choose_true test (read left ▷ so_many read n) (pure left) ts is_so ∙ after_step (λ y mid h k. enough n m y mid h k) (read left ts) refl
            ∙ sym (choose_true test (read left ▷ so_many read m) (pure left) ts is_so)
        | inr isnt ↦ choose_false test (read left ▷ so_many read n) (pure left) ts isnt ∙ sym (choose_false test (read left ▷ so_many read m) (pure left) ts isnt)
      ]
    where
      after_step : ((y : A) (mid : Lexemes) → length mid ≤ n → length mid ≤ m → so_many read n y mid ≡ so_many read m y mid) →
          (o : Outcome A) → read left ts ≡ o → and_then o (so_many read n) ≡ and_then o (so_many read m)
      after_step next (Ok u) e = let fewer = shorter left u.0 ts u.1 e in next u.0 u.1 (omega arith) (omega arith)
      after_step next (Err f) e = refl

  pub list_exact : (left : A) → Exact l (many step left) after (loop test (λ _. true) Expected read left) (loop test (λ _. true) Expected read2 left)
  list_exact left = record {
    some = (left, [], (0, (refl, refl)));
    takes = λ ts rest x e.
        let n = (up_exact (length ts) left).takes ts rest x e in
        (n.0, many_of (length ts) left x n.0 n.1, n.2, steady ts rest x e n.0 n.2);
    again = λ x us rest n h.
        let k : ℕ = n.0 + length (us ++ rest) in
        enough (length (us ++ rest)) k left (us ++ rest) (omega arith) (omega arith) ∙ (up_exact k left).again x us rest (up_of n.0 k left x us (omega arith) n.1) h;
    fails = λ ts f e.
        let n = (up_exact (length ts) left).fails ts f e in
        (n.0, n.1, n.2, (n.3.0, n.3.1, many_of (length ts) left n.3.0 (n.0 ++ n.3.1) n.3.2), stuck ts f e n.0 n.1 n.2 (left_at (length ts) ts f e n.0 n.1 n.2 (n.4 n.1 refl)));
    ok = λ ts u e. (up_exact (length ts) left).ok ts u e;
    same = λ ts f e c. (up_exact (length ts) left).same ts f e c;
    past = λ ts f e c. (up_exact (length ts) left).past ts f e c;
    shrinks = λ ts. (up_exact (length ts) left).shrinks ts;
  }
    where
      left_at : (k : ℕ) (ts : Lexemes) (f : Fault) → so_many read k left ts ≡ Err f → (done rest : Lexemes) → ts ≡ done ++ rest →
          so_many read k left (done ++ rest) ≡ Err (fault f.cause rest) → length rest ≡ f.left
      left_at k ts f e done rest whole there =
          ap (λ v. v.left) (err_is {A = A} (fault f.cause rest) f (sym there ∙ sym (ap (so_many read k left) whole) ∙ e))

      steady : (ts rest : Lexemes) (x : A) → loop test (λ _. true) Expected read left ts ≡ Ok (x, rest) → (us : Lexemes) → ts ≡ us ++ rest → Steady (loop test (λ _. true) Expected read left) us rest x
      steady ts rest x e us whole r h =
          let k : ℕ = length ts + length r in
          let m = (up_exact k left).takes ts rest x (enough k (length ts) left ts (omega arith) (omega arith) ∙ e) in
          let is_us : m.0 ≡ us = append_cancel_right m.0 us rest (sym m.2 ∙ whole) in
          let size : length ts ≡ length us + length rest = ap length whole ∙ length-append us rest in
          let sizes : length (us ++ r) ≡ length us + length r = length-append us r in
          enough (length (us ++ r)) k left (us ++ r) (omega arith) (omega arith)
          ∙ ap (λ v. so_many read k left (v ++ r)) (sym is_us) ∙ m.3 r h

      stuck : (ts : Lexemes) (f : Fault) → loop test (λ _. true) Expected read left ts ≡ Err f → (done rest : Lexemes) → ts ≡ done ++ rest → length rest ≡ f.left → Stuck (loop test (λ _. true) Expected read left) done rest f.cause
      stuck ts f e done rest whole at r h =
          let k : ℕ = length ts + length r in
          let e2 = enough k (length ts) left ts (omega arith) (omega arith) ∙ e in
          let m = (up_exact k left).fails ts f e2 in
          let at2 = left_at k ts f e2 m.0 m.1 m.2 (m.4 m.1 refl) in
          let split = append_split m.0 m.1 done rest (sym m.2 ∙ whole) (at2 ∙ sym at) in
          let size : length ts ≡ length done + length rest = ap length whole ∙ length-append done rest in
          let sizes : length (done ++ r) ≡ length done + length r = length-append done r in
          enough (length (done ++ r)) k left (done ++ r) (omega arith) (omega arith)
          ∙ ap (λ v. so_many read k left (v ++ r)) (sym split.0) ∙ m.4 r (h ∙ ap first (sym split.1))

-- ---- a turn is a choice of statements

-- What stands behind a statement stands behind each of those that may begin so.
pub turn_of : {A : Type 0} (t1 t2 t3 t4 : Symbol → Bool) (r m w : Bool) (q q2 q3 q4 : Parser A) (k : A → Parser A) (e : Parser A) (ts : Lexemes) →
    choose (on (λ a. t1 a || (t2 a || (t3 a || t4 a)))) (choose (on t1) (within r Many q) (choose (on t2) (within m Deep (within r Many q2)) (choose (on t3) (within m Deep (within r Many q3)) (within w Many q4))) ▷ k) e ts
    ≡ choose (on t1) (within r Many (q ▷ k)) (choose (on t2) (within m Deep (within r Many (q2 ▷ k))) (choose (on t3) (within m Deep (within r Many (q3 ▷ k))) (choose (on t4) (within w Many (q4 ▷ k)) e))) ts
turn_of t1 t2 t3 t4 r m w q q2 q3 q4 k e [] = refl
turn_of {A} t1 t2 t3 t4 r m w q q2 q3 q4 k e (t ∷ ts) = by (t1 (symbol_of t)) (t2 (symbol_of t)) (t3 (symbol_of t)) (t4 (symbol_of t)) r m w
  where
    by : (a b c d r m w : Bool) → cond (a || (b || (c || d))) (and_then (cond a (within r Many q (t ∷ ts)) (cond b (within m Deep (within r Many q2) (t ∷ ts)) (cond c (within m Deep (within r Many q3) (t ∷ ts)) (within w Many q4 (t ∷ ts))))) k) (e (t ∷ ts))
        ≡ cond a (within r Many (q ▷ k) (t ∷ ts)) (cond b (within m Deep (within r Many (q2 ▷ k)) (t ∷ ts)) (cond c (within m Deep (within r Many (q3 ▷ k)) (t ∷ ts)) (cond d (within w Many (q4 ▷ k) (t ∷ ts)) (e (t ∷ ts)))))
    by true b c d true m w = refl
    by true b c d false m w = refl
    by false true c d true true w = refl
    by false true c d false true w = refl
    by false true c d r false w = refl
    by false false true d true true w = refl
    by false false true d false true w = refl
    by false false true d r false w = refl
    by false false false true r m true = refl
    by false false false true r m false = refl
    by false false false false r m w = refl

pub shrinks_choose : {A : Type 0} (test : Lexeme → Bool) (q s : Parser A) → Shrinks q → Shrinks s → Shrinks (choose test q s)
shrinks_choose {A} test q s f g ts = by (sees test ts)
  where
    by : (b : Bool) → Within (cond b (q ts) (s ts)) (length ts)
    by true = f ts
    by false = g ts

pub shrinks_within : {A : Type 0} (room : Bool) (cause : Cause) (q : Parser A) → (room ≡ true → Shrinks q) → Shrinks (within room cause q)
shrinks_within true cause q h = h refl
shrinks_within false cause q h = λ ts. omega arith

-- one of two marks, and then something
pub bites_two : {A : Type 0} (a b : Symbol) (f g : ℕ → Parser A) → ((x : ℕ) → Shrinks (f x)) → ((x : ℕ) → Shrinks (g x)) →
    Bites (choose (is a) (token (marked a) ▷ f) (token (marked b) ▷ g)) (on (λ c. same a c || same b c))
bites_two {A} a b f g F G ts h = by (which (sees (is a) ts))
  where
    other : (ts : Lexemes) → sees (on (λ c. same a c || same b c)) ts ≡ true → sees (is a) ts ≡ false → sees (is b) ts ≡ true
    other [] h no_ = h
    other (t ∷ ts) h no_ = pick (is a t) (is b t) h no_
      where
        pick : (x y : Bool) → (x || y) ≡ true → x ≡ false → y ≡ true
        pick true y h e = differ true refl e
        pick false y h e = h

    by : (sees (is a) ts ≡ true) ⊎ (sees (is a) ts ≡ false) → Past (choose (is a) (token (marked a) ▷ f) (token (marked b) ▷ g) ts) (length ts)
    by (inl is_so) = subst (λ (v : Outcome A). Past v (length ts)) (sym (choose_true (is a) (token (marked a) ▷ f) (token (marked b) ▷ g) ts is_so)) (bites_mark a f F ts is_so)
    by (inr isnt) = subst (λ (v : Outcome A). Past v (length ts)) (sym (choose_false (is a) (token (marked a) ▷ f) (token (marked b) ▷ g) ts isnt)) (bites_mark b g G ts (other ts h isnt))

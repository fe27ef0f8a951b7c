-- More ways of putting exact readers together.
use Rattle.std.proofs.Common.{◌≡◌, ℕ, zero, suc, ◌+◌, ◌<◌, ◌≤◌, Bool, true, false, cond, [], ◌∷◌, ◌++◌, length, Ok, Err, ◌⊎◌, inl, inr, refl, sym, ap, ◌∙◌, append_assoc, length-append, arith}
use Rattle.std.proofs.lemmas.List.{append_cancel_right}
use Rattle.tokens.specs.Lexeme.{Lexeme}
use Rattle.parsing.specs.declared.fault.Cause.{Cause}
use Rattle.parsing.specs.declared.fault.Cause.TheVariants.{Expected}
use Rattle.parsing.specs.declared.fault.Fault.{Fault}
use Rattle.parsing.specs.Freed.{Freed}
use Rattle.parsing.specs.Reading.{◌>>=◌ as ◌▷◌, Lexemes, Outcome, Parser, and_then, sees, fault, choose, within, turns, loop, pure}
use Rattle.parsing.specs.Grammar.{◌>>=◌ as ◌⨟◌, Grammar, gives, ◌or◌, where_, times, many}
use Rattle.parsing.proofs.Outcomes.{first, append_split, never, sees-never, which, differ, err_is, choose_true, choose_false, Within, within_past, Shrinks, shrinks_pure, shrinks_seq, Bites, bites_seq, append_nil}
use Rattle.parsing.proofs.Exact.{Exact, Room, always_room, Begins, Meets, Steady, Stuck, pure_exact, seq, either_within}

-- ---- fewer tokens that may follow, and other words for the same grammar

pub narrow : {A : Type 0} {l : Freed} {N : Grammar A} {before after : Lexeme → Bool} {q q2 : Parser A} →
    Exact l N before q q2 → ((rest : Lexemes) → sees after rest ≡ false → sees before rest ≡ false) → Exact l N after q q2
narrow P less = record {
  some = P.some;
  takes = P.takes;
  again = λ x us rest n h. P.again x us rest n (less rest h);
  fails = P.fails;
  ok = P.ok;
  same = P.same;
  past = P.past;
  shrinks = P.shrinks;
}

-- what nothing goes on with
pub anywhere : {A : Type 0} {l : Freed} {N : Grammar A} {after : Lexeme → Bool} {q q2 : Parser A} → Exact l N never q q2 → Exact l N after q q2
anywhere P = narrow P (λ rest h. sees-never rest)

pub restate : {A : Type 0} {l : Freed} {N M : Grammar A} {after : Lexeme → Bool} {q q2 : Parser A} →
    Exact l N after q q2 → ((x : A) (us : Lexemes) → N x us → M x us) → ((x : A) (us : Lexemes) → M x us → N x us) → Exact l M after q q2
restate P to from = record {
  some = let n = P.some in (n.0, n.1, to n.0 n.1 n.2);
  takes = λ ts rest x e. let n = P.takes ts rest x e in (n.0, to x n.0 n.1, n.2, n.3);
  again = λ x us rest n h. P.again x us rest (from x us n) h;
  fails = λ ts f e. let n = P.fails ts f e in (n.0, n.1, n.2, (n.3.0, n.3.1, to n.3.0 (n.0 ++ n.3.1) n.3.2), n.4);
  ok = P.ok;
  same = P.same;
  past = P.past;
  shrinks = P.shrinks;
}

-- ---- first tokens

pub begins_seq : {A B : Type 0} {N : Grammar A} {test : Lexeme → Bool} (M : A → Grammar B) → Begins N test → Begins (N ⨟ M) test
begins_seq {A} {B} {N} {test} M b z us rest (x, vs, ws, n, m, e) =
    ap (sees test) (ap (λ v. v ++ rest) e ∙ append_assoc vs ws rest) ∙ b x vs (ws ++ rest) n

pub begins_or : {A : Type 0} (N M : Grammar A) (test : Lexeme → Bool) → Begins N test → Begins M test → Begins (N or M) test
begins_or N M test b c x us rest (inl n) = b x us rest n
begins_or N M test b c x us rest (inr m) = c x us rest m

pub begins_where : {A : Type 0} (room : Bool) (N : Grammar A) (test : Lexeme → Bool) → Begins N test → Begins (where_ room N) test
begins_where room N test b x us rest n = b x us rest n.1

-- nothing, where what follows does not pass the test
pub gives_meets : {A : Type 0} (a : A) (test after : Lexeme → Bool) → ((rest : Lexemes) → sees after rest ≡ false → sees test rest ≡ false) → Meets (gives a) test after
gives_meets a test after less z ws rest n h = ap (λ v. sees test (v ++ rest)) n.1 ∙ less rest h

pub meets_never : {B : Type 0} (after : Lexeme → Bool) (M : Grammar B) → Meets M never after
meets_never after M z ws rest m h = sees-never (ws ++ rest)

pub meets_or : {A : Type 0} (N M : Grammar A) (before after : Lexeme → Bool) → Meets N before after → Meets M before after → Meets (N or M) before after
meets_or N M before after a b z ws rest (inl n) h = a z ws rest n h
meets_or N M before after a b z ws rest (inr m) h = b z ws rest m h

pub not_empty : (test : Lexeme → Bool) (us : Lexemes) → sees test (us ++ []) ≡ true → 0 < length us
not_empty test [] h = cc
not_empty test (t ∷ us) h = omega arith

-- ---- choices

pub either : {A : Type 0} {l : Freed} {N M : Grammar A} {after : Lexeme → Bool} {test : Lexeme → Bool} {q q2 s s2 : Parser A} →
    Exact l N after q q2 → Exact l M after s s2 → Begins N test → Meets M test after → Exact l (N or M) after (choose test q s) (choose test q2 s2)
either {A} {l} {N} {M} {after} {test} {q} {q2} {s} {s2} P Q begins other =
    restate {N = where_ true N or M} (either_within {test = test} {q = q} {q2 = q2} {s = s} {s2 = s2} true true Expected always_room (λ _. P) (λ no. differ true refl no) Q begins other) to from
  where
    to : (x : A) (us : Lexemes) → (where_ true N or M) x us → (N or M) x us
    to x us (inl n) = inl n.1
    to x us (inr m) = inr m

    from : (x : A) (us : Lexemes) → (N or M) x us → (where_ true N or M) x us
    from x us (inl n) = inl (refl, n)
    from x us (inr m) = inr m

-- something where the next token begins it; else nothing, for this value
pub optional : {A : Type 0} {l : Freed} {N : Grammar A} {after : Lexeme → Bool} {test : Lexeme → Bool} {q q2 : Parser A} (a : A) →
    Exact l N after q q2 → Begins N test → ((rest : Lexemes) → sees after rest ≡ false → sees test rest ≡ false) →
    Exact l (N or gives a) after (choose test q (pure a)) (choose test q2 (pure a))
optional {test = test} a P begins less = either P (anywhere (pure_exact a)) begins (gives_meets a test _ less)

-- ---- a value made of what was read

pub mapped : {A B : Type 0} {l : Freed} {N : Grammar A} {after : Lexeme → Bool} {q q2 : Parser A} → Exact l N after q q2 → (f : A → B) →
    Exact l (N ⨟ (λ x. gives (f x))) after (q ▷ (λ x. pure (f x))) (q2 ▷ (λ x. pure (f x)))
mapped {after = after} P f = seq P (λ x. anywhere (pure_exact (f x))) (λ x. gives_meets (f x) after after (λ rest h. h))

pub meets_mapped : {A B : Type 0} (N : Grammar A) (f : A → B) (before after : Lexeme → Bool) → Meets N before after → Meets (N ⨟ (λ x. gives (f x))) before after
meets_mapped N f before after m z us rest (x, vs, ws, n, r, e) h = ap (λ v. sees before (v ++ rest)) (e ∙ ap (λ w. vs ++ w) r.1 ∙ append_nil vs) ∙ m x vs rest n h

-- ---- the same step again and again

abbrev pub stepping : {A : Type 0} → (A → Bool) → (A → Grammar A) → A → Grammar A
stepping room step left = where_ (room left) (step left)

module _ {A : Type 0} (l : Freed) (test before after : Lexeme → Bool) (room room2 : A → Bool) (cause : Cause) (step : A → Grammar A) (read read2 : A → Parser A)
    (rooms : (left : A) → Room l cause (room left) (room2 left))
    (exact : (left : A) → Exact l (step left) before (read left) (read2 left))
    (begins : (left : A) → Begins (step left) test)
    (bites : (left : A) → room left ≡ false → Bites (read2 left) test)
    (less : (rest : Lexemes) → sees after rest ≡ false → sees before rest ≡ false)
    (ends : (rest : Lexemes) → sees after rest ≡ false → sees test rest ≡ false)
    (apart : (rest : Lexemes) → sees test rest ≡ true → sees before rest ≡ false) where
  -- at most so many times
  abbrev up_to : ℕ → A → Grammar A
  up_to zero left = gives left
  up_to (suc n) left = where_ (room left) (step left ⨟ up_to n) or gives left

  up_meets : (n : ℕ) (left : A) → Meets (up_to n left) before after
  up_meets zero left z ws rest g h = ap (λ v. sees before (v ++ rest)) g.1 ∙ less rest h
  up_meets (suc n) left z ws rest (inr g) h = ap (λ v. sees before (v ++ rest)) g.1 ∙ less rest h
  up_meets (suc n) left z ws rest (inl (r, (y, us, vs, s, t, e))) h =
      apart (ws ++ rest) (ap (sees test) (ap (λ v. v ++ rest) e ∙ append_assoc us vs rest) ∙ begins left y us (vs ++ rest) s)

  pub many_meets_by : (left : A) → Meets (many (stepping room step) left) before after
  many_meets_by left z ws rest (zero, g) h = ap (λ v. sees before (v ++ rest)) g.1 ∙ less rest h
  many_meets_by left z ws rest (suc n, (y, us, vs, (r, s), t, e)) h =
      apart (ws ++ rest) (ap (sees test) (ap (λ v. v ++ rest) e ∙ append_assoc us vs rest) ∙ begins left y us (vs ++ rest) s)

  up_exact : (n : ℕ) (left : A) → Exact l (up_to n left) after (turns test room cause read n left) (turns test room2 cause read2 n left)
  up_exact zero left = anywhere (pure_exact left)
  up_exact (suc n) left = either_within (room left) (room2 left) cause (rooms left)
      (λ r. seq (exact left) (λ y. up_exact n y) (up_meets n))
      (λ no yes. bites_seq (read2 left) (turns test room2 cause read2 n) test (bites left no) (λ y. (up_exact n y).shrinks))
      (anywhere (pure_exact left)) (begins_seq (up_to n) (begins left)) (gives_meets left test after ends)

  many_of : (n : ℕ) (left x : A) (us : Lexemes) → up_to n left x us → many (stepping room step) left x us
  many_of zero left x us g = (0, g)
  many_of (suc n) left x us (inr g) = (0, g)
  many_of (suc n) left x us (inl (r, (y, vs, ws, s, t, e))) =
      let k = many_of n y x ws t in (suc k.0, (y, vs, ws, (r, s), k.1, e))

  up_of : (k n : ℕ) (left x : A) (us : Lexemes) → k ≤ n → times (stepping room step) k left x us → up_to n left x us
  up_of zero zero left x us h t = t
  up_of zero (suc n) left x us h t = inr t
  up_of (suc k) zero left x us h t = absurd (omega arith)
  up_of (suc k) (suc n) left x us h (y, vs, ws, (r, s), t, e) = inl (r, (y, vs, ws, s, up_of k n y x ws (omega arith) t, e))

  takes_some : (left y : A) (ts mid : Lexemes) → read left ts ≡ Ok (y, mid) → length mid + 1 ≤ length ts
  takes_some left y ts mid e =
      let s = (exact left).takes ts mid y e in
      let some_ : 0 < length s.0 = not_empty test s.0 (begins left y s.0 [] s.1) in
      let whole : length ts ≡ length s.0 + length mid = ap length s.2 ∙ length-append s.0 mid in
      omega arith

  -- enough turns are as good as any number above
  enough : (n m : ℕ) (left : A) (ts : Lexemes) → length ts ≤ n → length ts ≤ m → turns test room cause read n left ts ≡ turns test room cause read m left ts
  enough zero zero left ts h k = refl
  enough zero (suc m) left [] h k = refl
  enough zero (suc m) left (t ∷ ts) h k = absurd (omega arith)
  enough (suc n) zero left [] h k = refl
  enough (suc n) zero left (t ∷ ts) h k = absurd (omega arith)
  enough (suc n) (suc m) left ts h k =
      elim (which (sees test ts)) [
        | inl is_so ↦ choose_true test (within (room left) cause (read left ▷ turns test room cause read n)) (pure left) ts is_so
            ∙ inside (room left) (λ y mid h k. enough n m y mid h k) ∙ sym (choose_true test (within (room left) cause (read left ▷ turns test room cause read m)) (pure left) ts is_so)
        | inr isnt ↦ choose_false test (within (room left) cause (read left ▷ turns test room cause read n)) (pure left) ts isnt
            ∙ sym (choose_false test (within (room left) cause (read left ▷ turns test room cause read m)) (pure left) ts isnt)
      ]
    where
      after_step : ((y : A) (mid : Lexemes) → length mid ≤ n → length mid ≤ m → turns test room cause read n y mid ≡ turns test room cause read m y mid) →
          (o : Outcome A) → read left ts ≡ o → and_then o (turns test room cause read n) ≡ and_then o (turns test room cause read m)
      after_step next (Ok u) e = let fewer = takes_some left u.0 ts u.1 e in next u.0 u.1 (omega arith) (omega arith)
      after_step next (Err f) e = refl

      inside : (r : Bool) → ((y : A) (mid : Lexemes) → length mid ≤ n → length mid ≤ m → turns test room cause read n y mid ≡ turns test room cause read m y mid) →
          within r cause (read left ▷ turns test room cause read n) ts ≡ within r cause (read left ▷ turns test room cause read m) ts
      inside true next = after_step next (read left ts) refl
      inside false next = refl

  pub loop_exact_by : (left : A) → Exact l (many (stepping room step) left) after (loop test room cause read left) (loop test room2 cause read2 left)
  loop_exact_by left = record {
    some = (left, [], (0, (refl, refl)));
    takes = λ ts rest x e.
        let n = (up_exact (length ts) left).takes ts rest x e in
        (n.0, many_of (length ts) left x n.0 n.1, n.2, steady ts rest x e n.0 n.2);
    again = λ x us rest n h.
        let k : ℕ = n.0 + length (us ++ rest) in
        enough (length (us ++ rest)) k left (us ++ rest) (omega arith) (omega arith) ∙ (up_exact k left).again x us rest (up_of n.0 k left x us (omega arith) n.1) h;
    fails = λ ts f e.
        let n = (up_exact (length ts) left).fails ts f e in
        (n.0, n.1, n.2, (n.3.0, n.3.1, many_of (length ts) left n.3.0 (n.0 ++ n.3.1) n.3.2), stuck ts f e n.0 n.1 n.2 (left_at (length ts) ts f e n.0 n.1 n.2 (n.4 n.1 refl)));
    ok = λ ts u e. (up_exact (length ts) left).ok ts u e;
    same = λ ts f e c. (up_exact (length ts) left).same ts f e c;
    past = λ ts f e c. (up_exact (length ts) left).past ts f e c;
    shrinks = λ ts. (up_exact (length ts) left).shrinks ts;
  }
    where
      left_at : (k : ℕ) (ts : Lexemes) (f : Fault) → turns test room cause read k left ts ≡ Err f → (done rest : Lexemes) → ts ≡ done ++ rest →
          turns test room cause read k left (done ++ rest) ≡ Err (fault f.cause rest) → length rest ≡ f.left
      left_at k ts f e done rest whole there =
          ap (λ v. v.left) (err_is {A = A} (fault f.cause rest) f (sym there ∙ sym (ap (turns test room cause read k left) whole) ∙ e))

      steady : (ts rest : Lexemes) (x : A) → loop test room cause read left ts ≡ Ok (x, rest) → (us : Lexemes) → ts ≡ us ++ rest → Steady (loop test room cause read left) us rest x
      steady ts rest x e us whole r h =
          let k : ℕ = length ts + length r in
          let m = (up_exact k left).takes ts rest x (enough k (length ts) left ts (omega arith) (omega arith) ∙ e) in
          let is_us : m.0 ≡ us = append_cancel_right m.0 us rest (sym m.2 ∙ whole) in
          let size : length ts ≡ length us + length rest = ap length whole ∙ length-append us rest in
          let sizes : length (us ++ r) ≡ length us + length r = length-append us r in
          enough (length (us ++ r)) k left (us ++ r) (omega arith) (omega arith)
          ∙ ap (λ v. turns test room cause read k left (v ++ r)) (sym is_us) ∙ m.3 r h

      stuck : (ts : Lexemes) (f : Fault) → loop test room cause read left ts ≡ Err f → (done rest : Lexemes) → ts ≡ done ++ rest → length rest ≡ f.left → Stuck (loop test room cause read left) done rest f.cause
      stuck ts f e done rest whole at r h =
          let k : ℕ = length ts + length r in
          let e2 = enough k (length ts) left ts (omega arith) (omega arith) ∙ e in
          let m = (up_exact k left).fails ts f e2 in
          let at2 = left_at k ts f e2 m.0 m.1 m.2 (m.4 m.1 refl) in
          let split = append_split m.0 m.1 done rest (sym m.2 ∙ whole) (at2 ∙ sym at) in
          let size : length ts ≡ length done + length rest = ap length whole ∙ length-append done rest in
          let sizes : length (done ++ r) ≡ length done + length r = length-append done r in
          enough (length (done ++ r)) k left (done ++ r) (omega arith) (omega arith)
          ∙ ap (λ v. turns test room cause read k left (v ++ r)) (sym split.0) ∙ m.4 r (h ∙ ap first (sym split.1))

-- the same where a step takes its first token always
module _ {A : Type 0} (l : Freed) (test before after : Lexeme → Bool) (room room2 : A → Bool) (cause : Cause) (step : A → Grammar A) (read read2 : A → Parser A)
    (rooms : (left : A) → Room l cause (room left) (room2 left))
    (exact : (left : A) → Exact l (step left) before (read left) (read2 left))
    (begins : (left : A) → Begins (step left) test)
    (bites : (left : A) → Bites (read2 left) test)
    (less : (rest : Lexemes) → sees after rest ≡ false → sees before rest ≡ false)
    (ends : (rest : Lexemes) → sees after rest ≡ false → sees test rest ≡ false)
    (apart : (rest : Lexemes) → sees test rest ≡ true → sees before rest ≡ false) where
  pub many_meets : (left : A) → Meets (many (stepping room step) left) before after
  many_meets = many_meets_by l test before after room room2 cause step read read2 rooms exact begins (λ left _. bites left) less ends apart

  pub loop_exact : (left : A) → Exact l (many (stepping room step) left) after (loop test room cause read left) (loop test room2 cause read2 left)
  loop_exact = loop_exact_by l test before after room room2 cause step read read2 rooms exact begins (λ left _. bites left) less ends apart

shrinks_turns : {A : Type 0} (test : Lexeme → Bool) (room : A → Bool) (cause : Cause) (step : A → Parser A) → ((x : A) → Shrinks (step x)) → (n : ℕ) (left : A) → Shrinks (turns test room cause step n left)
shrinks_turns test room cause step steps zero left ts = shrinks_pure left ts
shrinks_turns {A} test room cause step steps (suc n) left ts = by (shrinks_seq (step left) (turns test room cause step n) (steps left) (shrinks_turns test room cause step steps n)) (sees test ts) (room left)
  where
    by : Shrinks (step left ▷ turns test room cause step n) → (b r : Bool) → Within (cond b (within r cause (step left ▷ turns test room cause step n) ts) (pure left ts)) (length ts)
    by more true true = more ts
    by more true false = omega arith
    by more false r = omega arith

pub shrinks_loop : {A : Type 0} (test : Lexeme → Bool) (room : A → Bool) (cause : Cause) (step : A → Parser A) → ((x : A) → Shrinks (step x)) → (left : A) → Shrinks (loop test room cause step left)
shrinks_loop test room cause step steps left ts = shrinks_turns test room cause step steps (length ts) left ts

-- something behind a first token, where there is room; else nothing
pub shrinks_optional : {A : Type 0} (test : Lexeme → Bool) (room : Bool) (cause : Cause) (q : Parser A) (a : A) → (room ≡ true → Bites q test) → Shrinks (choose test (within room cause q) (pure a))
shrinks_optional {A} test room cause q a bites ts = by (sees test ts) refl room refl
  where
    by : (b : Bool) → sees test ts ≡ b → (r : Bool) → room ≡ r → Within (cond b (within r cause q ts) (pure a ts)) (length ts)
    by true h true k = within_past (q ts) (length ts) (bites k ts h)
    by true h false k = omega arith
    by false h r k = omega arith

-- ---- what may be empty

-- A phrase is empty, or begins with a token that passes the test.
abbrev pub Opens : {A : Type 0} → Grammar A → (Lexeme → Bool) → Type 0
Opens N test = (x : _) (us rest : Lexemes) → N x us → (us ≡ []) ⊎ (sees test (us ++ rest) ≡ true)

pub opens_or : {A : Type 0} (N M : Grammar A) (test : Lexeme → Bool) → Opens N test → Opens M test → Opens (N or M) test
opens_or N M test b c x us rest (inl n) = b x us rest n
opens_or N M test b c x us rest (inr m) = c x us rest m

pub opens_gives : {A : Type 0} (a : A) (test : Lexeme → Bool) → Opens (gives a) test
opens_gives a test x us rest n = inl n.1

pub opens_begins : {A : Type 0} (N : Grammar A) (test : Lexeme → Bool) → Begins N test → Opens N test
opens_begins N test b x us rest n = inr (b x us rest n)

pub opens_many : {A : Type 0} (room : A → Bool) (step : A → Grammar A) (test : Lexeme → Bool) → ((left : A) → Begins (step left) test) → (left : A) → Opens (many (stepping room step) left) test
opens_many room step test b left x us rest (zero, g) = inl g.1
opens_many room step test b left x us rest (suc n, (y, vs, ws, (r, s), t, e)) =
    inr (ap (sees test) (ap (λ v. v ++ rest) e ∙ append_assoc vs ws rest) ∙ b left y vs (ws ++ rest) s)

pub begins_opens : {A B : Type 0} (N : Grammar A) (M : A → Grammar B) (test : Lexeme → Bool) → Opens N test → ((x : A) → Begins (M x) test) → Begins (N ⨟ M) test
begins_opens N M test o b z us rest (x, vs, ws, n, m, e) =
    ap (sees test) (ap (λ v. v ++ rest) e ∙ append_assoc vs ws rest) ∙ by (o x vs (ws ++ rest) n)
  where
    by : (vs ≡ []) ⊎ (sees test (vs ++ (ws ++ rest)) ≡ true) → sees test (vs ++ (ws ++ rest)) ≡ true
    by (inl i) = ap (λ v. sees test (v ++ (ws ++ rest))) i ∙ b x z ws rest m
    by (inr h) = h

-- What exactness means for a whole text.
use Rattle.std.proofs.Common.{◌≡◌, ℕ, Bool, true, false, [], ◌∷◌, ◌++◌, length, Result, Ok, Err, refl, sym, ap, subst, ◌∙◌, ◌⊎◌, inl, inr, append_assoc, arith}
use Rattle.tokens.specs.Lexeme.{Lexeme}
use Rattle.parsing.specs.declared.fault.Fault.{Fault}
use Rattle.parsing.specs.declared.fault.Cause.TheVariants.{Expected}
use Rattle.parsing.specs.Freed.{Freed, frees}
use Rattle.parsing.specs.Reading.{Lexemes, Outcome, Parser, fault}
use Rattle.parsing.specs.Grammar.{Grammar}
use Rattle.parsing.specs.Refusal.{Goes_past, Ends, Refused_at, all_of, no_more}
use Rattle.parsing.proofs.Outcomes.{first, append_nil, differ, err_is, ok_err, Past}
use Rattle.parsing.proofs.Exact.{Exact, expected_stays}

module _ {A : Type 0} where
  all_ok : (o : Outcome A) (x : A) → all_of o ≡ Ok x → o ≡ Ok (x, [])
  all_ok (Ok u) x e = at u.0 u.1 x e
    where
      at : (y : A) (r : Lexemes) (x : A) → no_more y r ≡ Ok x → (let a : Outcome A = Ok (y, r) in a) ≡ Ok (x, [])
      at y [] x e = cc
      at y (t ∷ r) x e = cc
  all_ok (Err f) x e = cc

  all_err : (o : Outcome A) (f : Fault) → all_of o ≡ Err f →
      (o ≡ Err f) ⊎ ((x : A) × (t : Lexeme) × (r : Lexemes) × (o ≡ Ok (x, t ∷ r)) × (fault Expected (t ∷ r) ≡ f))
  all_err (Ok u) f e = at u.0 u.1 e
    where
      at : (y : A) (r : Lexemes) → no_more y r ≡ Err f →
          ((let a : Outcome A = Ok (y, r) in a) ≡ Err f) ⊎ ((x : A) × (t : Lexeme) × (s : Lexemes) × ((let a : Outcome A = Ok (y, r) in a) ≡ Ok (x, t ∷ s)) × (fault Expected (t ∷ s) ≡ f))
      at y [] e = cc
      at y (t ∷ r) e = inr (y, t, r, refl, same (fault Expected (t ∷ r)) f e)
        where
          same : (g f : Fault) → (let a : Result A Fault = Err g in a) ≡ Err f → g ≡ f
          same g f e = cc
  all_err (Err g) f e = inl (same g f e)
    where
      same : (g f : Fault) → (let a : Result A Fault = Err g in a) ≡ Err f → (let a : Outcome A = Err g in a) ≡ Err f
      same g f e = cc

  rests : (o : Outcome A) (x y : A) (r s : Lexemes) → o ≡ Ok (x, r) → o ≡ Ok (y, s) → r ≡ s
  rests o x y r s e g = ap (λ u. u.1) (pairs (x, r) (y, s) (sym e ∙ g))
    where
      pairs : (u v : A × Lexemes) → (let a : Outcome A = Ok u in a) ≡ Ok v → u ≡ v
      pairs u v e = cc

module _ {A : Type 0} (l : Freed) (N : Grammar A) (goes_on : Lexeme → Bool) (parser wide : Parser A) (P : Exact l N goes_on parser wide) where
  whole_again : (x : A) (us : Lexemes) → N x us → parser us ≡ Ok (x, [])
  whole_again x us n = sym (ap parser (append_nil us)) ∙ P.again x us [] n refl

  -- what is read is in the grammar
  pub found : (ts : Lexemes) (x : A) → all_of (parser ts) ≡ Ok x → N x ts
  found ts x e =
      let t = P.takes ts [] x (all_ok (parser ts) x e) in
      subst (N x) (sym (t.2 ∙ append_nil t.0)) t.1

  -- what is in the grammar is read
  pub only : (ts : Lexemes) (x : A) → N x ts → all_of (parser ts) ≡ Ok x
  only ts x n = ap all_of (whole_again x ts n)

  ends : (done rest : Lexemes) (f : Fault) → ((r : Lexemes) → first r ≡ first rest → parser (done ++ r) ≡ Err (fault f.cause r)) → Ends N done rest
  ends done [] f stuck = λ x n. ok_err (fault f.cause []) (x, []) (sym (whole_again x done n) ∙ sym (ap parser (append_nil done)) ∙ stuck [] refl)
  ends done (t ∷ rest) f stuck = λ n.
      let whole = subst (N n.0) (append_assoc done (t ∷ []) n.1) n.2 in
      ok_err (fault f.cause (t ∷ n.1)) (n.0, []) (sym (whole_again n.0 (done ++ (t ∷ n.1)) whole) ∙ stuck (t ∷ n.1) refl)

  too_many : (us : Lexemes) (t : Lexeme) (rest : Lexemes) (x : A) → ((r : Lexemes) → first r ≡ first (t ∷ rest) → parser (us ++ r) ≡ Ok (x, r)) → Ends N us (t ∷ rest)
  too_many us t rest x steady (y, more, n) =
      let e = rests (parser (us ++ (t ∷ more))) x y (t ∷ more) [] (steady (t ∷ more) refl) (whole_again y (us ++ (t ∷ more)) (subst (N y) (append_assoc us (t ∷ []) more) n)) in
      cc

  -- what is refused is refused at the first token at which nothing of the grammar goes on
  pub refused : (ts : Lexemes) (f : Fault) → all_of (parser ts) ≡ Err f → Refused_at N ts f.left
  refused ts f e =
      elim (all_err (parser ts) f e) [
        | inl bad ↦
            let n = P.fails ts f bad in
            let left : length n.1 ≡ f.left = ap (λ v. v.left) (err_is {A = A} (fault f.cause n.1) f (sym (n.4 n.1 refl) ∙ sym (ap parser n.2) ∙ bad)) in
            (n.0, n.1, n.2, left, n.3, ends n.0 n.1 f n.4)
        | inr (x, t, r, good, is) ↦
            let n = P.takes ts (t ∷ r) x good in
            (n.0, t ∷ r, n.2, ap (λ v. v.left) is, (x, [], subst (N x) (sym (append_nil n.0)) n.1), too_many n.0 t r x n.3)
      ]

  -- a refusal with another cause stands without the limits
  pub still : (ts : Lexemes) (f : Fault) → all_of (parser ts) ≡ Err f → frees l f.cause ≡ false → all_of (wide ts) ≡ Err f
  still ts f e c =
      elim (all_err (parser ts) f e) [
        | inl bad ↦ ap all_of (P.same ts f bad c)
        | inr (x, t, r, good, is) ↦ ap all_of (P.ok ts (x, t ∷ r) good) ∙ ap Err is
      ]

  -- and without them a token is passed that they refused
  passed : (ts : Lexemes) (f : Fault) → all_of (parser ts) ≡ Err f → frees l f.cause ≡ true → Past (wide ts) f.left
  passed ts f e c =
      elim (all_err (parser ts) f e) [
        | inl bad ↦ P.past ts f bad c
        | inr (x, t, r, good, is) ↦ differ (frees l f.cause) c (ap (λ v. frees l v.cause) (sym is) ∙ expected_stays l)
      ]

  -- how far a reading got, some text of the grammar goes on
  pub goes_past : (ts : Lexemes) (left : ℕ) → Past (parser ts) left → Goes_past N ts left
  goes_past ts left h = by (parser ts) refl h
    where
      by : (o : Outcome A) → parser ts ≡ o → Past o left → Goes_past N ts left
      by (Ok u) e p =
          let n = P.takes ts u.1 u.0 e in
          (n.0, u.1, n.2, p, (u.0, [], subst (N u.0) (sym (append_nil n.0)) n.1))
      by (Err f) e p =
          let n = P.fails ts f e in
          let at : length n.1 ≡ f.left = ap (λ v. v.left) (err_is {A = A} (fault f.cause n.1) f (sym (n.4 n.1 refl) ∙ sym (ap parser n.2) ∙ e)) in
          (n.0, n.1, n.2, omega arith, n.3)

-- Without the limits the text goes on past the token that they refused.
pub freed : {A : Type 0} (l m : Freed) (N M : Grammar A) (goes_on : Lexeme → Bool) (parser wide wider : Parser A) → Exact l N goes_on parser wide → Exact m M goes_on wide wider →
    (ts : Lexemes) (f : Fault) → all_of (parser ts) ≡ Err f → frees l f.cause ≡ true → Goes_past M ts f.left
freed l m N M goes_on parser wide wider P Q ts f e c = goes_past m M goes_on wide wider Q ts f.left (passed l N goes_on parser wide P ts f e c)

-- A refusal with another cause stands at the same place without them.
pub unfreed : {A : Type 0} (l m : Freed) (N M : Grammar A) (goes_on : Lexeme → Bool) (parser wide wider : Parser A) → Exact l N goes_on parser wide → Exact m M goes_on wide wider →
    (ts : Lexemes) (f : Fault) → all_of (parser ts) ≡ Err f → frees l f.cause ≡ false → Refused_at M ts f.left
unfreed l m N M goes_on parser wide wider P Q ts f e c = refused m M goes_on wide wider Q ts f (still l N goes_on parser wide P ts f e c)

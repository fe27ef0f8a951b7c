-- What holds of all pairs of a name holds of each two accesses that make one.
use Rattle.std.proofs.Common.{◌≡◌, ℕ, zero, suc, ◌≤◌, Bool, true, if◌then◌else◌, List, [], ◌∷◌, ◌++◌, ap, ◌∙◌, subst, arith, Option, Some, None}
use mathlib.Core.Logic.{inl, inr}
use Rattle.std.specs.List.{AllByRecursion}
use Rattle.fl_types.specs.declared.access.Access.{Access}
use Rattle.fl_types.specs.Sharing.{has_name}
use Rattle.index_knowledge.specs.Knowledge.{KnownPair}
use Rattle.index_law.specs.Meetings.{In}
use Rattle.certificate_rules.specs.Surveys.{numbered}
use Rattle.certificate_check.specs.Pairs.{KnownLoop, pair_at}
use Rattle.sharing_choice.specs.Choosing.{listed, pairs_with, pairs_at, pairs_among, pairs_of}
use Rattle.apart_law.proofs.Located.{in_number}

all_first : {A : Type 0} (P : A → Type 0) (xs ys : List A) → AllByRecursion P (xs ++ ys) → AllByRecursion P xs
all_first P [] ys h = tt
all_first P (x ∷ xs) ys h = (h.0, all_first P xs ys h.1)

all_rest : {A : Type 0} (P : A → Type 0) (xs ys : List A) → AllByRecursion P (xs ++ ys) → AllByRecursion P ys
all_rest P [] ys h = h
all_rest P (x ∷ xs) ys h = all_rest P xs ys h.1

module _ (P : KnownPair → Type 0) (names : List (List ℕ)) (k : KnownLoop) where
  of_listed : (o : Option KnownPair) (p : KnownPair) → o ≡ Some p → AllByRecursion P (listed o) → P p
  of_listed None p e h = cc
  of_listed (Some q) p e h = let i : q ≡ p = cc in subst P i h.0

  of_with : (f : ℕ) (bs : List Access) → AllByRecursion P (pairs_with names k f bs) → (b : Access) → In b bs → (p : KnownPair) → pair_at names k f b.number ≡ Some p → P p
  of_with f [] h b i p e = absurd i
  of_with f (c ∷ bs) h b (inl d) p e = of_listed (pair_at names k f c.number) p (ap (λ (x : Access). pair_at names k f x.number) d ∙ e) (all_first P (listed (pair_at names k f c.number)) (pairs_with names k f bs) h)
  of_with f (c ∷ bs) h b (inr i) p e = of_with f bs (all_rest P (listed (pair_at names k f c.number)) (pairs_with names k f bs) h) b i p e

  of_at : (a : Access) (as' : List Access) → has_name a.place.name names ≡ true → AllByRecursion P (pairs_at names k a as') → (b : Access) → In b (a ∷ as') → (p : KnownPair) → pair_at names k a.number b.number ≡ Some p → P p
  of_at a as' e h b i p f = of_with a.number (a ∷ as') (subst (λ (t : Bool). AllByRecursion P (if t then pairs_with names k a.number (a ∷ as') else [])) e h) b i p f

  of_among : (as' : List Access) → AllByRecursion P (pairs_among names k as') → (m n : ℕ) (a b : Access) → numbered as' m ≡ Some a → numbered as' n ≡ Some b → m ≤ n → has_name a.place.name names ≡ true → (p : KnownPair) → pair_at names k a.number b.number ≡ Some p → P p
  of_among [] h zero n a b e f l g p q = cc
  of_among [] h (suc m) n a b e f l g p q = cc
  of_among (x ∷ as') h zero n a b e f l g p q = cc
  of_among (x ∷ as') h (suc zero) n a b e f l g p q =
      let i : x ≡ a = cc in
      of_at a as' g (all_first P (pairs_at names k a as') (pairs_among names k as') (subst (λ (y : Access). AllByRecursion P (pairs_at names k y as' ++ pairs_among names k as')) i h)) b
      (in_number b (a ∷ as') n (subst (λ (y : Access). numbered (y ∷ as') n ≡ Some b) i f)) p q
  of_among (x ∷ as') h (suc (suc m)) zero a b e f l g p q = cc
  of_among (x ∷ as') h (suc (suc m)) (suc zero) a b e f l g p q = absurd (omega (arith, l))
  of_among (x ∷ as') h (suc (suc m)) (suc (suc n)) a b e f l g p q = of_among as' (all_rest P (pairs_at names k x as') (pairs_among names k as') h) (suc m) (suc n) a b e f (omega (arith, l)) g p q

  -- the first not behind the second
  pub of_pairs : AllByRecursion P (pairs_of names k) → (m n : ℕ) (a b : Access) → numbered k.survey.accesses m ≡ Some a → numbered k.survey.accesses n ≡ Some b → m ≤ n → has_name a.place.name names ≡ true →
      (p : KnownPair) → pair_at names k a.number b.number ≡ Some p → P p
  of_pairs h m n a b e f l g p q = of_among k.survey.accesses h m n a b e f l g p q

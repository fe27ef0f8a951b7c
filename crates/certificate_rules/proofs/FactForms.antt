-- The forms of the accesses of a loop's facts.
use Rattle.std.proofs.Common.{◌≡◌, ℕ, zero, suc, Bool, true, false, ◌&&◌, if◌then◌else◌, bytes_eq, IsTrue, List, [], ◌∷◌, ◌++◌, length, Some, refl, sym, subst, rules}
use Rattle.fl_types.specs.declared.access.Access.{Access}
use Rattle.index_forms.specs.Form.{Forms}
use Rattle.index_forms.specs.Sums.{differences}
use Rattle.index_knowledge.specs.Knowledge.{KnownFact, is_fact, fact_of, and_fact, with_facts_of, with_facts}
use Rattle.certificate_rules.specs.Surveys.{Survey, numbered, count_of, IsSurvey}

-- a fact's accesses have these forms, equally many
pub record HasForms (s : Survey) (k : KnownFact) : Type 0 where
  pub ones : Forms
  pub twos : Forms
  pub first : numbered s.ones k.first ≡ Some ones
  pub second : numbered s.twos k.second ≡ Some twos
  pub differences_are : k.differences ≡ differences ones twos
  pub one_rank : count_of ones ≡ count_of twos

abbrev pub AllHaveForms : Survey → List KnownFact → Type 0
AllHaveForms s ks = (n : ℕ) (k : KnownFact) → numbered ks n ≡ Some k → HasForms s k

-- each access with the forms at its place
abbrev pub Each : (Access → Forms → Type 0) → List Access → List Forms → Type 0
Each P [] fs = Unit {0}
Each P (a ∷ as') [] = Unit {0}
Each P (a ∷ as') (f ∷ fs) = P a f × Each P as' fs

each-from : (P : Access → Forms → Type 0) (as' : List Access) (fs : List Forms) → ((n : ℕ) (a : Access) (f : Forms) → numbered as' n ≡ Some a → numbered fs n ≡ Some f → P a f) → Each P as' fs
each-from P [] fs h = tt
each-from P (a ∷ as') [] h = tt
each-from P (a ∷ as') (f ∷ fs) h = (h 1 a f refl refl, each-from P as' fs (λ n b g. later n b g)) where
  later : (n : ℕ) (b : Access) (g : Forms) → numbered as' n ≡ Some b → numbered fs n ≡ Some g → P b g
  later zero b g d e = cc
  later (suc n) b g d e = h (suc (suc n)) b g d e

abbrev pub At : List Access → List Forms → Access → Forms → Type 0
At accesses forms a f = (numbered accesses a.number ≡ Some a) × (numbered forms a.number ≡ Some f)

at-each : (accesses : List Access) (forms : List Forms) → ((n : ℕ) (a : Access) → numbered accesses n ≡ Some a → a.number ≡ n) → Each (At accesses forms) accesses forms
at-each accesses forms h = each-from (At accesses forms) accesses forms (λ n a f d e. (let p = sym (h n a d) in (subst (λ (m : ℕ). numbered accesses m ≡ Some a) p d, subst (λ (m : ℕ). numbered forms m ≡ Some f) p e)))

all-pushed : (s : Survey) (ks : List KnownFact) (k : KnownFact) → AllHaveForms s ks → HasForms s k → AllHaveForms s (ks ++ k ∷ [])
all-pushed s [] k h f zero x e = cc
all-pushed s [] k h f (suc zero) x e = let p : k ≡ x = cc in subst (HasForms s) p f
all-pushed s [] k h f (suc (suc n)) x e = cc
all-pushed s (y ∷ ks) k h f zero x e = cc
all-pushed s (y ∷ ks) k h f (suc zero) x e = h 1 x e
all-pushed s (y ∷ ks) k h f (suc (suc n)) x e = all-pushed s ks k (λ m z d. later m z d) f (suc n) x e where
  later : (m : ℕ) (z : KnownFact) → numbered ks m ≡ Some z → HasForms s z
  later zero z d = cc
  later (suc m) z d = h (suc (suc m)) z d

with-choice : (s : Survey) (b : Bool) (ks : List KnownFact) (k : KnownFact) → AllHaveForms s ks → (b ≡ true → HasForms s k) → AllHaveForms s (if b then ks ++ k ∷ [] else ks)
with-choice s true ks k h f = all-pushed s ks k h (f refl)
with-choice s false ks k h f = h

left-of : (x y : Bool) → (x && y) ≡ true → IsTrue x
left-of true y e = search rules
left-of false y e = cc

with-one : (s : Survey) (c : IsSurvey s) (a : Access) (f : Forms) (b : Access) (g : Forms) (ks : List KnownFact) → At s.accesses s.ones a f → At s.accesses s.twos b g → AllHaveForms s ks → AllHaveForms s (and_fact a f b g ks)
with-one s c a f b g ks p q h = with-choice s (is_fact a b) ks (fact_of (suc (length ks)) a f b g) h (λ e. record {
  ones = f;
  twos = g;
  first = p.1;
  second = q.1;
  differences_are = refl;
  one_rank = c.one_rank a.number b.number a b f g p.0 q.0 (left-of (bytes_eq a.place.name b.place.name) _ e) p.1 q.1;
})

with-all-of : (s : Survey) (c : IsSurvey s) (a : Access) (f : Forms) (bs : List Access) (gs : List Forms) (ks : List KnownFact) → At s.accesses s.ones a f → Each (At s.accesses s.twos) bs gs → AllHaveForms s ks → AllHaveForms s (with_facts_of a f bs gs ks)
with-all-of s c a f [] gs ks p q h = h
with-all-of s c a f (b ∷ bs) [] ks p q h = h
with-all-of s c a f (b ∷ bs) (g ∷ gs) ks p q h = with-all-of s c a f bs gs (and_fact a f b g ks) p q.1 (with-one s c a f b g ks p q.0 h)

with-all : (s : Survey) (c : IsSurvey s) (as' : List Access) (fs : List Forms) (bs : List Access) (gs : List Forms) (ks : List KnownFact) → Each (At s.accesses s.ones) as' fs → Each (At s.accesses s.twos) bs gs → AllHaveForms s ks → AllHaveForms s (with_facts as' fs bs gs ks)
with-all s c [] fs bs gs ks p q h = h
with-all s c (a ∷ as') [] bs gs ks p q h = h
with-all s c (a ∷ as') (f ∷ fs) bs gs ks p q h = with-all s c as' fs bs gs (with_facts_of a f bs gs ks) p.1 q (with-all-of s c a f bs gs ks p.0 q h)

no-fact : (s : Survey) → AllHaveForms s []
no-fact s zero k e = cc
no-fact s (suc n) k e = cc

-- the facts of a survey have forms
pub facts-have-forms : (s : Survey) → IsSurvey s → AllHaveForms s s.facts
facts-have-forms s c =
    subst (AllHaveForms s) (sym c.facts_are) (with-all s c s.accesses s.ones s.accesses s.twos [] (at-each s.accesses s.ones c.numbers) (at-each s.accesses s.twos c.numbers) (no-fact s))

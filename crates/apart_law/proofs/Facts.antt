-- The accesses of a loop's facts, and paths.
use Rattle.std.proofs.Common.{◌≡◌, ℕ, zero, suc, Bool, true, false, ◌&&◌, ◌||◌, ◌⊎◌, if◌then◌else◌, IsTrue, List, [], ◌∷◌, ◌++◌, length, Option, Some, refl, ap, sym, ◌∙◌, subst}
use mathlib.Core.Logic.{inl, inr}
use Rattle.std.specs.Prelude.{nat_eq, bytes_eq}
use Rattle.std.proofs.lemmas.Bool.{and_parts}
use Rattle.std.proofs.lemmas.Bool.Decides.{nat_tests}
use Rattle.std.proofs.lemmas.Slice.Eq.{bytes_eq-Decides}
use Rattle.std.proofs.Common.{arith}
use Rattle.fl_types.specs.declared.access.Access.{Access}
use Rattle.fl_types.specs.declared.access.AccessKind.{AccessKind}
use Rattle.fl_types.specs.declared.access.AccessKind.TheVariants.{Read, Write, Update}
use Rattle.fl_types.specs.declared.access.PathStep.{PathStep}
use Rattle.fl_types.specs.declared.access.PathStep.TheVariants.{Arm, Test, Body}
use Rattle.index_forms.specs.Form.{Forms}
use Rattle.index_knowledge.specs.Knowledge.{same_step, is_prefix, KnownFact, is_write, is_fact, fact_of, and_fact, with_facts_of, with_facts}
use Rattle.index_law.specs.Paths.{LeadsTo}
use Rattle.certificate_rules.specs.Surveys.{Survey, numbered, IsSurvey, serves_at}

-- a fact's two accesses, of which one writes
pub record OfTwo (as' : List Access) (k : KnownFact) : Type 0 where
  pub first_access : Access
  pub second_access : Access
  pub first : numbered as' k.first ≡ Some first_access
  pub second : numbered as' k.second ≡ Some second_access
  pub fact : is_fact first_access second_access ≡ true

abbrev AllOfTwo : List Access → List KnownFact → Type 0
AllOfTwo as' ks = (n : ℕ) (k : KnownFact) → numbered ks n ≡ Some k → OfTwo as' k

abbrev Own : List Access → Access → Type 0
Own as' a = numbered as' a.number ≡ Some a

abbrev AllOwn : List Access → List Access → Type 0
AllOwn all [] = Unit {0}
AllOwn all (a ∷ as') = Own all a × AllOwn all as'

own_from : (all as' : List Access) → ((n : ℕ) (a : Access) → numbered as' n ≡ Some a → Own all a) → AllOwn all as'
own_from all [] h = tt
own_from all (a ∷ as') h = (h 1 a refl, own_from all as' (λ n b e. later n b e))
  where
    later : (n : ℕ) (b : Access) → numbered as' n ≡ Some b → Own all b
    later zero b e = cc
    later (suc n) b e = h (suc (suc n)) b e

pushed : (all : List Access) (ks : List KnownFact) (k : KnownFact) → AllOfTwo all ks → OfTwo all k → AllOfTwo all (ks ++ k ∷ [])
pushed all [] k h f zero x e = cc
pushed all [] k h f (suc zero) x e = let p : k ≡ x = cc in subst (OfTwo all) p f
pushed all [] k h f (suc (suc n)) x e = cc
pushed all (y ∷ ks) k h f zero x e = cc
pushed all (y ∷ ks) k h f (suc zero) x e = h 1 x e
pushed all (y ∷ ks) k h f (suc (suc n)) x e = pushed all ks k (λ m z d. later m z d) f (suc n) x e
  where
    later : (m : ℕ) (z : KnownFact) → numbered ks m ≡ Some z → OfTwo all z
    later zero z d = cc
    later (suc m) z d = h (suc (suc m)) z d

chosen : (all : List Access) (b : Bool) (ks : List KnownFact) (k : KnownFact) → AllOfTwo all ks → (b ≡ true → OfTwo all k) → AllOfTwo all (if b then ks ++ k ∷ [] else ks)
chosen all true ks k h f = pushed all ks k h (f refl)
chosen all false ks k h f = h

with_of : (all : List Access) (a : Access) (f : Forms) (bs : List Access) (gs : List Forms) (ks : List KnownFact) → Own all a → AllOwn all bs → AllOfTwo all ks → AllOfTwo all (with_facts_of a f bs gs ks)
with_of all a f [] gs ks p q h = h
with_of all a f (b ∷ bs) [] ks p q h = h
with_of all a f (b ∷ bs) (g ∷ gs) ks p q h =
    with_of all a f bs gs (and_fact a f b g ks) p q.1
    (chosen all (is_fact a b) ks (fact_of (suc (length ks)) a f b g) h (λ e. record { first_access = a; second_access = b; first = p; second = q.0; fact = e }))

with_all : (all as' : List Access) (fs : List Forms) (bs : List Access) (gs : List Forms) (ks : List KnownFact) → AllOwn all as' → AllOwn all bs → AllOfTwo all ks → AllOfTwo all (with_facts as' fs bs gs ks)
with_all all [] fs bs gs ks p q h = h
with_all all (a ∷ as') [] bs gs ks p q h = h
with_all all (a ∷ as') (f ∷ fs) bs gs ks p q h = with_all all as' fs bs gs (with_facts_of a f bs gs ks) p.1 q (with_of all a f bs gs ks p.0 q h)

none_of : (all : List Access) → AllOfTwo all []
none_of all zero k e = cc
none_of all (suc n) k e = cc

pub facts_of_two : (s : Survey) → IsSurvey s → AllOfTwo s.accesses s.facts
facts_of_two s w =
    let own = own_from s.accesses s.accesses (λ n a e. subst (λ (m : ℕ). numbered s.accesses m ≡ Some a) (sym (w.numbers n a e)) e) in
    subst (AllOfTwo s.accesses) (sym w.facts_are) (with_all s.accesses s.accesses s.ones s.accesses s.twos [] own own (none_of s.accesses))

-- ---- of one name, and one writes

writes : (k : AccessKind) → is_write k ≡ true → k ≡ Write
writes Write e = refl
writes Read e = cc
writes Update e = cc

pub one_writes : (j k : AccessKind) → (is_write j || is_write k) ≡ true → (j ≡ Write) ⊎ (k ≡ Write)
one_writes Write k e = inl refl
one_writes Read k e = inr (writes k e)
one_writes Update k e = inr (writes k e)

pub one_name : (x y : List ℕ) (b : Bool) → (bytes_eq x y && b) ≡ true → x ≡ y
one_name x y b e = (bytes_eq-Decides x y).0 (and_parts (bytes_eq x y) b e).0

-- ---- paths

nat_is : (m n : ℕ) → nat_eq m n ≡ true → m ≡ n
nat_is m n e = grind (arith, nat_tests)

step_is : (s t : PathStep) → same_step s t ≡ true → s ≡ t
step_is (Arm n m) (Arm j k) e = let p = and_parts (nat_eq n j) (nat_eq m k) e in ap (λ (i : ℕ). Arm i m) (nat_is n j p.0) ∙ ap (Arm j) (nat_is m k p.1)
step_is (Test n m) (Test j k) e = let p = and_parts (nat_eq n j) (nat_eq m k) e in ap (λ (i : ℕ). Test i m) (nat_is n j p.0) ∙ ap (Test j) (nat_is m k p.1)
step_is (Body n) (Body j) e = ap Body (nat_is n j e)
step_is (Arm n m) (Test j k) e = cc
step_is (Arm n m) (Body j) e = cc
step_is (Test n m) (Arm j k) e = cc
step_is (Test n m) (Body j) e = cc
step_is (Body n) (Arm j k) e = cc
step_is (Body n) (Test j k) e = cc

pub leads : (p q : List PathStep) → is_prefix p q ≡ true → LeadsTo p q
leads [] q e = (q, refl)
leads (s ∷ p) [] e = cc
leads (s ∷ p) (t ∷ q) e =
    let b = and_parts (same_step s t) (is_prefix p q) e in
    let r = leads p q b.1 in
    (r.0, ap (λ (u : PathStep). u ∷ q) (sym (step_is s t b.0)) ∙ ap (λ (us : List PathStep). s ∷ us) r.1)

true_is : (b : Bool) → IsTrue b → b ≡ true
true_is b h = h

-- where a fact serves a pair its accesses stand on the paths to the pair's
pub served : (a b f g : Access) (oa ob of og : Option Access) → oa ≡ Some a → ob ≡ Some b → of ≡ Some f → og ≡ Some g → IsTrue (serves_at oa ob of og) → LeadsTo a.path f.path × LeadsTo b.path g.path
served a b f g oa ob of og ea eb ef eg h =
    let t : IsTrue (serves_at (Some a) (Some b) (Some f) (Some g)) =
    subst (λ (o : Option Access). IsTrue (serves_at (Some a) (Some b) (Some f) o)) eg
    (subst (λ (o : Option Access). IsTrue (serves_at (Some a) (Some b) o og)) ef
    (subst (λ (o : Option Access). IsTrue (serves_at (Some a) o of og)) eb
    (subst (λ (o : Option Access). IsTrue (serves_at o ob of og)) ea h))) in
    let p = and_parts (is_prefix a.path f.path) (is_prefix b.path g.path) (true_is (is_prefix a.path f.path && is_prefix b.path g.path) t) in
    (leads a.path f.path p.0, leads b.path g.path p.1)

-- Lists of pairs, step by step.
use Rattle.std.proofs.Common.{◌≡◌, ℕ, suc, ◌<◌, ◌≤◌, Bool, true, false, ◌&&◌, if◌then◌else◌, List, [], ◌∷◌, ◌++◌, drop, length, get_or, refl, sym, ap, ◌∙◌, append_assoc}
use Rattle.std.specs.List.{list_all}
use Rattle.std.proofs.Math.Seq.{drop-cons}
use Rattle.std.proofs.lemmas.List.{drop_all, append-nil}
use Rattle.fl_types.specs.declared.access.Access.{Access}
use Rattle.fl_types.specs.Sharing.{has_name}
use Rattle.index_knowledge.specs.Knowledge.{KnownPair}
use Rattle.certificate.specs.declared.derivation.Given.{Given}
use Rattle.certificate_check.specs.Pairs.{KnownLoop, pair_at}
use Rattle.sharing_choice.specs.Choosing.{listed, pairs_with, pairs_among, derivation_for, DerivedPair, derived_pair, derived_pairs}

pub front : {A : Type 0} (xs : List A) (i : ℕ) (x : A) → i < length xs → get_or xs i x ≡ x → drop i xs ≡ x ∷ drop (suc i) xs
front xs i x h e = drop-cons xs i x h ∙ ap (λ z. z ∷ drop (suc i) xs) e

pub with_step : (names : List (List ℕ)) (k : KnownLoop) (f : ℕ) (as' : List Access) (i : ℕ) (a : Access) → i < length as' → get_or as' i a ≡ a →
    pairs_with names k f (drop i as') ≡ listed (pair_at names k f a.number) ++ pairs_with names k f (drop (suc i) as')
with_step names k f as' i a h e = ap (pairs_with names k f) (front as' i a h e)

pub among_step : (names : List (List ℕ)) (k : KnownLoop) (as' : List Access) (i : ℕ) (a : Access) → i < length as' → get_or as' i a ≡ a →
    pairs_among names k (drop i as') ≡ (if has_name a.place.name names then pairs_with names k a.number (drop i as') else []) ++ pairs_among names k (drop (suc i) as')
among_step names k as' i a h e =
    ap (pairs_among names k) (front as' i a h e)
    ∙ ap (λ (l : List Access). (if has_name a.place.name names then pairs_with names k a.number l else []) ++ pairs_among names k (drop (suc i) as')) (sym (front as' i a h e))

pub with_none : (names : List (List ℕ)) (k : KnownLoop) (f : ℕ) (as' : List Access) (i : ℕ) → length as' ≤ i → pairs_with names k f (drop i as') ≡ []
with_none names k f as' i h = ap (pairs_with names k f) (drop_all i as' h)

pub among_none : (names : List (List ℕ)) (k : KnownLoop) (as' : List Access) (i : ℕ) → length as' ≤ i → pairs_among names k (drop i as') ≡ []
among_none names k as' i h = ap (pairs_among names k) (drop_all i as' h)

-- ---- tests of all

pub all_of_both : {A : Type 0} (f : A → Bool) (xs ys : List A) → list_all f (xs ++ ys) ≡ (list_all f xs && list_all f ys)
all_of_both f [] ys = refl
all_of_both f (x ∷ xs) ys = ap (λ (b : Bool). f x && b) (all_of_both f xs ys) ∙ sym (and_assoc (f x) (list_all f xs) (list_all f ys))
  where
    and_assoc : (a b c : Bool) → ((a && b) && c) ≡ (a && (b && c))
    and_assoc true b c = refl
    and_assoc false b c = refl

pub goes_on : {A : Type 0} (f : A → Bool) (xs ys zs : List A) (b all : Bool) → b ≡ list_all f xs → b ≡ true → zs ≡ xs ++ ys → list_all f zs ≡ all → list_all f ys ≡ all
goes_on f xs ys zs b all d e g w = ap (λ (t : Bool). t && list_all f ys) (sym e ∙ d) ∙ (sym (all_of_both f xs ys) ∙ (ap (list_all f) (sym g) ∙ w))

pub stops : {A : Type 0} (f : A → Bool) (xs ys zs : List A) (b all : Bool) → b ≡ list_all f xs → b ≡ false → zs ≡ xs ++ ys → list_all f zs ≡ all → false ≡ all
stops f xs ys zs b all d e g w = ap (λ (t : Bool). t && list_all f ys) (sym e ∙ d) ∙ (sym (all_of_both f xs ys) ∙ (ap (list_all f) (sym g) ∙ w))

pub one_test : {A : Type 0} (f : A → Bool) (x : A) (b : Bool) → b ≡ f x → b ≡ list_all f (x ∷ [])
one_test f x b e = e ∙ sym (alone (f x))
  where
    alone : (c : Bool) → (c && true) ≡ c
    alone true = refl
    alone false = refl

-- ---- derivations of all

derived_both : (k : KnownLoop) (gs : List Given) (xs ys : List KnownPair) → derived_pairs k gs (xs ++ ys) ≡ derived_pairs k gs xs ++ derived_pairs k gs ys
derived_both k gs [] ys = refl
derived_both k gs (x ∷ xs) ys =
    ap (λ (l : List DerivedPair). derived_pair x (derivation_for k gs x) ++ l) (derived_both k gs xs ys) ∙ sym (append_assoc (derived_pair x (derivation_for k gs x)) (derived_pairs k gs xs) (derived_pairs k gs ys))

pub derived_more : (k : KnownLoop) (gs : List Given) (xs ys zs : List KnownPair) (old new all : List DerivedPair) → new ≡ old ++ derived_pairs k gs xs → zs ≡ xs ++ ys → old ++ derived_pairs k gs zs ≡ all → new ++ derived_pairs k gs ys ≡ all
derived_more k gs xs ys zs old new all e g w =
    ap (λ (l : List DerivedPair). l ++ derived_pairs k gs ys) e ∙ (append_assoc old (derived_pairs k gs xs) (derived_pairs k gs ys)
    ∙ (ap (λ (l : List DerivedPair). old ++ l) (sym (derived_both k gs xs ys)) ∙ (ap (λ (l : List KnownPair). old ++ derived_pairs k gs l) (sym g) ∙ w)))

pub derived_done : (k : KnownLoop) (gs : List Given) (zs : List KnownPair) (old all : List DerivedPair) → zs ≡ [] → old ++ derived_pairs k gs zs ≡ all → old ≡ all
derived_done k gs zs old all e w = sym (append-nil old) ∙ (ap (λ (l : List KnownPair). old ++ derived_pairs k gs l) (sym e) ∙ w)

pub derived_one : (k : KnownLoop) (gs : List Given) (p : KnownPair) → derived_pairs k gs (p ∷ []) ≡ derived_pair p (derivation_for k gs p)
derived_one k gs p = append-nil (derived_pair p (derivation_for k gs p))

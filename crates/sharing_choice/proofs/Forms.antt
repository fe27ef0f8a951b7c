-- The forms of a pair's accesses.
use Rattle.std.proofs.Common.{◌≡◌, ℕ, Bool, true, false, ◌&&◌, if◌then◌else◌, List, [], ◌∷◌, ◌++◌, Option, Some, None, refl, sym, ap, ◌∙◌}
use Rattle.std.specs.Prelude.{bytes_eq, nat_le, option_map}
use Rattle.std.specs.List.{AllByRecursion}
use Rattle.fl_types.specs.declared.access.Access.{Access}
use Rattle.fl_types.specs.Sharing.{has_name}
use Rattle.index_forms.specs.Form.{Forms}
use Rattle.index_forms.specs.Sums.{differences}
use Rattle.index_knowledge.specs.Knowledge.{KnownPair}
use Rattle.certificate_rules.specs.Surveys.{numbered}
use Rattle.certificate_check.specs.Pairs.{KnownLoop, is_pair_read, pair_read_of, pair_read_at, pair_of_two, pair_at}
use Rattle.sharing_choice.specs.Choosing.{listed, pairs_with, pairs_at, pairs_among, pairs_of}
use Rattle.sharing_choice.specs.Shown.{HasForms}

abbrev some_or : {A : Type 0} → A → Option A → A
some_or d None = d
some_or d (Some x) = x

read_forms : (names : List (List ℕ)) (oa : Option Access) (r : Option Bool) (of : Option Forms) (x : List ℕ × Forms) → pair_read_of names oa r of ≡ Some x → of ≡ Some x.1
read_forms names None r of x h = cc
read_forms names (Some a) None of x h = cc
read_forms names (Some a) (Some b) None x h = cc
read_forms names (Some a) (Some b) (Some f) x h = by_test (is_pair_read names a b) h
  where
    by_test : (q : Bool) → (if q then Some (a.place.name, f) else None) ≡ Some x → Some f ≡ Some x.1
    by_test true e = ap (option_map (λ (p : List ℕ × Forms). p.1)) e
    by_test false e = cc

at_forms : (names : List (List ℕ)) (k : KnownLoop) (f g : ℕ) (p : KnownPair) → pair_at names k f g ≡ Some p → HasForms k p
at_forms names k f g p h = by_case (pair_read_at names k k.survey.ones f) refl (pair_read_at names k k.survey.twos g) refl h
  where
    made : (a b : List ℕ × Forms) → pair_read_at names k k.survey.ones f ≡ Some a → pair_read_at names k k.survey.twos g ≡ Some b → (q : Bool) →
        (if q then Some (record { loop_number = k.number; first = f; second = g; differences = differences a.1 b.1; nest = k.nest }) else None) ≡ Some p → HasForms k p
    made a b d e true w =
        let same : record { loop_number = k.number; first = f; second = g; differences = differences a.1 b.1; nest = k.nest } ≡ p = ap (some_or (record { loop_number = k.number; first = f; second = g; differences = differences a.1 b.1; nest = k.nest })) w in
        record {
          ones = a.1;
          twos = b.1;
          of_pair = record {
            first = ap (λ (r : KnownPair). numbered k.survey.ones r.first) (sym same) ∙ read_forms names (numbered k.survey.accesses f) (numbered k.rights f) (numbered k.survey.ones f) a d;
            second = ap (λ (r : KnownPair). numbered k.survey.twos r.second) (sym same) ∙ read_forms names (numbered k.survey.accesses g) (numbered k.rights g) (numbered k.survey.twos g) b e;
            differences_are = ap (λ (r : KnownPair). r.differences) (sym same);
          };
        }
    made a b d e false w = cc

    by_case : (o : Option (List ℕ × Forms)) → pair_read_at names k k.survey.ones f ≡ o → (r : Option (List ℕ × Forms)) → pair_read_at names k k.survey.twos g ≡ r → pair_of_two k.number k.nest f g o r ≡ Some p → HasForms k p
    by_case None d r e w = cc
    by_case (Some a) d None e w = cc
    by_case (Some a) d (Some b) e w = made a b d e (nat_le f g && bytes_eq a.0 b.0) w

all_both : (k : KnownLoop) (xs ys : List KnownPair) → AllByRecursion (HasForms k) xs → AllByRecursion (HasForms k) ys → AllByRecursion (HasForms k) (xs ++ ys)
all_both k [] ys p q = q
all_both k (x ∷ xs) ys p q = (p.0, all_both k xs ys p.1 q)

with_have : (names : List (List ℕ)) (k : KnownLoop) (f : ℕ) (bs : List Access) → AllByRecursion (HasForms k) (pairs_with names k f bs)
with_have names k f [] = tt
with_have names k f (b ∷ bs) = all_both k (listed (pair_at names k f b.number)) (pairs_with names k f bs) (by_case (pair_at names k f b.number) refl) (with_have names k f bs)
  where
    by_case : (o : Option KnownPair) → pair_at names k f b.number ≡ o → AllByRecursion (HasForms k) (listed o)
    by_case None e = tt
    by_case (Some p) e = (at_forms names k f b.number p e, tt)

among_have : (names : List (List ℕ)) (k : KnownLoop) (as' : List Access) → AllByRecursion (HasForms k) (pairs_among names k as')
among_have names k [] = tt
among_have names k (a ∷ as') = all_both k (pairs_at names k a as') (pairs_among names k as') (by_test (has_name a.place.name names)) (among_have names k as')
  where
    by_test : (q : Bool) → AllByRecursion (HasForms k) (if q then pairs_with names k a.number (a ∷ as') else [])
    by_test true = with_have names k a.number (a ∷ as')
    by_test false = tt

pub pairs_have : (names : List (List ℕ)) (k : KnownLoop) → AllByRecursion (HasForms k) (pairs_of names k)
pairs_have names k = among_have names k k.survey.accesses

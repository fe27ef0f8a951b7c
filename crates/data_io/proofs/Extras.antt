-- The first extra member has the least extra key, since a map's keys ascend.
use Rattle.std.proofs.Common.{◌≡◌, ℕ, Bool, true, false, cond, not, List, [], ◌∷◌, Option, Some, None, Ordering, Less, Equal, Greater, string_bytes, string_cmp, nat_cmp, filter, refl, ap, ◌∙◌, subst}
use Rattle.std.specs.Cmp.Lexicographic.{slice_cmp}
use Rattle.std.specs.List.{AllByRecursion}
use Rattle.std.specs.List.Sorted.{IsStrictlySortedBy}
use Rattle.std.specs.Map.{keys_of}
use Rattle.std.specs.Ordering.{match_ordering}
use Rattle.serde_json.specs.View.{members_view}
use Rattle.serde_json.proofs.Views.{Entry}
use Rattle.data_io.specs.declared.data.DataError.TheVariants.{Extra}
use Rattle.data_io.specs.DataFaults.{keys_in, lesser, least, is_asked, extra_fault, extra_faults}

-- nothing, or a key above k
abbrev IsAbove : List ℕ → Option (List ℕ) → Type 0
IsAbove k None = Unit {0}
IsAbove k (Some l) = slice_cmp nat_cmp k l ≡ Less

chosen_above : (o : Ordering) (k q l : List ℕ) → slice_cmp nat_cmp k q ≡ Less → slice_cmp nat_cmp k l ≡ Less → IsAbove k (match_ordering o (Some q) (Some q) (Some l))
chosen_above Less k q l a b = a
chosen_above Equal k q l a b = a
chosen_above Greater k q l a b = b

lesser_above : (k q : List ℕ) (o : Option (List ℕ)) → slice_cmp nat_cmp k q ≡ Less → IsAbove k o → IsAbove k (lesser q o)
lesser_above k q None a h = a
lesser_above k q (Some l) a h = chosen_above (slice_cmp nat_cmp q l) k q l a h

kept_above : (b : Bool) (k q : List ℕ) (ks : List (List ℕ)) → slice_cmp nat_cmp k q ≡ Less → IsAbove k (least ks) → IsAbove k (least (cond b (q ∷ ks) ks))
kept_above true k q ks a h = lesser_above k q (least ks) a h
kept_above false k q ks a h = h

all_above : (k : List ℕ) (p : List ℕ → Bool) (es : List Entry) → AllByRecursion (λ y. slice_cmp nat_cmp k (string_bytes y) ≡ Less) (keys_of es) → IsAbove k (least (filter p (keys_in (members_view es))))
all_above k p [] h = tt
all_above k p (e ∷ es) h = kept_above (p (string_bytes e.0)) k (string_bytes e.0) _ h.0 (all_above k p es h.1)

lesser_is : (k : List ℕ) (o : Option (List ℕ)) → IsAbove k o → lesser k o ≡ Some k
lesser_is k None h = refl
lesser_is k (Some l) h = rw h refl

-- the first member is not asked for
pub extra_here : (asked : List (List ℕ)) (es : List Entry) (e : Entry) (rest : List Entry) → es ≡ e ∷ rest → IsStrictlySortedBy string_cmp (keys_of es) → is_asked asked (string_bytes e.0) ≡ false
    → extra_faults asked (members_view es) ≡ Extra (string_bytes e.0) ∷ []
unfolding IsStrictlySortedBy
extra_here asked es e rest is sorted other =
    let h : IsStrictlySortedBy string_cmp (keys_of (e ∷ rest)) = subst (λ xs. IsStrictlySortedBy string_cmp (keys_of xs)) is sorted in
    ap (λ xs. extra_faults asked (members_view xs)) is
    ∙ rw other (ap extra_fault (lesser_is (string_bytes e.0) _ (all_above (string_bytes e.0) (λ k. not (is_asked asked k)) rest h.0)))

-- it is
pub extra_later : (asked : List (List ℕ)) (es : List Entry) (e : Entry) (rest : List Entry) → es ≡ e ∷ rest → is_asked asked (string_bytes e.0) ≡ true
    → extra_faults asked (members_view es) ≡ extra_faults asked (members_view rest)
extra_later asked es e rest is here = ap (λ xs. extra_faults asked (members_view xs)) is ∙ rw here refl

pub sorted_rest : (es : List Entry) (e : Entry) (rest : List Entry) → es ≡ e ∷ rest → IsStrictlySortedBy string_cmp (keys_of es) → IsStrictlySortedBy string_cmp (keys_of rest)
unfolding IsStrictlySortedBy
sorted_rest es e rest is sorted = let h : IsStrictlySortedBy string_cmp (keys_of (e ∷ rest)) = subst (λ xs. IsStrictlySortedBy string_cmp (keys_of xs)) is sorted in h.1

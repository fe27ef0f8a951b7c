-- Names that are put in order.
use Rattle.std.proofs.Common.{◌≡◌, ℕ, Bool, true, false, ◌||◌, ◌&&◌, List, [], ◌∷◌, ◌++◌, bytes_eq, refl, sym, ap, subst, ◌∙◌}
use Rattle.std.specs.Cmp.Lexicographic.{slice_cmp}
use Rattle.std.specs.declared.cmp.Ordering.{Ordering}
use Rattle.std.specs.declared.cmp.Ordering.TheVariants.{Less, Equal, Greater}
use Rattle.std.specs.Ordering.{nat_cmp, is_lt, is_eq, ordering_reverse}
use Rattle.std.proofs.lemmas.Cmp.{nat_list_cmp_total}
use Rattle.std.proofs.lemmas.Map.Text.{is_eq-slice_cmp}
use Rattle.std.proofs.lemmas.Slice.Eq.{bytes_eq-Decides}
use Rattle.fl_types.specs.Sharing.{has_name}
use Rattle.activity.specs.Order.{is_before, are_ordered, put_by, put_in, put_all}

both_true : (a b : Bool) → a ≡ true → b ≡ true → (a && b) ≡ true
both_true a b e f = rw (e, f) refl

first_true : (a b : Bool) → (a && b) ≡ true → a ≡ true
first_true true b e = refl
first_true false b e = e

second_true : (a b : Bool) → (a && b) ≡ true → b ≡ true
second_true true b e = e
second_true false b e = cc

-- ---- members

swapped : (a b c : Bool) → (a || (b || c)) ≡ (b || (a || c))
swapped true true c = refl
swapped true false c = refl
swapped false true c = refl
swapped false false c = refl

again : (a c : Bool) → (a || (a || c)) ≡ (a || c)
again true c = refl
again false c = refl

has_put_by : (o : Ordering) (x y z : List ℕ) (ys zs : List (List ℕ)) → slice_cmp nat_cmp x y ≡ o → has_name z zs ≡ (bytes_eq z x || has_name z ys) → has_name z (put_by o x y ys zs) ≡ (bytes_eq z x || has_name z (y ∷ ys))
has_put_by Less x y z ys zs e h = refl
has_put_by Equal x y z ys zs e h =
    let same : x ≡ y = (bytes_eq-Decides x y).0 (sym (is_eq-slice_cmp x y) ∙ ap is_eq e) in
    subst (λ (w : List ℕ). has_name z (y ∷ ys) ≡ (bytes_eq z w || has_name z (y ∷ ys))) (sym same) (sym (again (bytes_eq z y) (has_name z ys)))
has_put_by Greater x y z ys zs e h = ap (λ b. bytes_eq z y || b) h ∙ swapped (bytes_eq z y) (bytes_eq z x) (has_name z ys)

has_put : (x z : List ℕ) (ys : List (List ℕ)) → has_name z (put_in x ys) ≡ (bytes_eq z x || has_name z ys)
has_put x z [] = refl
has_put x z (y ∷ ys) = has_put_by (slice_cmp nat_cmp x y) x y z ys (put_in x ys) refl (has_put x z ys)

pub has_all : (z : List ℕ) (xs : List (List ℕ)) → has_name z (put_all xs []) ≡ has_name z xs
has_all z [] = refl
has_all z (x ∷ xs) = has_put x z (put_all xs []) ∙ ap (λ b. bytes_eq z x || b) (has_all z xs)

-- ---- order

turned : (x y : List ℕ) → slice_cmp nat_cmp x y ≡ Greater → is_before y x ≡ true
turned x y e = ap is_lt (nat_list_cmp_total.antisymm y x ∙ ap ordering_reverse e)

behind_by : (o : Ordering) (w x y : List ℕ) (ys zs : List (List ℕ)) → is_before w x ≡ true → is_before w y ≡ true → slice_cmp nat_cmp x y ≡ o → are_ordered (put_by o x y ys zs) ≡ true → are_ordered (w ∷ put_by o x y ys zs) ≡ true
behind_by Less w x y ys zs a b e h = both_true _ _ a h
behind_by Equal w x y ys zs a b e h = both_true _ _ b h
behind_by Greater w x y ys zs a b e h = both_true _ _ b h

-- the name in front of others stays in front
behind : (w x : List ℕ) (ys : List (List ℕ)) → is_before w x ≡ true → are_ordered (w ∷ ys) ≡ true → are_ordered (put_in x ys) ≡ true → are_ordered (w ∷ put_in x ys) ≡ true
behind w x [] a h p = both_true _ _ a refl
behind w x (y ∷ ys) a h p = behind_by (slice_cmp nat_cmp x y) w x y ys (put_in x ys) a (first_true _ _ h) refl p

tail_ordered : (y : List ℕ) (ys : List (List ℕ)) → are_ordered (y ∷ ys) ≡ true → are_ordered ys ≡ true
tail_ordered y [] h = refl
tail_ordered y (z ∷ zs) h = second_true (is_before y z) (are_ordered (z ∷ zs)) h

put_ordered_by : (o : Ordering) (x y : List ℕ) (ys zs : List (List ℕ)) → slice_cmp nat_cmp x y ≡ o → are_ordered (y ∷ ys) ≡ true → (is_before y x ≡ true → are_ordered (y ∷ zs) ≡ true) → are_ordered (put_by o x y ys zs) ≡ true
put_ordered_by Less x y ys zs e h f = both_true _ _ (ap is_lt e) h
put_ordered_by Equal x y ys zs e h f = h
put_ordered_by Greater x y ys zs e h f = f (turned x y e)

put_ordered : (x : List ℕ) (ys : List (List ℕ)) → are_ordered ys ≡ true → are_ordered (put_in x ys) ≡ true
put_ordered x [] h = refl
put_ordered x (y ∷ ys) h = put_ordered_by (slice_cmp nat_cmp x y) x y ys (put_in x ys) refl h (λ a. behind y x ys a h (put_ordered x ys (tail_ordered y ys h)))

pub all_ordered : (xs : List (List ℕ)) → are_ordered (put_all xs []) ≡ true
all_ordered [] = refl
all_ordered (x ∷ xs) = put_ordered x (put_all xs []) (all_ordered xs)

-- ---- the last one first

pub put_last : (xs : List (List ℕ)) (x : List ℕ) (ys : List (List ℕ)) → put_all (xs ++ x ∷ []) ys ≡ put_all xs (put_in x ys)
put_last [] x ys = refl
put_last (w ∷ xs) x ys = ap (put_in w) (put_last xs x ys)

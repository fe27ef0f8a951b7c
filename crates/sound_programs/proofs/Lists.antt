-- Membership in lists of names and of edges, and tests of names.
use Rattle.std.proofs.Common.{◌≡◌, inl, inr, ℕ, Bool, true, false, not, ◌||◌, if◌then◌else◌, bytes_eq, List, [], ◌∷◌, ◌++◌, filter, map, Option, Some, None, refl, ap, sym, ◌∙◌}
use Rattle.std.proofs.lemmas.Slice.Eq.{bytes_eq-Decides}
use Rattle.fl_types.specs.Sharing.{has_name}
use Rattle.reachability.specs.Reached.{IsAmong}

-- ---- tests

pub never : {P : Type 0} (b : Bool) → b ≡ true → b ≡ false → P
never b h k = absurd (let e : true ≡ false = sym h ∙ k in cc)

pub no_not : (b : Bool) → not b ≡ false → b ≡ true
no_not true h = refl
no_not false h = never true refl h

pub not_yes : (b : Bool) → not b ≡ true → b ≡ false
not_yes false h = refl
not_yes true h = never false (sym (sym h)) refl

-- no value
pub nothing : {X : Type 0} (o : Option X) → ((x : X) → o ≡ Some x → ⊥) → o ≡ None
nothing None h = refl
nothing (Some x) h = absurd (h x refl)

-- what follows from either
pub or_to : {P : Type 0} (a b : Bool) → (a ≡ true → P) → (b ≡ true → P) → (a || b) ≡ true → P
or_to true b f g h = f refl
or_to false b f g h = g h

pub by_cases : {P : Type 0} (b : Bool) → (b ≡ true → P) → (b ≡ false → P) → P
by_cases true f g = f refl
by_cases false f g = g refl

-- a test that would lead to nothing fails
pub fails : (b : Bool) → (b ≡ true → ⊥) → b ≡ false
fails true h = absurd (h refl)
fails false h = refl

pub same_name : (x y : List ℕ) → bytes_eq x y ≡ true → x ≡ y
same_name x y h = (bytes_eq-Decides x y).0 h

pub itself : (x : List ℕ) → bytes_eq x x ≡ true
itself x = (bytes_eq-Decides x x).1 refl

-- the same names the other way
pub other_way : (x y : List ℕ) → bytes_eq x y ≡ false → bytes_eq y x ≡ false
other_way x y h = fails (bytes_eq y x) (λ e. never (bytes_eq x y) (ap (bytes_eq x) (same_name y x e) ∙ itself x) h)

-- ---- membership

pub in_left : {X : Type 0} (xs ys : List X) (x : X) → IsAmong xs x → IsAmong (xs ++ ys) x
in_left [] ys x h = absurd h
in_left (z ∷ xs) ys x (inl e) = inl e
in_left (z ∷ xs) ys x (inr h) = inr (in_left xs ys x h)

pub in_right : {X : Type 0} (xs ys : List X) (x : X) → IsAmong ys x → IsAmong (xs ++ ys) x
in_right [] ys x h = h
in_right (z ∷ xs) ys x h = inr (in_right xs ys x h)

pub in_map : {X Y : Type 0} (f : X → Y) (xs : List X) (x : X) → IsAmong xs x → IsAmong (map f xs) (f x)
in_map f [] x h = absurd h
in_map f (z ∷ xs) x (inl e) = inl (ap f e)
in_map f (z ∷ xs) x (inr h) = inr (in_map f xs x h)

pub in_filter : {X : Type 0} (test : X → Bool) (xs : List X) (x : X) → IsAmong xs x → test x ≡ true → IsAmong (filter test xs) x
in_filter test [] x h t = absurd h
in_filter test (z ∷ xs) x (inl e) t = by_test (test z) (ap test e ∙ t)
  where
    by_test : (b : Bool) → b ≡ true → IsAmong (if b then z ∷ filter test xs else filter test xs) x
    by_test true k = inl e
    by_test false k = never false k refl
in_filter test (z ∷ xs) x (inr h) t = by_test (test z) (in_filter test xs x h t)
  where
    by_test : (b : Bool) → IsAmong (filter test xs) x → IsAmong (if b then z ∷ filter test xs else filter test xs) x
    by_test true k = inr k
    by_test false k = k

-- what is left of a list meets the test
pub filter_meets : {X : Type 0} (test : X → Bool) (xs : List X) (x : X) → IsAmong (filter test xs) x → test x ≡ true
filter_meets test [] x h = absurd h
filter_meets test (z ∷ xs) x h = by_test (test z) refl h (λ k. filter_meets test xs x k)
  where
    by_test : (b : Bool) → test z ≡ b → IsAmong (if b then z ∷ filter test xs else filter test xs) x
        → (IsAmong (filter test xs) x → test x ≡ true) → test x ≡ true
    by_test true e (inl k) f = ap test (sym k) ∙ e
    by_test true e (inr k) f = f k
    by_test false e k f = f k

pub has_in : (x : List ℕ) (xs : List (List ℕ)) → has_name x xs ≡ true → IsAmong xs x
has_in x [] h = never false h refl
has_in x (y ∷ ys) h = or_to (bytes_eq x y) (has_name x ys) (λ e. inl (sym (same_name x y e))) (λ e. inr (has_in x ys e)) h

-- what holds of a test's outcome
pub at_test : (P : Bool → Type 0) (b : Bool) → (b ≡ true → P true) → (b ≡ false → P false) → P b
at_test P true f g = f refl
at_test P false f g = g refl

-- names are compared alike both ways
pub turned_test : (x y : List ℕ) → bytes_eq x y ≡ bytes_eq y x
turned_test x y =
    by_cases (bytes_eq x y) (λ e. e ∙ sym (ap (bytes_eq y) (same_name x y e) ∙ itself y)) (λ e. e ∙ sym (other_way x y e))

-- ---- what holds of each member

abbrev pub Each : {X : Type 0} → (X → Type 0) → List X → Type 0
Each {X} P xs = (x : X) → IsAmong xs x → P x

pub each_both : {X : Type 0} (P : X → Type 0) (xs ys : List X) → Each P xs → Each P ys → Each P (xs ++ ys)
each_both P [] ys f g x h = g x h
each_both P (z ∷ xs) ys f g x (inl e) = f x (inl e)
each_both P (z ∷ xs) ys f g x (inr h) = each_both P xs ys (λ y k. f y (inr k)) g x h

pub each_left : {X : Type 0} (P : X → Type 0) (xs ys : List X) → Each P (xs ++ ys) → Each P xs
each_left P xs ys f x h = f x (in_left xs ys x h)

pub each_right : {X : Type 0} (P : X → Type 0) (xs ys : List X) → Each P (xs ++ ys) → Each P ys
each_right P xs ys f x h = f x (in_right xs ys x h)

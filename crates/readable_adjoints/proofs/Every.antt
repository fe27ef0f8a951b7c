-- What each element of a list is.
use Rattle.std.proofs.Common.{◌≡◌, Bool, true, false, List, [], ◌∷◌, ◌++◌, map, filter, flat_map, reverse, cond, refl, sym, subst}
use Rattle.std.proofs.lemmas.List.{reverse-append}
use Rattle.std.specs.List.{list_all}
use Rattle.std.proofs.lemmas.Bool.{and_parts, and_from}

abbrev pub Every : {A : Type 0} → (A → Type 0) → List A → Type 0
Every P [] = Unit {0}
Every P (x ∷ xs) = P x × Every P xs

pub every_append : {A : Type 0} (P : A → Type 0) (xs ys : List A) → Every P xs → Every P ys → Every P (xs ++ ys)
every_append P [] ys h k = k
every_append P (x ∷ xs) ys h k = (h.0, every_append P xs ys h.1 k)

pub every_map : {A B : Type 0} (P : B → Type 0) (f : A → B) (xs : List A) → Every (λ x. P (f x)) xs → Every P (map f xs)
every_map P f [] h = tt
every_map P f (x ∷ xs) h = (h.0, every_map P f xs h.1)

pub every_flat : {A B : Type 0} (P : B → Type 0) (f : A → List B) (xs : List A) → Every (λ x. Every P (f x)) xs → Every P (flat_map f xs)
every_flat P f [] h = tt
every_flat P f (x ∷ xs) h = every_append P (f x) (flat_map f xs) h.0 (every_flat P f xs h.1)

pub every_filter : {A : Type 0} (P : A → Type 0) (t : A → Bool) (xs : List A) → Every P xs → Every P (filter t xs)
every_filter P t [] h = tt
every_filter P t (x ∷ xs) h = at (t x) (every_filter P t xs h.1)
  where
    at : (b : Bool) → Every P (filter t xs) → Every P (cond b (x ∷ filter t xs) (filter t xs))
    at true k = (h.0, k)
    at false k = k

-- with what passes
pub every_passing : {A : Type 0} (P : A → Type 0) (t : A → Bool) (xs : List A) → Every (λ x. t x ≡ true → P x) xs → Every P (filter t xs)
every_passing P t [] h = tt
every_passing P t (x ∷ xs) h = at (t x) h.0 (every_passing P t xs h.1)
  where
    at : (b : Bool) → (b ≡ true → P x) → Every P (filter t xs) → Every P (cond b (x ∷ filter t xs) (filter t xs))
    at true k rest = (k refl, rest)
    at false k rest = rest

pub every_turned : {A : Type 0} (P : A → Type 0) (xs : List A) → Every P xs → Every P (reverse xs)
every_turned P [] h = tt
every_turned P (x ∷ xs) h = subst (λ ys. Every P ys) (sym (reverse-append (x ∷ []) xs)) (every_append P (reverse xs) (x ∷ []) (every_turned P xs h.1) (h.0, tt))

pub every_is : {A : Type 0} (P Q : A → Type 0) → ((x : A) → P x → Q x) → (xs : List A) → Every P xs → Every Q xs
every_is P Q f [] h = tt
every_is P Q f (x ∷ xs) h = (f x h.0, every_is P Q f xs h.1)

pub every_any : {A : Type 0} (P : A → Type 0) → ((x : A) → P x) → (xs : List A) → Every P xs
every_any P f [] = tt
every_any P f (x ∷ xs) = (f x, every_any P f xs)

pub every_told : {A : Type 0} (t : A → Bool) (xs : List A) → list_all t xs ≡ true → Every (λ x. t x ≡ true) xs
every_told t [] h = tt
every_told t (x ∷ xs) h = let p = and_parts (t x) (list_all t xs) h in (p.0, every_told t xs p.1)

pub told_every : {A : Type 0} (t : A → Bool) (xs : List A) → Every (λ x. t x ≡ true) xs → list_all t xs ≡ true
told_every t [] h = refl
told_every t (x ∷ xs) h = and_from (t x) (list_all t xs) h.0 (told_every t xs h.1)

pub every_both : {A : Type 0} (P Q R : A → Type 0) → ((x : A) → P x → Q x → R x) → (xs : List A) → Every P xs → Every Q xs → Every R xs
every_both P Q R f [] h k = tt
every_both P Q R f (x ∷ xs) h k = (f x h.0 k.0, every_both P Q R f xs h.1 k.1)

pub every_left : {A : Type 0} (P : A → Type 0) (xs ys : List A) → Every P (xs ++ ys) → Every P xs
every_left P [] ys h = tt
every_left P (x ∷ xs) ys h = (h.0, every_left P xs ys h.1)

pub every_right : {A : Type 0} (P : A → Type 0) (xs ys : List A) → Every P (xs ++ ys) → Every P ys
every_right P [] ys h = h
every_right P (x ∷ xs) ys h = every_right P xs ys h.1

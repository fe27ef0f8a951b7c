-- Lists that grow in loops, and by three items.
use Rattle.std.proofs.Common.{◌≡◌, ◌≤◌, ◌<◌, ℕ, ◌+◌, suc, add-one, List, [], ◌∷◌, ◌++◌, length, drop, get_or, drop_of_length-le, refl, ap, sym, ◌∙◌, append_assoc}
use Rattle.std.specs.List.{flat_map}
use Rattle.std.proofs.lemmas.List.{append-nil}
use Rattle.std.proofs.Math.Seq.{drop-cons}

-- a loop over all elements, after what was there
pub finished : {X Y : Type 0} (f : List X → List Y) → f [] ≡ [] → (xs : List X) (i : ℕ) (all old : List Y)
    → all ++ f (drop i xs) ≡ old ++ f xs → length xs ≤ i → all ≡ old ++ f xs
finished f z xs i all old e h = sym (append-nil all) ∙ (ap (λ r. all ++ r) (sym (ap f (drop_of_length-le xs h) ∙ z)) ∙ e)

-- from nothing
pub gathered : {X Y : Type 0} (f : List X → List Y) → f [] ≡ [] → (xs : List X) (i : ℕ) (all : List Y) → all ++ f (drop i xs) ≡ f xs → length xs ≤ i → all ≡ f xs
gathered f z xs i all e h = finished f z xs i all [] e h

-- one turn
pub turned : {X Y : Type 0} (f : X → List Y) (xs : List X) (i : ℕ) (d : X) (now new old : List Y)
    → i < length xs → new ≡ now ++ f (get_or xs i d) → now ++ flat_map f (drop i xs) ≡ old ++ flat_map f xs
    → new ++ flat_map f (drop (i + 1) xs) ≡ old ++ flat_map f xs
turned f xs i d now new old h e inv =
    rw (add-one i)
    (ap (λ r. r ++ flat_map f (drop (suc i) xs)) e
    ∙ (append_assoc now (f (get_or xs i d)) (flat_map f (drop (suc i) xs)) ∙ (ap (λ r. now ++ flat_map f r) (sym (drop-cons xs i d h)) ∙ inv)))

pub three : {X : Type 0} (s t u v : List X) (a b c x y z : X) → t ≡ s ++ a ∷ [] → u ≡ t ++ b ∷ [] → v ≡ u ++ c ∷ [] → a ≡ x → b ≡ y → c ≡ z → v ≡ s ++ x ∷ y ∷ z ∷ []
three s t u v a b c x y z ta ub vc ax by cz =
    vc ∙ (ap (λ l. l ++ c ∷ []) (ub ∙ ap (λ l. l ++ b ∷ []) ta)
    ∙ (append_assoc (s ++ a ∷ []) (b ∷ []) (c ∷ []) ∙ (append_assoc s (a ∷ []) (b ∷ c ∷ []) ∙ (rw (ax, by, cz) refl))))

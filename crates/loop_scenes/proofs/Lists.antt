-- Lists at the end of a walk, and in parts.
use Rattle.std.proofs.Common.{drop_of_length-le, drop, length, ◌≤◌, ◌≡◌, ℕ, List, [], ◌∷◌, ◌++◌, ap, sym, ◌∙◌, append_assoc}
use Rattle.std.proofs.lemmas.List.{append-nil}

pub finished : {X Y : Type 0} (f : List X → List Y) → f [] ≡ [] → (xs : List X) (i : ℕ) (now old : List Y) → now ++ f (drop i xs) ≡ old ++ f xs → length xs ≤ i → now ≡ old ++ f xs
finished f z xs i now old e h = sym (append-nil now) ∙ (ap (λ r. now ++ r) (sym (ap f (drop_of_length-le xs h) ∙ z)) ∙ e)

pub one_more : {X : Type 0} (x : X) (xs old mid new : List X) → mid ≡ old ++ x ∷ [] → new ≡ mid ++ xs → new ≡ old ++ x ∷ xs
one_more x xs old mid new e d = d ∙ (ap (λ r. r ++ xs) e ∙ append_assoc old (x ∷ []) xs)

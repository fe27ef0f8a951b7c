-- Lists of loops, at the end of a walk.
use Rattle.std.proofs.Common.{drop_of_length-le, drop, length, ◌≤◌, ◌≡◌, ℕ, List, [], ◌++◌, ap, sym, ◌∙◌}
use Rattle.std.proofs.lemmas.List.{append-nil}

pub finished : {X Y : Type 0} (f : List X → List Y) → f [] ≡ [] → (xs : List X) (i : ℕ) (now old : List Y) → now ++ f (drop i xs) ≡ old ++ f xs → length xs ≤ i → now ≡ old ++ f xs
finished f z xs i now old e h = sym (append-nil now) ∙ (ap (λ r. now ++ r) (sym (ap f (drop_of_length-le xs h) ∙ z)) ∙ e)

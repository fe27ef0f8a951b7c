-- Names of a list in which none stands twice.
use Rattle.std.proofs.Common.{◌≡◌, ℕ, Bool, true, false, not, ◌&&◌, ◌||◌, List, [], ◌∷◌, ◌++◌, bytes_eq, refl, sym, ◌∙◌}
use Rattle.std.specs.List.{list_any}
use Rattle.std.proofs.lemmas.Bool.{and_parts}
use Rattle.std.proofs.lemmas.Slice.Eq.{bytes_eq-Decides}
use Rattle.fl_ast.specs.Readable.{are_apart}

not_is : (t : Bool) → not t ≡ true → t ≡ false
not_is true h = absurd (let g : false ≡ true = h in cc)
not_is false h = refl

true_false : {A : Type 0} → true ≡ false → A
true_false e = absurd (let g : true ≡ false = e in cc)

none_at : (y x : List ℕ) (pre post : List (List ℕ)) → list_any (bytes_eq y) (pre ++ x ∷ post) ≡ false → bytes_eq y x ≡ false
none_at y x [] post h = left (bytes_eq y x) (list_any (bytes_eq y) post) h
  where
    left : (a b : Bool) → (a || b) ≡ false → a ≡ false
    left true b h = true_false h
    left false b h = refl
none_at y x (z ∷ pre) post h = none_at y x pre post (right (bytes_eq y z) (list_any (bytes_eq y) (pre ++ x ∷ post)) h)
  where
    right : (a b : Bool) → (a || b) ≡ false → b ≡ false
    right true b h = true_false h
    right false b h = h

turned : (x y : List ℕ) → bytes_eq y x ≡ false → bytes_eq x y ≡ false
turned x y h = by (bytes_eq x y) refl
  where
    by : (t : Bool) → bytes_eq x y ≡ t → t ≡ false
    by true e = true_false (sym ((bytes_eq-Decides y x).1 (sym ((bytes_eq-Decides x y).0 e))) ∙ h)
    by false e = refl

both_false : (a b : Bool) → a ≡ false → b ≡ false → (a || b) ≡ false
both_false a b h k = rw (h, k) refl

-- a name isn't among those before it
pub none_before : (pre : List (List ℕ)) (x : List ℕ) (post : List (List ℕ)) → are_apart (pre ++ x ∷ post) ≡ true → list_any (bytes_eq x) pre ≡ false
none_before [] x post h = refl
none_before (y ∷ pre) x post h =
    let p = and_parts (not (list_any (bytes_eq y) (pre ++ x ∷ post))) (are_apart (pre ++ x ∷ post)) h in
    both_false (bytes_eq x y) (list_any (bytes_eq x) pre) (turned x y (none_at y x pre post (not_is (list_any (bytes_eq y) (pre ++ x ∷ post)) p.0))) (none_before pre x post p.1)

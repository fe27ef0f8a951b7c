-- How often a name stands in a list, and lists in which none stands twice.
use Rattle.std.proofs.Common.{◌≡◌, ℕ, ◌+◌, ◌<◌, ◌≤◌, Bool, true, false, not, ◌&&◌, ◌||◌, List, [], ◌∷◌, ◌++◌, map, filter, cond, bytes_eq, refl, sym, ap, subst, ◌∙◌, arith}
use Rattle.std.specs.List.{list_any}
use Rattle.std.proofs.lemmas.Bool.{and_parts, and_from, or_parts, not_from_false}
use Rattle.std.proofs.lemmas.Slice.Eq.{bytes_eq-Decides}
use Rattle.fl_ast.specs.Readable.{are_apart}
use Rattle.fl_ast.specs.declared.decl.Decl.{Decl}
use Rattle.fl_types.specs.WellTyped.{are_declared_once}
use Rattle.readable_adjoints.proofs.Every.{Every}

abbrev pub one_if : Bool → ℕ
one_if true = 1
one_if false = 0

abbrev pub times : List ℕ → List (List ℕ) → ℕ
times y [] = 0
times y (x ∷ xs) = one_if (bytes_eq y x) + times y xs

pub times-append : (y : List ℕ) (xs ys : List (List ℕ)) → times y (xs ++ ys) ≡ times y xs + times y ys
times-append y [] ys = omega arith
times-append y (x ∷ xs) ys = omega (arith, times-append y xs ys)

-- where the name passes
abbrev pub one_where : Bool → List ℕ → List ℕ → ℕ
one_where b y x = cond b (one_if (bytes_eq y x)) 0

pub times-filter : (y x : List ℕ) (t : List ℕ → Bool) (xs : List (List ℕ)) → times y (filter t (x ∷ xs)) ≡ one_where (t x) y x + times y (filter t xs)
times-filter y x t xs = at (t x)
  where
    at : (b : Bool) → times y (cond b (x ∷ filter t xs) (filter t xs)) ≡ one_where b y x + times y (filter t xs)
    at true = refl
    at false = omega arith

pub times-mapped : (y x : List ℕ) (f : List ℕ → List ℕ) (t : List ℕ → Bool) (xs : List (List ℕ))
    → times y (map f (filter t (x ∷ xs))) ≡ one_where (t x) y (f x) + times y (map f (filter t xs))
times-mapped y x f t xs = at (t x)
  where
    at : (b : Bool) → times y (map f (cond b (x ∷ filter t xs) (filter t xs))) ≡ one_where b y (f x) + times y (map f (filter t xs))
    at true = refl
    at false = omega arith

pub same_name : (x : List ℕ) → bytes_eq x x ≡ true
same_name x = (bytes_eq-Decides x x).1 refl

absent : (y : List ℕ) (xs : List (List ℕ)) → times y xs ≡ 0 → list_any (bytes_eq y) xs ≡ false
absent y [] h = refl
absent y (x ∷ xs) h = at (bytes_eq y x) h (λ k. absent y xs k)
  where
    at : (t : Bool) → one_if t + times y xs ≡ 0 → (times y xs ≡ 0 → list_any (bytes_eq y) xs ≡ false) → (t || list_any (bytes_eq y) xs) ≡ false
    at true k f = absurd (omega (arith, k))
    at false k f = f (omega (arith, k))

never : (y : List ℕ) (xs : List (List ℕ)) → list_any (bytes_eq y) xs ≡ false → times y xs ≡ 0
never y [] h = refl
never y (x ∷ xs) h =
    let p = or_parts (bytes_eq y x) (list_any (bytes_eq y) xs) h in
    let none = never y xs p.1 in
    ap (λ b. one_if b + times y xs) p.0 ∙ omega (arith, none)

only_one : (t : Bool) (n : ℕ) → t ≡ true → one_if t + n ≤ 1 → n ≡ 0
only_one true n e h = omega (arith, h)
only_one false n e h = absurd (let g : false ≡ true = e in cc)

pub apart_by_times : (xs : List (List ℕ)) → ((y : List ℕ) → times y xs ≤ 1) → are_apart xs ≡ true
apart_by_times [] h = refl
apart_by_times (x ∷ xs) h =
    and_from (not (list_any (bytes_eq x) xs)) (are_apart xs)
    (not_from_false (list_any (bytes_eq x) xs) (absent x xs (only_one (bytes_eq x x) (times x xs) (same_name x) (h x))))
    (apart_by_times xs (λ y. let k = h y in omega (arith, k)))

not_twice : (t : Bool) → not t ≡ true → t ≡ false
not_twice true h = absurd (let g : false ≡ true = h in cc)
not_twice false h = refl

pub times_by_apart : (xs : List (List ℕ)) → are_apart xs ≡ true → (y : List ℕ) → times y xs ≤ 1
times_by_apart [] h y = omega arith
times_by_apart (x ∷ xs) h y = at (bytes_eq y x) refl (λ k. times_by_apart xs k y)
  where
    at : (t : Bool) → bytes_eq y x ≡ t → (are_apart xs ≡ true → times y xs ≤ 1) → one_if t + times y xs ≤ 1
    at true e f =
        let p = and_parts (not (list_any (bytes_eq x) xs)) (are_apart xs) h in
        let none : times y xs ≡ 0 = subst (λ (z : List ℕ). times z xs ≡ 0) (sym ((bytes_eq-Decides y x).0 e)) (never x xs (not_twice (list_any (bytes_eq x) xs) p.0)) in
        omega (arith, none)
    at false e f =
        let p = and_parts (not (list_any (bytes_eq x) xs)) (are_apart xs) h in
        let k = f p.1 in
        omega (arith, k)

-- what stands in a list is as each of its elements
pub at_times : (P : List ℕ → Type 0) (y : List ℕ) (xs : List (List ℕ)) → Every P xs → 0 < times y xs → P y
at_times P y [] h k = absurd (omega (arith, k))
at_times P y (x ∷ xs) h k = at (bytes_eq y x) refl k (λ l. at_times P y xs h.1 l)
  where
    at : (t : Bool) → bytes_eq y x ≡ t → 0 < one_if t + times y xs → (0 < times y xs → P y) → P y
    at true e l f = subst P (sym ((bytes_eq-Decides y x).0 e)) h.0
    at false e l f = f (omega (arith, l))

abbrev name_of : Decl → List ℕ
name_of d = d.name

any_name : (x : List ℕ) (ds : List Decl) → list_any (λ (e : Decl). bytes_eq x e.name) ds ≡ list_any (bytes_eq x) (map name_of ds)
any_name x [] = refl
any_name x (d ∷ ds) = ap (λ b. bytes_eq x d.name || b) (any_name x ds)

pub once_is_apart : (ds : List Decl) → are_declared_once ds ≡ are_apart (map (λ (d : Decl). d.name) ds)
once_is_apart [] = refl
once_is_apart (d ∷ ds) =
    ap (λ b. not b && are_declared_once ds) (any_name d.name ds) ∙ ap (λ b. not (list_any (bytes_eq d.name) (map name_of ds)) && b) (once_is_apart ds)

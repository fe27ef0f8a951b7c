-- Lists of names, declaration by declaration.
use Rattle.std.proofs.Common.{◌≡◌, ℕ, Bool, true, false, if◌then◌else◌, List, [], ◌∷◌, ◌++◌, map, filter, refl, ap, ◌∙◌}
use Rattle.std.specs.List.{flat_map}
use Rattle.fl_ast.specs.declared.decl.Decl.{Decl}
use Rattle.adjoint_rules.specs.OwnNames.{adjoint_name}

abbrev pub passing : (List ℕ → Bool) → List (List ℕ) → List (List ℕ)
passing p [] = []
passing p (x ∷ xs) = (if p x then x ∷ [] else []) ++ passing p xs

abbrev pub kept : (List ℕ → Bool) → List Decl → List (List ℕ)
kept p [] = []
kept p (d ∷ ds) = (if p d.name then d.name ∷ [] else []) ++ kept p ds

abbrev pub adjoints : (List ℕ → Bool) → List Decl → List (List ℕ)
adjoints p [] = []
adjoints p (d ∷ ds) = (if p d.name then adjoint_name d.name ∷ [] else []) ++ adjoints p ds

abbrev pub by_decl : (List ℕ → List (List ℕ)) → List Decl → List (List ℕ)
by_decl f [] = []
by_decl f (d ∷ ds) = f d.name ++ by_decl f ds

pub passing_are : (p : List ℕ → Bool) (xs : List (List ℕ)) → passing p xs ≡ filter p xs
passing_are p [] = refl
passing_are p (x ∷ xs) = by_test (p x) ∙ ap (λ r. if p x then x ∷ r else r) (passing_are p xs)
  where
    by_test : (b : Bool) → (if b then x ∷ [] else []) ++ passing p xs ≡ (if b then x ∷ passing p xs else passing p xs)
    by_test true = refl
    by_test false = refl

pub kept_are : (p : List ℕ → Bool) (ds : List Decl) → kept p ds ≡ filter p (map (λ (d : Decl). d.name) ds)
kept_are p [] = refl
kept_are p (d ∷ ds) = by_test (p d.name) ∙ ap (λ r. if p d.name then d.name ∷ r else r) (kept_are p ds)
  where
    by_test : (b : Bool) → (if b then d.name ∷ [] else []) ++ kept p ds ≡ (if b then d.name ∷ kept p ds else kept p ds)
    by_test true = refl
    by_test false = refl

pub adjoints_are : (p : List ℕ → Bool) (ds : List Decl) → adjoints p ds ≡ map adjoint_name (filter p (map (λ (d : Decl). d.name) ds))
adjoints_are p [] = refl
adjoints_are p (d ∷ ds) = by_test (p d.name) (adjoints_are p ds)
  where
    by_test : (b : Bool) → adjoints p ds ≡ map adjoint_name (filter p (map (λ (d : Decl). d.name) ds))
        → (if b then adjoint_name d.name ∷ [] else []) ++ adjoints p ds
        ≡ map adjoint_name (if b then d.name ∷ filter p (map (λ (d : Decl). d.name) ds) else filter p (map (λ (d : Decl). d.name) ds))
    by_test true h = ap (λ r. adjoint_name d.name ∷ r) h
    by_test false h = h

pub by_decl_is : (f : List ℕ → List (List ℕ)) (ds : List Decl) → by_decl f ds ≡ flat_map f (map (λ (d : Decl). d.name) ds)
by_decl_is f [] = refl
by_decl_is f (d ∷ ds) = ap (λ r. f d.name ++ r) (by_decl_is f ds)

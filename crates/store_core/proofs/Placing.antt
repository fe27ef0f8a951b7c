-- The shapes of declarations that are looked up one after another.
use Rattle.std.proofs.Common.{◌≡◌, ℕ, ◌+◌, ◌<◌, List, [], ◌∷◌, drop, get_or, length, map, Option, Some, None, Result, Err, refl, sym, ap, ◌∙◌, subst, ◌^◌}
use Rattle.std.proofs.lemmas.List.{drop_more, map-append}
use Rattle.std.specs.List.{filter_map}
use Rattle.fl_ast.specs.declared.decl.Decl.{Decl}
use Rattle.fl_ast.specs.declared.stmt.Program.{Program}
use Rattle.store_core.specs.declared.layout.Shape.{Shape}
use Rattle.store_core.specs.declared.layout.LayoutError.{LayoutError}
use Rattle.store_core.specs.declared.values.Entry.{Entry}
use Rattle.store_core.specs.Values.{value_in}
use Rattle.store_core.specs.Bounds.{shape_of}
use Rattle.store_core.specs.Keys.{laid, laid_all, scalar, with_scalars, LaysWithin}
use Rattle.store_core.specs.Places.{declaration_of, local_of, laid_some, shapes_of}
use Rattle.store_core.proofs.Laying.{too_many, laid_all-append}

looked_up : {A : Type 0} (values : List Entry) (g : A → Option Decl) (x : A) (xs : List A) (es : List Shape) (o : Option Decl) → g x ≡ o
    → laid_all es (map (shape_of (value_in values)) (filter_map g (x ∷ xs))) ≡ laid_all (laid_some values es o) (map (shape_of (value_in values)) (filter_map g xs))
looked_up values g x xs es None h = rw h refl
looked_up values g x xs es (Some d) h = rw h refl

-- too many places once one more is laid out are too many in the end
pub some_over : {A : Type 0} (values : List Entry) (g : A → Option Decl) (xs ys : List A) (i : ℕ) (x : A) (es whole : List Shape) (o : Option Decl) (e : LayoutError)
    → ys ≡ xs → i < length ys → x ≡ get_or ys i x → o ≡ g x → laid_all es (map (shape_of (value_in values)) (filter_map g (drop i xs))) ≡ whole
    → LaysWithin (2 ^ 20) (Err e) (laid_some values es o) → LaysWithin (2 ^ 20) (Err e) whole
some_over values g xs ys i x es whole o e list lt is look same h =
    let here : drop i xs ≡ x ∷ drop (i + 1) xs = drop_more xs i x (subst (λ zs. i < length zs) list lt) ∙ ap (λ y. y ∷ drop (i + 1) xs) (sym (is ∙ ap (λ zs. get_or zs i x) list)) in
    let one = ap (λ ys. laid_all es (map (shape_of (value_in values)) (filter_map g ys))) here ∙ looked_up values g x (drop (i + 1) xs) es o (sym look) in
    subst (LaysWithin (2 ^ 20) (Err e)) (sym one ∙ same) (too_many (2 ^ 20) e (laid_some values es o) (map (shape_of (value_in values)) (filter_map g (drop (i + 1) xs))) h)

-- the arguments and then the locals
pub both : (p : Program) (values : List Entry)
    → laid_all (laid_all [] (map (shape_of (value_in values)) (filter_map (declaration_of p.decls) p.args))) (map (shape_of (value_in values)) (filter_map (local_of p) p.decls)) ≡ shapes_of p values
both p values =
    let f = shape_of (value_in values) in
    let as' = filter_map (declaration_of p.decls) p.args in
    let ls = filter_map (local_of p) p.decls in
    laid_all-append [] (map f as') (map f ls) ∙ ap (laid_all []) (sym (map-append f as' ls))

pub args_over : (p : Program) (values : List Entry) (es : List Shape) (e : LayoutError) → es ≡ []
    → LaysWithin (2 ^ 20) (Err e) (laid_all es (map (shape_of (value_in values)) (filter_map (declaration_of p.decls) p.args))) → LaysWithin (2 ^ 20) (Err e) (shapes_of p values)
args_over p values es e none h =
    subst (LaysWithin (2 ^ 20) (Err e)) (both p values) (too_many (2 ^ 20) e (laid_all [] (map (shape_of (value_in values)) (filter_map (declaration_of p.decls) p.args))) (map (shape_of (value_in values)) (filter_map (local_of p) p.decls)) (subst (λ xs. LaysWithin (2 ^ 20) (Err e) (laid_all xs (map (shape_of (value_in values)) (filter_map (declaration_of p.decls) p.args)))) none h))

pub all_laid : (p : Program) (values vs : List Entry) (none args : List Shape) (r : Result (List Shape) LayoutError) → vs ≡ values → none ≡ []
    → args ≡ laid_all none (map (shape_of (value_in vs)) (filter_map (declaration_of p.decls) p.args))
    → LaysWithin (2 ^ 20) r (laid_all args (map (shape_of (value_in vs)) (filter_map (local_of p) p.decls))) → LaysWithin (2 ^ 20) r (shapes_of p values)
all_laid p values vs none args r v n a h =
    let P : List Entry → List Shape → List Shape = λ us es. laid_all (laid_all es (map (shape_of (value_in us)) (filter_map (declaration_of p.decls) p.args))) (map (shape_of (value_in us)) (filter_map (local_of p) p.decls)) in
    let e : laid_all args (map (shape_of (value_in vs)) (filter_map (local_of p) p.decls)) ≡ shapes_of p values =
    ap (λ es. laid_all es (map (shape_of (value_in vs)) (filter_map (local_of p) p.decls))) a ∙ ap (P vs) n ∙ ap (λ us. P us []) v ∙ both p values in
    subst (LaysWithin (2 ^ 20) r) e h

-- too many places with one scalar more are too many with all
pub scalar_over : (n : ℕ) (decls items : List Decl) (i : ℕ) (d : Decl) (es whole : List Shape) (e : LayoutError)
    → items ≡ decls → i < length items → d ≡ get_or items i d → with_scalars es (drop i decls) ≡ whole
    → LaysWithin n (Err e) (laid es (scalar d.name)) → LaysWithin n (Err e) whole
scalar_over n decls items i d es whole e list lt is same h =
    let here : drop i decls ≡ d ∷ drop (i + 1) decls = drop_more decls i d (subst (λ zs. i < length zs) list lt) ∙ ap (λ y. y ∷ drop (i + 1) decls) (sym (is ∙ ap (λ zs. get_or zs i d) list)) in
    subst (LaysWithin n (Err e)) (sym (ap (with_scalars es) here) ∙ same) (too_many n e (laid es (scalar d.name)) (map (λ (x : Decl). scalar x.name) (drop (i + 1) decls)) h)

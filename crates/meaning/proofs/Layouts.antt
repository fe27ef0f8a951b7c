-- The shapes of a program's layout are those of its declarations.
use Rattle.std.specs.Prelude.{◌≡◌, ◌⊎◌, ℕ, ℤ, Bool, true, false, cond, not, ◌&&◌, ◌||◌, if◌then◌else◌, nat_eq, bytes_eq, List, [], ◌∷◌, ◌++◌, map, length, Option, Some, None, refl}
use Rattle.std.specs.List.{list_all, list_any, cons_option, filter_map}
use Rattle.std.proofs.Common.{ap, sym, ◌∙◌, subst, arith, inl, inr}
use Rattle.std.proofs.lemmas.Bool.{and_parts, and_from, or_left, or_right, not-true}
use Rattle.std.proofs.lemmas.Bool.Decides.{nat_tests}
use Rattle.std.proofs.lemmas.Slice.Eq.{bytes_eq-Decides}
use Rattle.std.proofs.lemmas.List.{length-map}
use Rattle.fl_ast.specs.declared.decl.Decl.{Decl}
use Rattle.fl_ast.specs.declared.stmt.Program.{Program}
use Rattle.fl_ast.specs.Tree.{stmt_trees}
use Rattle.fl_types.specs.Sharing.{has_name}
use Rattle.store_core.specs.declared.layout.Shape.{Shape}
use Rattle.store_core.specs.declared.values.Entry.{Entry}
use Rattle.store_core.specs.Bounds.{axis_of, shape_of}
use Rattle.store_core.specs.Keys.{laid, laid_all}
use Rattle.store_core.specs.Places.{declaration_of, is_empty, is_local, local_of, placed, shapes_of}
use Rattle.store_core.specs.Values.{value_in}
use Rattle.meaning.specs.FittingLaws.{has_rank_of, has_array_shape, are_declared_once, is_argument_if_array, ProgramsAreKinded}
use Rattle.meaning.proofs.Laying.{is_there, there_laid, itself_laid, entries_kinded}

-- ---- declarations

abbrev In : Decl → List Decl → Type 0
In d [] = ⊥
In d (e ∷ es) = (e ≡ d) ⊎ In d es

abbrev AllIn : List Decl → List Decl → Type 0
AllIn [] ds = Unit {0}
AllIn (e ∷ es) ds = In e ds × AllIn es ds

all_in_append : (es fs ds : List Decl) → AllIn es ds → AllIn fs ds → AllIn (es ++ fs) ds
all_in_append [] fs ds h g = g
all_in_append (e ∷ es) fs ds h g = (h.0, all_in_append es fs ds h.1 g)

all_in_more : (e : Decl) (es ds : List Decl) → AllIn es ds → AllIn es (e ∷ ds)
all_in_more e [] ds h = tt
all_in_more e (f ∷ es) ds h = (inr h.0, all_in_more e es ds h.1)

-- another declaration of the name has as many dimensions
abbrev agrees : Decl → Decl → Bool
agrees d e = if bytes_eq d.name e.name then nat_eq (length d.dims) (length e.dims) else true

named_in : (d : Decl) (ds : List Decl) → In d ds → list_any (λ (e : Decl). bytes_eq d.name e.name) ds ≡ true
named_in d [] h = absurd h
named_in d (e ∷ ds) (inl q) = or_left (bytes_eq d.name e.name) (list_any (λ (f : Decl). bytes_eq d.name f.name) ds) ((bytes_eq-Decides d.name e.name).1 (ap (λ (f : Decl). f.name) (sym q)))
named_in d (e ∷ ds) (inr h) = or_right (bytes_eq d.name e.name) (list_any (λ (f : Decl). bytes_eq d.name f.name) ds) (named_in d ds h)

same_number : (n : ℕ) → nat_eq n n ≡ true
same_number n = grind (arith, nat_tests)

if_same : (b : Bool) (n : ℕ) → (if b then nat_eq n n else true) ≡ true
if_same true n = same_number n
if_same false n = refl

-- a name that isn't among declarations agrees with each
apart_agrees : (d : Decl) (ds : List Decl) → list_any (λ (e : Decl). bytes_eq d.name e.name) ds ≡ false → list_all (agrees d) ds ≡ true
apart_agrees d [] h = refl
apart_agrees d (e ∷ ds) h = by_test (bytes_eq d.name e.name) h (λ g. apart_agrees d ds g)
  where
    by_test : (b : Bool) → (b || list_any (λ (f : Decl). bytes_eq d.name f.name) ds) ≡ false → (list_any (λ (f : Decl). bytes_eq d.name f.name) ds ≡ false → list_all (agrees d) ds ≡ true)
        → ((if b then nat_eq (length d.dims) (length e.dims) else true) && list_all (agrees d) ds) ≡ true
    by_test true g k = cc
    by_test false g k = k g

once_agrees : (d : Decl) (ds : List Decl) → are_declared_once ds ≡ true → In d ds → list_all (agrees d) ds ≡ true
once_agrees d [] o h = absurd h
once_agrees d (e ∷ ds) o h = by_case h (λ g. once_agrees d ds p.1 g)
  where
    p : (not (list_any (λ (f : Decl). bytes_eq e.name f.name) ds) ≡ true) × (are_declared_once ds ≡ true)
    p = and_parts (not (list_any (λ (f : Decl). bytes_eq e.name f.name) ds)) (are_declared_once ds) o

    apart : list_any (λ (f : Decl). bytes_eq e.name f.name) ds ≡ false
    apart = not-true (list_any (λ (f : Decl). bytes_eq e.name f.name) ds) p.0

    other : In d ds → (b : Bool) → bytes_eq d.name e.name ≡ b → (if b then nat_eq (length d.dims) (length e.dims) else true) ≡ true
    other g true i =
        let q : d.name ≡ e.name = (bytes_eq-Decides d.name e.name).0 i in
        let k : list_any (λ (f : Decl). bytes_eq e.name f.name) ds ≡ true = subst (λ (y : List ℕ). list_any (λ (f : Decl). bytes_eq y f.name) ds ≡ true) q (named_in d ds g) in
        let j : true ≡ false = sym k ∙ apart in cc
    other g false i = refl

    by_case : (e ≡ d) ⊎ In d ds → (In d ds → list_all (agrees d) ds ≡ true) → (agrees d e && list_all (agrees d) ds) ≡ true
    by_case (inl q) k = subst (λ (f : Decl). (agrees f e && list_all (agrees f) ds) ≡ true) q (and_from (agrees e e) (list_all (agrees e) ds) (if_same (bytes_eq e.name e.name) (length e.dims)) (apart_agrees e ds apart))
    by_case (inr g) k = and_from (agrees d e) (list_all (agrees d) ds) (other g (bytes_eq d.name e.name) refl) (k g)

-- ---- what is placed

found_in : (x : List ℕ) (ds : List Decl) (d : Decl) → declaration_of ds x ≡ Some d → In d ds
found_in x [] d h = cc
found_in x (e ∷ ds) d h = by_test (bytes_eq x e.name) h (λ g. found_in x ds d g)
  where
    by_test : (b : Bool) → cond b (Some e) (declaration_of ds x) ≡ Some d → (declaration_of ds x ≡ Some d → In d ds) → (e ≡ d) ⊎ In d ds
    by_test true g k = inl (cc)
    by_test false g k = inr (k g)

arguments_in : (xs : List (List ℕ)) (ds : List Decl) → AllIn (filter_map (declaration_of ds) xs) ds
arguments_in [] ds = tt
arguments_in (x ∷ xs) ds = by_found (declaration_of ds x) (λ d e. found_in x ds d e) (arguments_in xs ds)
  where
    by_found : (o : Option Decl) → ((d : Decl) → o ≡ Some d → In d ds) → AllIn (filter_map (declaration_of ds) xs) ds → AllIn (cons_option o (filter_map (declaration_of ds) xs)) ds
    by_found None f h = h
    by_found (Some d) f h = (f d refl, h)

locals_in : (p : Program) (ds : List Decl) → AllIn (filter_map (local_of p) ds) ds
locals_in p [] = tt
locals_in p (d ∷ ds) = by_test (is_local p d) (all_in_more d (filter_map (local_of p) ds) ds (locals_in p ds))
  where
    by_test : (b : Bool) → AllIn (filter_map (local_of p) ds) (d ∷ ds) → AllIn (cons_option (cond b (Some d) None) (filter_map (local_of p) ds)) (d ∷ ds)
    by_test true h = (inl refl, h)
    by_test false h = h

placed_in : (p : Program) → AllIn (placed p) p.decls
placed_in p = all_in_append (filter_map (declaration_of p.decls) p.args) (filter_map (local_of p) p.decls) p.decls (arguments_in p.args p.decls) (locals_in p p.decls)

-- ---- shapes

rank_agrees : (v : List ℕ → ℤ) (d e : Decl) → agrees d e ≡ true → has_rank_of (shape_of v d) e ≡ true
rank_agrees v d e h = by_test (bytes_eq d.name e.name) h
  where
    by_test : (b : Bool) → (if b then nat_eq (length d.dims) (length e.dims) else true) ≡ true → (if b then nat_eq (length (map (axis_of v) d.dims)) (length e.dims) else true) ≡ true
    by_test true g = ap (λ (n : ℕ). nat_eq n (length e.dims)) (length-map d.dims (axis_of v)) ∙ g
    by_test false g = refl

ranks_agree : (v : List ℕ → ℤ) (d : Decl) (ds : List Decl) → list_all (agrees d) ds ≡ true → list_all (has_rank_of (shape_of v d)) ds ≡ true
ranks_agree v d [] h = refl
ranks_agree v d (e ∷ ds) h =
    let p = and_parts (agrees d e) (list_all (agrees d) ds) h in
    and_from (has_rank_of (shape_of v d) e) (list_all (has_rank_of (shape_of v d)) ds) (rank_agrees v d e p.0) (ranks_agree v d ds p.1)

all_last : (test : Shape → Bool) (es : List Shape) (t : Shape) → list_all test es ≡ true → test t ≡ true → list_all test (es ++ t ∷ []) ≡ true
all_last test [] t h g = and_from (test t) true g refl
all_last test (e ∷ es) t h g =
    let p = and_parts (test e) (list_all test es) h in
    and_from (test e) (list_all test (es ++ t ∷ [])) p.0 (all_last test es t p.1 g)

all_laid : (test : Shape → Bool) (es : List Shape) (t : Shape) → list_all test es ≡ true → test t ≡ true → list_all test (laid es t) ≡ true
all_laid test es t h g = by_test (list_any (λ (e : Shape). bytes_eq t.name e.name) es)
  where
    by_test : (b : Bool) → list_all test (cond b es (es ++ t ∷ [])) ≡ true
    by_test true = h
    by_test false = all_last test es t h g

shapes_all : (v : List ℕ → ℤ) (decls : List Decl) → are_declared_once decls ≡ true → (ds : List Decl) → AllIn ds decls → (es : List Shape) → list_all (λ (s : Shape). list_all (has_rank_of s) decls) es ≡ true
    → list_all (λ (s : Shape). list_all (has_rank_of s) decls) (laid_all es (map (shape_of v) ds)) ≡ true
shapes_all v decls o [] h es a = a
shapes_all v decls o (d ∷ ds) h es a =
    shapes_all v decls o ds h.1 (laid es (shape_of v d)) (all_laid (λ (s : Shape). list_all (has_rank_of s) decls) es (shape_of v d) a (ranks_agree v d decls (once_agrees d decls o h.0)))

there_past : (v : List ℕ → ℤ) (x : List ℕ) (ds : List Decl) (es : List Shape) → is_there x es ≡ true → is_there x (laid_all es (map (shape_of v) ds)) ≡ true
there_past v x [] es h = h
there_past v x (d ∷ ds) es h = there_past v x ds (laid es (shape_of v d)) (there_laid x es (shape_of v d) h)

there_named : (v : List ℕ → ℤ) (x : List ℕ) (ds : List Decl) (es : List Shape) → list_any (λ (d : Decl). bytes_eq x d.name) ds ≡ true → is_there x (laid_all es (map (shape_of v) ds)) ≡ true
there_named v x [] es h = cc
there_named v x (d ∷ ds) es h = by_test (bytes_eq x d.name) refl h (λ g. there_named v x ds (laid es (shape_of v d)) g)
  where
    by_test : (b : Bool) → bytes_eq x d.name ≡ b → (b || list_any (λ (e : Decl). bytes_eq x e.name) ds) ≡ true → (list_any (λ (e : Decl). bytes_eq x e.name) ds ≡ true → is_there x (laid_all (laid es (shape_of v d)) (map (shape_of v) ds)) ≡ true)
        → is_there x (laid_all (laid es (shape_of v d)) (map (shape_of v) ds)) ≡ true
    by_test true e f g = there_past v x ds (laid es (shape_of v d)) (itself_laid x es (shape_of v d) e)
    by_test false e f g = g f

-- a declared name is found
found_named : (x : List ℕ) (ds : List Decl) → list_any (λ (d : Decl). bytes_eq x d.name) ds ≡ true → (d : Decl) × (declaration_of ds x ≡ Some d) × (bytes_eq x d.name ≡ true)
found_named x [] h = cc
found_named x (e ∷ ds) h = by_test (bytes_eq x e.name) refl h (λ g. found_named x ds g)
  where
    by_test : (b : Bool) → bytes_eq x e.name ≡ b → (b || list_any (λ (d : Decl). bytes_eq x d.name) ds) ≡ true → (list_any (λ (d : Decl). bytes_eq x d.name) ds ≡ true → (d : Decl) × (declaration_of ds x ≡ Some d) × (bytes_eq x d.name ≡ true))
        → (d : Decl) × (cond b (Some e) (declaration_of ds x) ≡ Some d) × (bytes_eq x d.name ≡ true)
    by_test true i g k = (e, refl, i)
    by_test false i g k = k g

argument_placed : (x : List ℕ) (xs : List (List ℕ)) (ds : List Decl) → has_name x xs ≡ true → list_any (λ (d : Decl). bytes_eq x d.name) ds ≡ true → list_any (λ (d : Decl). bytes_eq x d.name) (filter_map (declaration_of ds) xs) ≡ true
argument_placed x [] ds h g = cc
argument_placed x (y ∷ xs) ds h g = by_test (bytes_eq x y) refl h (λ k. argument_placed x xs ds k g)
  where
    later : (o : Option Decl) → list_any (λ (d : Decl). bytes_eq x d.name) (filter_map (declaration_of ds) xs) ≡ true → list_any (λ (d : Decl). bytes_eq x d.name) (cons_option o (filter_map (declaration_of ds) xs)) ≡ true
    later None k = k
    later (Some d) k = or_right (bytes_eq x d.name) (list_any (λ (e : Decl). bytes_eq x e.name) (filter_map (declaration_of ds) xs)) k

    here : x ≡ y → list_any (λ (d : Decl). bytes_eq x d.name) (cons_option (declaration_of ds y) (filter_map (declaration_of ds) xs)) ≡ true
    here q =
        let f = found_named x ds g in
        let e : declaration_of ds y ≡ Some f.0 = ap (declaration_of ds) (sym q) ∙ f.1 in
        subst (λ (o : Option Decl). list_any (λ (d : Decl). bytes_eq x d.name) (cons_option o (filter_map (declaration_of ds) xs)) ≡ true) (sym e)
        (or_left (bytes_eq x f.0.name) (list_any (λ (d : Decl). bytes_eq x d.name) (filter_map (declaration_of ds) xs)) f.2)

    by_test : (b : Bool) → bytes_eq x y ≡ b → (b || has_name x xs) ≡ true → (has_name x xs ≡ true → list_any (λ (d : Decl). bytes_eq x d.name) (filter_map (declaration_of ds) xs) ≡ true)
        → list_any (λ (d : Decl). bytes_eq x d.name) (cons_option (declaration_of ds y) (filter_map (declaration_of ds) xs)) ≡ true
    by_test true i k l = here ((bytes_eq-Decides x y).0 i)
    by_test false i k l = later (declaration_of ds y) (l k)

any_append : (x : List ℕ) (ds es : List Decl) → list_any (λ (d : Decl). bytes_eq x d.name) ds ≡ true → list_any (λ (d : Decl). bytes_eq x d.name) (ds ++ es) ≡ true
any_append x [] es h = cc
any_append x (d ∷ ds) es h = by_test (bytes_eq x d.name) h (λ g. any_append x ds es g)
  where
    by_test : (b : Bool) → (b || list_any (λ (e : Decl). bytes_eq x e.name) ds) ≡ true → (list_any (λ (e : Decl). bytes_eq x e.name) ds ≡ true → list_any (λ (e : Decl). bytes_eq x e.name) (ds ++ es) ≡ true)
        → (b || list_any (λ (e : Decl). bytes_eq x e.name) (ds ++ es)) ≡ true
    by_test true g k = refl
    by_test false g k = k g

arrays_there : (p : Program) (values : List Entry) (ds : List Decl) → AllIn ds p.decls → list_all (is_argument_if_array p.args) ds ≡ true → list_all (has_array_shape (shapes_of p values)) ds ≡ true
unfolding is_there
arrays_there p values [] h a = refl
arrays_there p values (d ∷ ds) h a =
    let q = and_parts (is_argument_if_array p.args d) (list_all (is_argument_if_array p.args) ds) a in
    and_from (has_array_shape (shapes_of p values) d) (list_all (has_array_shape (shapes_of p values)) ds) (by_dims (is_empty d.dims) q.0) (arrays_there p values ds h.1 q.1)
  where
    by_dims : (b : Bool) → (b || has_name d.name p.args) ≡ true → (b || list_any (λ (s : Shape). bytes_eq d.name s.name) (shapes_of p values)) ≡ true
    by_dims true g = refl
    by_dims false g =
        there_named (value_in values) d.name (placed p) []
        (any_append d.name (filter_map (declaration_of p.decls) p.args) (filter_map (local_of p) p.decls) (argument_placed d.name p.args p.decls g (named_in d p.decls h.0)))

all_in_itself : (ds : List Decl) → AllIn ds ds
all_in_itself [] = tt
all_in_itself (d ∷ ds) = (inl refl, all_in_more d ds ds (all_in_itself ds))

pub programs_kinded : ProgramsAreKinded
programs_kinded p values pushed o a h =
    entries_kinded p.decls (shapes_of p values) pushed
    (and_from (list_all (λ (s : Shape). list_all (has_rank_of s) p.decls) (shapes_of p values)) (list_all (has_array_shape (shapes_of p values)) p.decls)
    (shapes_all (value_in values) p.decls o (placed p) (placed_in p) [] refl) (arrays_there p values p.decls (all_in_itself p.decls) a)) (stmt_trees p.body) h

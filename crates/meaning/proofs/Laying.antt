-- A body that is well kinded by its declarations is well kinded at the entry of a program whose layout is that of the declarations.
use Rattle.std.specs.Prelude.{◌≡◌, ℕ, zero, suc, ℤ, Bool, true, false, cond, not, ◌&&◌, ◌||◌, if◌then◌else◌, nat_eq, bytes_eq, List, [], ◌∷◌, ◌++◌, map, flat_map, length, Option, Some, None, is_some, option_map, refl}
use Rattle.std.specs.List.{list_all, list_any}
use Rattle.std.proofs.Common.{ap, sym, ◌∙◌, subst, arith}
use Rattle.std.proofs.lemmas.Bool.{and_parts, and_from, or_left, or_right}
use Rattle.std.proofs.lemmas.Bool.Decides.{nat_tests}
use Rattle.std.proofs.lemmas.Slice.Eq.{bytes_eq-Decides}
use Rattle.fl_ast.specs.declared.decl.Decl.{Decl}
use Rattle.fl_ast.specs.declared.decl.Dim.{Dim}
use Rattle.fl_types.specs.Sharing.{has_name}
use Rattle.fl_types.specs.Kinds.{has_declared_rank, declared_names}
use Rattle.store_core.specs.declared.bound.Axis.{Axis}
use Rattle.store_core.specs.declared.layout.Shape.{Shape}
use Rattle.store_core.specs.Keys.{run, subscripts_of, keys_of_shape, keys_of, same_key, first_at, laid, scalar, with_scalars}
use Rattle.store_core.specs.Places.{is_empty}
use Rattle.meaning.specs.Sites.{Key, opening_site}
use Rattle.meaning.specs.Fitting.{keys_have_rank, names_at}
use Rattle.meaning.specs.FittingLaws.{has_rank_of, has_array_shape, are_declared_shapes, EntriesAreKinded}
use Rattle.meaning.proofs.NamesOfKinds.{kinds_by_names}

-- ---- keys of shapes

AllLong : ℕ → List (List ℤ) → Type 0
AllLong n [] = Unit {0}
AllLong n (ss ∷ sss) = (length ss ≡ n) × AllLong n sss

long_append : (n : ℕ) (a b : List (List ℤ)) → AllLong n a → AllLong n b → AllLong n (a ++ b)
unfolding AllLong
long_append n [] b h g = g
long_append n (ss ∷ a) b h g = (h.0, long_append n a b h.1 g)

long_cons : (n : ℕ) (ss : List ℤ) → length ss ≡ n → (zs : List ℤ) → AllLong (suc n) (map (λ (s : ℤ). s ∷ ss) zs)
unfolding AllLong
long_cons n ss h [] = tt
long_cons n ss h (z ∷ zs) = (ap suc h, long_cons n ss h zs)

long_flat : (n : ℕ) (zs : List ℤ) (sss : List (List ℤ)) → AllLong n sss → AllLong (suc n) (flat_map (λ (ss : List ℤ). map (λ (s : ℤ). s ∷ ss) zs) sss)
unfolding AllLong
long_flat n zs [] h = tt
long_flat n zs (ss ∷ sss) h = long_append (suc n) (map (λ (s : ℤ). s ∷ ss) zs) (flat_map (λ (ts : List ℤ). map (λ (s : ℤ). s ∷ ts) zs) sss) (long_cons n ss h.0 zs) (long_flat n zs sss h.1)

subscripts_long : (axes : List Axis) → AllLong (length axes) (subscripts_of axes)
unfolding AllLong
subscripts_long [] = (refl, tt)
subscripts_long (a ∷ axes) = long_flat (length axes) (run a.lower a.extent) (subscripts_of axes) (subscripts_long axes)

-- the shape has n axes, if it is of the name
abbrev shape_has : List ℕ → ℕ → Shape → Bool
shape_has x n e = if bytes_eq x e.name then nat_eq (length e.axes) n else true

ranks_append : (x : List ℕ) (n : ℕ) (ks ls : List Key) → keys_have_rank ks x n ≡ true → keys_have_rank ls x n ≡ true → keys_have_rank (ks ++ ls) x n ≡ true
ranks_append x n [] ls h g = g
ranks_append x n (k ∷ ks) ls h g =
    let t : Bool = if bytes_eq x k.0 then nat_eq (length k.1) n else true in
    let p = and_parts t (keys_have_rank ks x n) h in
    and_from t (keys_have_rank (ks ++ ls) x n) p.0 (ranks_append x n ks ls p.1 g)

keys_long : (x : List ℕ) (n m : ℕ) (y : List ℕ) (sss : List (List ℤ)) → AllLong m sss → (bytes_eq x y ≡ true → m ≡ n) → keys_have_rank (map (λ (ss : List ℤ). (y, ss)) sss) x n ≡ true
unfolding AllLong
keys_long x n m y [] h g = refl
keys_long x n m y (ss ∷ sss) h g =
    and_from (if bytes_eq x y then nat_eq (length ss) n else true) (keys_have_rank (map (λ (ts : List ℤ). (y, ts)) sss) x n) (by_test (bytes_eq x y) g) (keys_long x n m y sss h.1 g)
  where
    by_test : (b : Bool) → (b ≡ true → m ≡ n) → (if b then nat_eq (length ss) n else true) ≡ true
    by_test true f = let i : m ≡ n = f refl in let j : length ss ≡ n = h.0 ∙ i in grind (arith, nat_tests)
    by_test false f = refl

rank_of_test : (x : List ℕ) (n : ℕ) (e : Shape) → shape_has x n e ≡ true → bytes_eq x e.name ≡ true → length e.axes ≡ n
rank_of_test x n e h g = by_test (bytes_eq x e.name) g h
  where
    by_test : (b : Bool) → b ≡ true → (if b then nat_eq (length e.axes) n else true) ≡ true → length e.axes ≡ n
    by_test true f i = grind (arith, nat_tests)
    by_test false f i = cc

keys_ranked : (x : List ℕ) (n : ℕ) (es : List Shape) → list_all (shape_has x n) es ≡ true → keys_have_rank (keys_of es) x n ≡ true
keys_ranked x n [] h = refl
keys_ranked x n (e ∷ es) h =
    let p = and_parts (shape_has x n e) (list_all (shape_has x n) es) h in
    ranks_append x n (keys_of_shape e) (keys_of es) (keys_long x n (length e.axes) e.name (subscripts_of e.axes) (subscripts_long e.axes) (rank_of_test x n e p.0)) (keys_ranked x n es p.1)

-- ---- the place of a scalar

map_some : (o : Option ℕ) → is_some o ≡ true → is_some (option_map suc o) ≡ true
map_some None h = cc
map_some (Some p) h = refl

cond_some : (b : Bool) (o : Option ℕ) → (b ≡ false → is_some o ≡ true) → is_some (cond b (Some 0) (option_map suc o)) ≡ true
cond_some true o h = refl
cond_some false o h = map_some o (h refl)

found_past : (test : Key → Bool) (ks ls : List Key) → is_some (first_at test ls) ≡ true → is_some (first_at test (ks ++ ls)) ≡ true
found_past test [] ls h = h
found_past test (k ∷ ks) ls h = cond_some (test k) (first_at test (ks ++ ls)) (λ e. found_past test ks ls h)

scalar_found : (x y : List ℕ) (axes : List Axis) (ls : List Key) → bytes_eq x y ≡ true → length axes ≡ 0 → is_some (first_at (same_key (x, [])) (map (λ (ss : List ℤ). (y, ss)) (subscripts_of axes) ++ ls)) ≡ true
scalar_found x y [] ls h e = cond_some (bytes_eq x y && true) (first_at (same_key (x, [])) ls) (λ f. (let g : (bytes_eq x y && true) ≡ true = and_from (bytes_eq x y) true h refl in let i : true ≡ false = sym g ∙ f in cc))
scalar_found x y (a ∷ axes) ls h e = absurd (omega arith)

scalar_placed : (x : List ℕ) (es : List Shape) → list_all (shape_has x 0) es ≡ true → list_any (λ (e : Shape). bytes_eq x e.name) es ≡ true → is_some (first_at (same_key (x, [])) (keys_of es)) ≡ true
scalar_placed x [] h g = cc
scalar_placed x (e ∷ es) h g = by_test (bytes_eq x e.name) refl g (λ i. scalar_placed x es p.1 i)
  where
    p : (shape_has x 0 e ≡ true) × (list_all (shape_has x 0) es ≡ true)
    p = and_parts (shape_has x 0 e) (list_all (shape_has x 0) es) h

    by_test : (b : Bool) → bytes_eq x e.name ≡ b → (b || list_any (λ (d : Shape). bytes_eq x d.name) es) ≡ true → (list_any (λ (d : Shape). bytes_eq x d.name) es ≡ true → is_some (first_at (same_key (x, [])) (keys_of es)) ≡ true)
        → is_some (first_at (same_key (x, [])) (keys_of_shape e ++ keys_of es)) ≡ true
    by_test true i f k = scalar_found x e.name e.axes (keys_of es) i (rank_of_test x 0 e p.0 i)
    by_test false i f k = found_past (same_key (x, [])) (keys_of_shape e) (keys_of es) (k f)

-- ---- with places for the names that have none

unfoldable pub is_there : List ℕ → List Shape → Bool
is_there x es = list_any (λ (e : Shape). bytes_eq x e.name) es

any_append_left : (x : List ℕ) (es fs : List Shape) → is_there x es ≡ true → is_there x (es ++ fs) ≡ true
unfolding is_there
any_append_left x [] fs h = cc
any_append_left x (e ∷ es) fs h = by_test (bytes_eq x e.name) h (λ g. any_append_left x es fs g)
  where
    by_test : (b : Bool) → (b || list_any (λ (d : Shape). bytes_eq x d.name) es) ≡ true → (list_any (λ (d : Shape). bytes_eq x d.name) es ≡ true → list_any (λ (d : Shape). bytes_eq x d.name) (es ++ fs) ≡ true)
        → (b || list_any (λ (d : Shape). bytes_eq x d.name) (es ++ fs)) ≡ true
    by_test true f g = refl
    by_test false f g = g f

any_last : (x : List ℕ) (es : List Shape) (e : Shape) → bytes_eq x e.name ≡ true → is_there x (es ++ e ∷ []) ≡ true
unfolding is_there
any_last x [] e h = or_left (bytes_eq x e.name) false h
any_last x (d ∷ es) e h = or_right (bytes_eq x d.name) (list_any (λ (c : Shape). bytes_eq x c.name) (es ++ e ∷ [])) (any_last x es e h)

all_last : (x : List ℕ) (n : ℕ) (es : List Shape) (e : Shape) → list_all (shape_has x n) es ≡ true → shape_has x n e ≡ true → list_all (shape_has x n) (es ++ e ∷ []) ≡ true
all_last x n [] e h g = and_from (shape_has x n e) true g refl
all_last x n (d ∷ es) e h g =
    let p = and_parts (shape_has x n d) (list_all (shape_has x n) es) h in
    and_from (shape_has x n d) (list_all (shape_has x n) (es ++ e ∷ [])) p.0 (all_last x n es e p.1 g)

-- shapes of a name of rank n: an array's is there
record Ranked (x : List ℕ) (n : ℕ) (es : List Shape) : Type 0 where
  all : list_all (shape_has x n) es ≡ true
  arrays : nat_eq n 0 ≡ false → is_there x es ≡ true

scalar_has : (x y : List ℕ) (n : ℕ) → (bytes_eq x y ≡ true → nat_eq n 0 ≡ true) → shape_has x n (scalar y) ≡ true
scalar_has x y n h = by_test (bytes_eq x y) h
  where
    turned : (m : ℕ) → nat_eq m 0 ≡ true → nat_eq 0 m ≡ true
    turned zero e = refl
    turned (suc m) e = grind (arith, nat_tests)

    by_test : (b : Bool) → (b ≡ true → nat_eq n 0 ≡ true) → (if b then nat_eq 0 n else true) ≡ true
    by_test true f = turned n (f refl)
    by_test false f = refl

ranked_laid : (x : List ℕ) (n : ℕ) (es : List Shape) (y : List ℕ) → Ranked x n es → Ranked x n (laid es (scalar y))
unfolding is_there
ranked_laid x n es y h = by_test (list_any (λ (e : Shape). bytes_eq y e.name) es) refl
  where
    apart : list_any (λ (e : Shape). bytes_eq y e.name) es ≡ false → bytes_eq x y ≡ true → nat_eq n 0 ≡ true
    apart f g = by_rank (nat_eq n 0) refl
      where
        by_rank : (b : Bool) → nat_eq n 0 ≡ b → b ≡ true
        by_rank true e = refl
        by_rank false e =
            let i : x ≡ y = (bytes_eq-Decides x y).0 g in
            let j : list_any (λ (d : Shape). bytes_eq y d.name) es ≡ true = subst (λ (z : List ℕ). list_any (λ (d : Shape). bytes_eq z d.name) es ≡ true) i (h.arrays e) in
            let k : true ≡ false = sym j ∙ f in cc

    by_test : (b : Bool) → list_any (λ (e : Shape). bytes_eq y e.name) es ≡ b → Ranked x n (cond b es (es ++ scalar y ∷ []))
    by_test true f = h
    by_test false f = record { all = all_last x n es (scalar y) h.all (scalar_has x y n (apart f)); arrays = λ e. any_append_left x es (scalar y ∷ []) (h.arrays e) }

pub there_laid : (x : List ℕ) (es : List Shape) (t : Shape) → is_there x es ≡ true → is_there x (laid es t) ≡ true
there_laid x es t h = by_test (list_any (λ (e : Shape). bytes_eq t.name e.name) es)
  where
    by_test : (b : Bool) → is_there x (cond b es (es ++ t ∷ [])) ≡ true
    by_test true = h
    by_test false = any_append_left x es (t ∷ []) h

pub itself_laid : (x : List ℕ) (es : List Shape) (t : Shape) → bytes_eq x t.name ≡ true → is_there x (laid es t) ≡ true
unfolding is_there
itself_laid x es t h = by_test (list_any (λ (e : Shape). bytes_eq t.name e.name) es) refl
  where
    by_test : (b : Bool) → list_any (λ (e : Shape). bytes_eq t.name e.name) es ≡ b → list_any (λ (e : Shape). bytes_eq x e.name) (cond b es (es ++ t ∷ [])) ≡ true
    by_test true f = subst (λ (z : List ℕ). list_any (λ (e : Shape). bytes_eq z e.name) es ≡ true) (sym ((bytes_eq-Decides x t.name).0 h)) f
    by_test false f = any_last x es (t) h

ranked_all : (x : List ℕ) (n : ℕ) (decls : List Decl) (es : List Shape) → Ranked x n es → Ranked x n (with_scalars es decls)
ranked_all x n [] es h = h
ranked_all x n (d ∷ decls) es h = ranked_all x n decls (laid es (scalar d.name)) (ranked_laid x n es d.name h)

there_all : (x : List ℕ) (decls : List Decl) (es : List Shape) → is_there x es ≡ true → is_there x (with_scalars es decls) ≡ true
there_all x [] es h = h
there_all x (d ∷ decls) es h = there_all x decls (laid es (scalar d.name)) (there_laid x es (scalar d.name) h)

declared_there : (x : List ℕ) (n : ℕ) (decls : List Decl) (es : List Shape) → has_declared_rank decls x n ≡ true → is_there x (with_scalars es decls) ≡ true
declared_there x n [] es h = cc
declared_there x n (d ∷ decls) es h = by_test (bytes_eq x d.name) (nat_eq (length d.dims) n) refl h (λ g. declared_there x n decls (laid es (scalar d.name)) g)
  where
    by_test : (a b : Bool) → bytes_eq x d.name ≡ a → ((a && b) || has_declared_rank decls x n) ≡ true → (has_declared_rank decls x n ≡ true → is_there x (with_scalars (laid es (scalar d.name)) decls) ≡ true)
        → is_there x (with_scalars (laid es (scalar d.name)) decls) ≡ true
    by_test true b e f g = there_all x decls (laid es (scalar d.name)) (itself_laid x es (scalar d.name) e)
    by_test false b e f g = g f

-- ---- what the shapes of a layout have

named_declared : (x : List ℕ) (n : ℕ) (decls : List Decl) → has_declared_rank decls x n ≡ true → has_name x (map (λ (d : Decl). d.name) decls) ≡ true
named_declared x n [] h = cc
named_declared x n (d ∷ decls) h = by_test (bytes_eq x d.name) (nat_eq (length d.dims) n) h (λ g. named_declared x n decls g)
  where
    by_test : (a b : Bool) → ((a && b) || has_declared_rank decls x n) ≡ true → (has_declared_rank decls x n ≡ true → has_name x (map (λ (e : Decl). e.name) decls) ≡ true) → (a || has_name x (map (λ (e : Decl). e.name) decls)) ≡ true
    by_test true b f g = refl
    by_test false b f g = g f

-- the declaration of a rank, and what holds of all declarations at it
at_declared : (x : List ℕ) (n : ℕ) (P : Type 0) (test : Decl → Bool) (decls : List Decl) → has_declared_rank decls x n ≡ true → list_all test decls ≡ true
    → ((d : Decl) → x ≡ d.name → length d.dims ≡ n → test d ≡ true → P) → P
at_declared x n P test [] h a f = cc
at_declared x n P test (d ∷ decls) h a f = by_test (bytes_eq x d.name) (nat_eq (length d.dims) n) refl refl h (λ g. at_declared x n P test decls g p.1 f)
  where
    p : (test d ≡ true) × (list_all test decls ≡ true)
    p = and_parts (test d) (list_all test decls) a

    by_test : (b c : Bool) → bytes_eq x d.name ≡ b → nat_eq (length d.dims) n ≡ c → ((b && c) || has_declared_rank decls x n) ≡ true → (has_declared_rank decls x n ≡ true → P) → P
    by_test true true e i k g = f d ((bytes_eq-Decides x d.name).0 e) (grind (arith, nat_tests)) p.0
    by_test true false e i k g = g k
    by_test false c e i k g = g k

shapes_ranked : (x : List ℕ) (n : ℕ) (decls : List Decl) → has_declared_rank decls x n ≡ true → (es : List Shape) → list_all (λ (s : Shape). list_all (has_rank_of s) decls) es ≡ true → list_all (shape_has x n) es ≡ true
shapes_ranked x n decls h [] a = refl
shapes_ranked x n decls h (s ∷ es) a =
    let p = and_parts (list_all (has_rank_of s) decls) (list_all (λ (t : Shape). list_all (has_rank_of t) decls) es) a in
    and_from (shape_has x n s) (list_all (shape_has x n) es) (at_declared x n (shape_has x n s ≡ true) (has_rank_of s) decls h p.0 here) (shapes_ranked x n decls h es p.1)
  where
    here : (d : Decl) → x ≡ d.name → length d.dims ≡ n → has_rank_of s d ≡ true → shape_has x n s ≡ true
    here d e i t = by_test (bytes_eq x s.name) refl
      where
        by_test : (b : Bool) → bytes_eq x s.name ≡ b → (if b then nat_eq (length s.axes) n else true) ≡ true
        by_test true g =
            let j : s.name ≡ d.name = sym ((bytes_eq-Decides x s.name).0 g) ∙ e in
            let k : bytes_eq s.name d.name ≡ true = (bytes_eq-Decides s.name d.name).1 j in
            ap (nat_eq (length s.axes)) (sym i) ∙ same (bytes_eq s.name d.name) k t
          where
            same : (c : Bool) → c ≡ true → (if c then nat_eq (length s.axes) (length d.dims) else true) ≡ true → nat_eq (length s.axes) (length d.dims) ≡ true
            same true l m = m
            same false l m = cc
        by_test false g = refl

array_there : (x : List ℕ) (n : ℕ) (decls : List Decl) (es : List Shape) → has_declared_rank decls x n ≡ true → list_all (has_array_shape es) decls ≡ true → nat_eq n 0 ≡ false → is_there x es ≡ true
unfolding is_there
array_there x n decls es h a e = at_declared x n (list_any (λ (s : Shape). bytes_eq x s.name) es ≡ true) (has_array_shape es) decls h a here
  where
    by_dims : (ds : List Dim) (y : List ℕ) → length ds ≡ n → (is_empty ds || list_any (λ (s : Shape). bytes_eq y s.name) es) ≡ true → list_any (λ (s : Shape). bytes_eq y s.name) es ≡ true
    by_dims [] y i t = let k : nat_eq n 0 ≡ true = ap (λ (m : ℕ). nat_eq m 0) (sym i) in let j : true ≡ false = sym k ∙ e in cc
    by_dims (d ∷ ds) y i t = t

    here : (d : Decl) → x ≡ d.name → length d.dims ≡ n → has_array_shape es d ≡ true → list_any (λ (s : Shape). bytes_eq x s.name) es ≡ true
    here d f i t = subst (λ (z : List ℕ). list_any (λ (s : Shape). bytes_eq z s.name) es ≡ true) (sym f) (by_dims d.dims d.name i t)

layout_ranks : (decls : List Decl) (shapes : List Shape) (pushed : List ℕ → Bool) → are_declared_shapes decls shapes ≡ true → (x : List ℕ) (n : ℕ) → has_declared_rank decls x n ≡ true → (names_at (opening_site decls shapes pushed)).has_rank x n ≡ true
unfolding is_there
layout_ranks decls shapes pushed h x n r =
    let p = and_parts (list_all (λ (s : Shape). list_all (has_rank_of s) decls) shapes) (list_all (has_array_shape shapes) decls) h in
    let es : List Shape = with_scalars shapes decls in
    let start : Ranked x n shapes = record { all = shapes_ranked x n decls r shapes p.0; arrays = array_there x n decls shapes r p.1 } in
    let end : Ranked x n es = ranked_all x n decls shapes start in
    let there : list_any (λ (e : Shape). bytes_eq x e.name) es ≡ true = declared_there x n decls shapes r in
    and_from (has_name x (map (λ (d : Decl). d.name) decls)) (keys_have_rank (keys_of es) x n && (not (nat_eq n 0) || is_some (first_at (same_key (x, [])) (keys_of es)))) (named_declared x n decls r)
    (and_from (keys_have_rank (keys_of es) x n) (not (nat_eq n 0) || is_some (first_at (same_key (x, [])) (keys_of es))) (keys_ranked x n es end.all) (by_rank n es there end.all))
  where
    by_rank : (m : ℕ) (es : List Shape) → list_any (λ (e : Shape). bytes_eq x e.name) es ≡ true → list_all (shape_has x m) es ≡ true → (not (nat_eq m 0) || is_some (first_at (same_key (x, [])) (keys_of es))) ≡ true
    by_rank zero es g a = scalar_placed x es a g
    by_rank (suc m) es g a = let e : nat_eq (suc m) 0 ≡ false = grind (arith, nat_tests) in rw e refl

pub entries_kinded : EntriesAreKinded
entries_kinded decls shapes pushed h body k =
    kinds_by_names (declared_names decls) (names_at (opening_site decls shapes pushed)) (λ x. refl) (layout_ranks decls shapes pushed h) body k

-- The places of a layout and those behind them: the names of scalars that have no place in it.
use Rattle.std.proofs.Common.{◌≡◌, ◌⊎◌, inl, inr, ℕ, zero, suc, ◌<◌, ◌≤◌, Bool, true, false, not, ◌&&◌, ◌||◌, cond, bytes_eq, List, [], ◌∷◌, ◌++◌, flat_map, map, length, Option, Some, None, refl, ap, sym, subst, ◌∙◌, append_assoc, arith}
use Rattle.std.specs.Prelude.{ℤ, option_map}
use Rattle.std.specs.List.{list_any}
use Rattle.std.proofs.lemmas.Bool.{or_parts, or_from, or_left, or_right, and_from}
use Rattle.std.proofs.lemmas.List.Folds.{list_any-append}
use Rattle.std.proofs.lemmas.List.Concat.{flat_map-append}
use Rattle.fl_ast.specs.declared.decl.Decl.{Decl}
use Rattle.fl_types.specs.Sharing.{has_name}
use Rattle.fl_types.specs.Declarations.{all_apart}
use Rattle.store_core.specs.declared.layout.Shape.{Shape}
use Rattle.store_core.specs.Keys.{subscripts_of, keys_of_shape, keys_of, same_key, first_at, laid_all, scalar, with_scalars}
use Rattle.meaning.specs.Sites.{Key}
use Rattle.transposition.specs.Worlds.{name_at}
use Rattle.transposition.proofs.Keys.{name_later}
use Rattle.sound_programs.specs.Accepted.{HasOnePlace}
use Rattle.sound_programs.proofs.Lists.{at_test, never, not_yes, by_cases, or_to, fails, same_name, itself}

abbrev pub is_laid : List ℕ → List Shape → Bool
is_laid x es = list_any (λ (e : Shape). bytes_eq x e.name) es

-- the names of declarations that have no place in the layout
abbrev pub extra : List Shape → List Decl → List (List ℕ)
extra es [] = []
extra es (d ∷ ds) = cond (is_laid d.name es) (extra es ds) (d.name ∷ extra (es ++ scalar d.name ∷ []) ds)

abbrev pub plain_key : List ℕ → Key
plain_key x = (x, [])

pub extra_keys : (ds : List Decl) (es : List Shape) → keys_of (with_scalars es ds) ≡ keys_of es ++ map plain_key (extra es ds)
extra_keys [] es = sym (Rattle.std.proofs.Common.append-nil (keys_of es))
extra_keys (d ∷ ds) es =
    at_test (λ b. keys_of (laid_all (cond b es (es ++ scalar d.name ∷ [])) (map (λ (e : Decl). scalar e.name) ds)) ≡ keys_of es ++ map
    plain_key (cond b (extra es ds) (d.name ∷ extra (es ++ scalar d.name ∷ []) ds))) (is_laid d.name es)
    (λ e. extra_keys ds es)
    (λ e.
    extra_keys ds (es ++ scalar d.name ∷ [])
    ∙ (ap (λ l. l ++ map plain_key (extra (es ++ scalar d.name ∷ []) ds)) (flat_map-append keys_of_shape es (scalar d.name ∷ []))
    ∙ append_assoc (keys_of es) (plain_key d.name ∷ []) (map plain_key (extra (es ++ scalar d.name ∷ []) ds))))

laid_more : (x y : List ℕ) (es : List Shape) → is_laid x (es ++ scalar y ∷ []) ≡ (is_laid x es || (bytes_eq x y || false))
laid_more x y es = list_any-append (λ (e : Shape). bytes_eq x e.name) es (scalar y ∷ [])

-- a declared name without a place in the layout is one of these
pub in_extra : (x : List ℕ) (ds : List Decl) (es : List Shape) → is_laid x es ≡ false → list_any (λ (d : Decl). bytes_eq x d.name) ds ≡ true
    → has_name x (extra es ds) ≡ true
in_extra x [] es f h = never false h refl
in_extra x (d ∷ ds) es f h =
    at_test (λ b. has_name x (cond b (extra es ds) (d.name ∷ extra (es ++ scalar d.name ∷ []) ds)) ≡ true) (is_laid d.name es)
    (λ e. or_to (bytes_eq x d.name) (list_any (λ (g : Decl). bytes_eq x g.name) ds)
    (λ k. never (is_laid x es) (ap (λ y. is_laid y es) (same_name x d.name k) ∙ e) f) (λ k. in_extra x ds es f k) h)
    (λ e.
    by_cases (bytes_eq x d.name) (λ k. or_left (bytes_eq x d.name) (has_name x (extra (es ++ scalar d.name ∷ []) ds)) k)
    (λ k. or_right (bytes_eq x d.name) (has_name x (extra (es ++ scalar d.name ∷ []) ds))
    (in_extra x ds (es ++ scalar d.name ∷ [])
    (laid_more x d.name es ∙ or_from (is_laid x es) (bytes_eq x d.name || false) f (or_from (bytes_eq x d.name) false k refl))
    (or_to (bytes_eq x d.name) (list_any (λ (g : Decl). bytes_eq x g.name) ds) (λ g. never (bytes_eq x d.name) g k) (λ g. g) h))))

-- and these have none
pub out_of_layout : (x : List ℕ) (ds : List Decl) (es : List Shape) → has_name x (extra es ds) ≡ true
    → (is_laid x es ≡ false) × (list_any (λ (d : Decl). bytes_eq x d.name) ds ≡ true)
out_of_layout x [] es h = never false h refl
out_of_layout x (d ∷ ds) es h =
    at_test (λ b. has_name x (cond b (extra es ds) (d.name ∷ extra (es ++ scalar d.name ∷ []) ds)) ≡ true → Out) (is_laid d.name es)
    (λ e k. later (out_of_layout x ds es k))
    (λ e k.
    or_to (bytes_eq x d.name) (has_name x (extra (es ++ scalar d.name ∷ []) ds))
    (λ g. (ap (λ y. is_laid y es) (same_name x d.name g) ∙ e, or_left (bytes_eq x d.name) (list_any (λ (g : Decl). bytes_eq x g.name) ds) g))
    (λ g. let r = out_of_layout x ds (es ++ scalar d.name ∷ []) g in later
    ((or_parts (is_laid x es) (bytes_eq x d.name || false) (sym (laid_more x d.name es) ∙ r.0)).0, r.1)) k) h
  where
    Out : Type 0
    Out = (is_laid x es ≡ false) × ((bytes_eq x d.name || list_any (λ (g : Decl). bytes_eq x g.name) ds) ≡ true)

    later : (is_laid x es ≡ false) × (list_any (λ (g : Decl). bytes_eq x g.name) ds ≡ true)
        → (is_laid x es ≡ false) × ((bytes_eq x d.name || list_any (λ (g : Decl). bytes_eq x g.name) ds) ≡ true)
    later r = (r.0, or_right (bytes_eq x d.name) (list_any (λ (g : Decl). bytes_eq x g.name) ds) r.1)

pub extra_apart : (ds : List Decl) (es : List Shape) → all_apart (extra es ds) ≡ true
extra_apart [] es = refl
extra_apart (d ∷ ds) es =
    at_test (λ b. all_apart (cond b (extra es ds) (d.name ∷ extra (es ++ scalar d.name ∷ []) ds)) ≡ true) (is_laid d.name es) (λ e. extra_apart ds es)
    (λ e. and_from (not (has_name d.name (extra (es ++ scalar d.name ∷ []) ds))) (all_apart (extra (es ++ scalar d.name ∷ []) ds))
    (ap not new) (extra_apart ds (es ++ scalar d.name ∷ [])))
  where
    new : has_name d.name (extra (es ++ scalar d.name ∷ []) ds) ≡ false
    new = fails (has_name d.name (extra (es ++ scalar d.name ∷ []) ds)) (λ h.
        let r = (out_of_layout d.name ds (es ++ scalar d.name ∷ []) h).0 in
        let k = or_parts (is_laid d.name es) (bytes_eq d.name d.name || false) (sym (laid_more d.name d.name es) ∙ r) in
        never (bytes_eq d.name d.name) (itself d.name) (or_parts (bytes_eq d.name d.name) false k.1).0)

-- ---- where a name stands alone

-- a name at a place of the list, or none
pub named_at : (xs : List (List ℕ)) (p : ℕ) → (name_at (map plain_key xs) p ≡ []) ⊎ (has_name (name_at (map plain_key xs) p) xs ≡ true)
named_at [] p = inl refl
named_at (y ∷ ys) zero = inr (or_left (bytes_eq y y) (has_name y ys) (itself y))
named_at (y ∷ ys) (suc p) = moved (named_at ys p)
  where
    later : name_at (plain_key y ∷ map plain_key ys) (suc p) ≡ name_at (map plain_key ys) p
    later = name_later (plain_key y) (map plain_key ys) p

    moved : (name_at (map plain_key ys) p ≡ []) ⊎ (has_name (name_at (map plain_key ys) p) ys ≡ true)
        → (name_at (plain_key y ∷ map plain_key ys) (suc p) ≡ []) ⊎ (has_name (name_at (plain_key y ∷ map plain_key ys) (suc p)) (y ∷ ys) ≡ true)
    moved (inl e) = inl (later ∙ e)
    moved (inr e) = inr (or_right (bytes_eq (name_at (plain_key y ∷ map plain_key ys) (suc p)) y)
        (has_name (name_at (plain_key y ∷ map plain_key ys) (suc p)) ys) (ap (λ z. has_name z ys) later ∙ e))

next_place : (b : Bool) (keys : List Key) (x : List ℕ) (q : ℕ) → b ≡ false → first_at (same_key (x, [])) keys ≡ Some q
    → cond b (Some 0) (option_map suc (first_at (same_key (x, [])) keys)) ≡ Some (suc q)
next_place true keys x q e h = never true refl e
next_place false keys x q e h = ap (option_map suc) h

no_key_here : (x : List ℕ) (k : Key) → bytes_eq x k.0 ≡ false → same_key (x, []) k ≡ false
no_key_here x k h = Rattle.std.proofs.lemmas.Bool.and_left (bytes_eq x k.0) _ h

-- behind a key of another name
behind : (k : Key) (keys : List Key) (n : ℕ) (x : List ℕ) → bytes_eq x k.0 ≡ false → HasOnePlace keys n x → HasOnePlace (k ∷ keys) (suc n) x
behind k keys n x f s = record {
  q = suc s.q;
  place = next_place (same_key (x, []) k) keys x s.q (no_key_here x k f) s.place;
  only = only;
  own =
      (let h : n ≤ s.q = s.own in omega arith);
}
  where
    only : (p : ℕ) → name_at (k ∷ keys) p ≡ x → p ≡ suc s.q
    only zero e = never (bytes_eq x k.0) (ap (bytes_eq x) e ∙ itself x) f
    only (suc p) e = ap suc (s.only p (sym (name_later k keys p) ∙ e))

first_place : (b : Bool) (o : Option ℕ) → b ≡ true → cond b (Some 0) o ≡ Some 0
first_place true o e = refl
first_place false o e = never false e refl

own_place : (x : List ℕ) (xs : List (List ℕ)) → (x ≡ [] → ⊥) → all_apart xs ≡ true → has_name x xs ≡ true → HasOnePlace (map plain_key xs) 0 x
own_place x [] solid a h = never false h refl
own_place x (y ∷ ys) solid a h =
    by_cases (bytes_eq x y) here (λ e. later e
    (own_place x ys solid parts.1 (or_to (bytes_eq x y) (has_name x ys) (λ g. never (bytes_eq x y) g e) (λ g. g) h)))
  where
    parts : (not (has_name y ys) ≡ true) × (all_apart ys ≡ true)
    parts = Rattle.std.proofs.lemmas.Bool.and_parts (not (has_name y ys)) (all_apart ys) a

    here : bytes_eq x y ≡ true → HasOnePlace (plain_key y ∷ map plain_key ys) 0 x
    here e = record { q = 0; place = first_place (bytes_eq x y && true) _ (and_from (bytes_eq x y) true e refl); only = only; own = (omega arith) }
      where
        only : (p : ℕ) → name_at (plain_key y ∷ map plain_key ys) p ≡ x → p ≡ 0
        only zero g = refl
        only (suc p) g = absurd (by_name (named_at ys p))
          where
            later_name : name_at (map plain_key ys) p ≡ x
            later_name = sym (name_later (plain_key y) (map plain_key ys) p) ∙ g

            by_name : (name_at (map plain_key ys) p ≡ []) ⊎ (has_name (name_at (map plain_key ys) p) ys ≡ true) → ⊥
            by_name (inl k) = solid (sym later_name ∙ k)
            by_name (inr k) = never (has_name y ys)
                (ap (λ z. has_name z ys) (sym (same_name x y e)) ∙ (ap (λ z. has_name z ys) (sym later_name) ∙ k)) (not_yes (has_name y ys) parts.0)

    later : bytes_eq x y ≡ false → HasOnePlace (map plain_key ys) 0 x → HasOnePlace (plain_key y ∷ map plain_key ys) 0 x
    later e t = let s = behind (plain_key y) (map plain_key ys) 0 x e t in record { q = s.q; place = s.place; only = s.only; own = (omega arith) }

pub stands_behind : (x : List ℕ) (ks keys : List Key) → list_any (λ (k : Key). bytes_eq x k.0) ks ≡ false → HasOnePlace keys 0 x
    → HasOnePlace (ks ++ keys) (length ks) x
stands_behind x [] keys f s = s
stands_behind x (k ∷ ks) keys f s =
    let r = or_parts (bytes_eq x k.0) (list_any (λ (g : Key). bytes_eq x g.0) ks) f in
    behind k (ks ++ keys) (length ks) x r.0 (stands_behind x ks keys r.1 s)

-- ---- the names of keys

none_of_name : (x y : List ℕ) (l : List (List ℤ)) → bytes_eq x y ≡ false → list_any (λ (k : Key). bytes_eq x k.0) (map (λ ss. (y, ss)) l) ≡ false
none_of_name x y [] f = refl
none_of_name x y (ss ∷ l) f = or_from (bytes_eq x y) (list_any (λ (k : Key). bytes_eq x k.0) (map (λ ts. (y, ts)) l)) f (none_of_name x y l f)

pub no_key : (x : List ℕ) (es : List Shape) → is_laid x es ≡ false → list_any (λ (k : Key). bytes_eq x k.0) (keys_of es) ≡ false
no_key x [] h = refl
no_key x (e ∷ es) h =
    let r = or_parts (bytes_eq x e.name) (is_laid x es) h in
    list_any-append (λ (k : Key). bytes_eq x k.0) (keys_of_shape e) (keys_of es)
    ∙ or_from (list_any (λ (k : Key). bytes_eq x k.0) (keys_of_shape e)) (list_any (λ (k : Key). bytes_eq x k.0) (keys_of es))
    (none_of_name x e.name (subscripts_of e.axes) r.0) (no_key x es r.1)

-- a place below n has one of the first n keys' names
low_key : (ks keys : List Key) (q : ℕ) → q < length ks → list_any (λ (k : Key). bytes_eq (name_at (ks ++ keys) q) k.0) ks ≡ true
low_key [] keys q h = absurd (omega arith)
low_key (k ∷ ks) keys zero h = or_left (bytes_eq k.0 k.0) (list_any (λ (g : Key). bytes_eq k.0 g.0) ks) (itself k.0)
low_key (k ∷ ks) keys (suc q) h =
    or_right (bytes_eq (name_at (k ∷ (ks ++ keys)) (suc q)) k.0) (list_any (λ (g : Key). bytes_eq (name_at (k ∷ (ks ++ keys)) (suc q)) g.0) ks)
    (ap (λ y. list_any (λ (g : Key). bytes_eq y g.0) ks) (name_later k (ks ++ keys) q) ∙ low_key ks keys q (omega arith))

pub low_laid : (es : List Shape) (keys : List Key) (q : ℕ) → q < length (keys_of es) → is_laid (name_at (keys_of es ++ keys) q) es ≡ true
low_laid es keys q h =
    by_cases (is_laid (name_at (keys_of es ++ keys) q) es) (λ e. e)
    (λ e. never (list_any (λ (k : Key). bytes_eq (name_at (keys_of es ++ keys) q) k.0) (keys_of es)) (low_key (keys_of es) keys q h)
    (no_key (name_at (keys_of es ++ keys) q) es e))

pub high_name : (ks : List Key) (xs : List (List ℕ)) (q : ℕ) → length ks ≤ q
    → (name_at (ks ++ map plain_key xs) q ≡ []) ⊎ (has_name (name_at (ks ++ map plain_key xs) q) xs ≡ true)
high_name [] xs q h = named_at xs q
high_name (k ∷ ks) xs zero h = absurd (omega arith)
high_name (k ∷ ks) xs (suc q) h = moved (high_name ks xs q (omega arith))
  where
    later : name_at (k ∷ (ks ++ map plain_key xs)) (suc q) ≡ name_at (ks ++ map plain_key xs) q
    later = name_later k (ks ++ map plain_key xs) q

    moved : (name_at (ks ++ map plain_key xs) q ≡ []) ⊎ (has_name (name_at (ks ++ map plain_key xs) q) xs ≡ true)
        → (name_at (k ∷ (ks ++ map plain_key xs)) (suc q) ≡ []) ⊎ (has_name (name_at (k ∷ (ks ++ map plain_key xs)) (suc q)) xs ≡ true)
    moved (inl e) = inl (later ∙ e)
    moved (inr e) = inr (ap (λ z. has_name z xs) later ∙ e)

-- ---- in a layout with the scalars behind it

pub own_standing : (x : List ℕ) (ds : List Decl) (es : List Shape) → (x ≡ [] → ⊥) → is_laid x es ≡ false
    → list_any (λ (d : Decl). bytes_eq x d.name) ds ≡ true → HasOnePlace (keys_of (with_scalars es ds)) (length (keys_of es)) x
own_standing x ds es solid f h =
    subst (λ keys. HasOnePlace keys (length (keys_of es)) x) (sym (extra_keys ds es))
    (stands_behind x (keys_of es) (map plain_key (extra es ds)) (no_key x es f)
    (own_place x (extra es ds) solid (extra_apart ds es) (in_extra x ds es f h)))

pub low_name : (ds : List Decl) (es : List Shape) (q : ℕ) → q < length (keys_of es) → is_laid (name_at (keys_of (with_scalars es ds)) q) es ≡ true
low_name ds es q h = subst (λ keys. is_laid (name_at keys q) es ≡ true) (sym (extra_keys ds es)) (low_laid es (map plain_key (extra es ds)) q h)

pub high_unlaid : (ds : List Decl) (es : List Shape) (q : ℕ) → length (keys_of es) ≤ q
    → (name_at (keys_of (with_scalars es ds)) q ≡ []) ⊎
    ((is_laid (name_at (keys_of (with_scalars es ds)) q) es ≡ false) ×
    (list_any (λ (d : Decl). bytes_eq (name_at (keys_of (with_scalars es ds)) q) d.name) ds ≡ true))
high_unlaid ds es q h =
    subst (λ keys. (name_at keys q ≡ []) ⊎
    ((is_laid (name_at keys q) es ≡ false) × (list_any (λ (d : Decl). bytes_eq (name_at keys q) d.name) ds ≡ true)))
    (sym (extra_keys ds es)) (told (high_name (keys_of es) (extra es ds) q h))
  where
    told : (name_at (keys_of es ++ map plain_key (extra es ds)) q ≡ []) ⊎
        (has_name (name_at (keys_of es ++ map plain_key (extra es ds)) q) (extra es ds) ≡ true)
        → (name_at (keys_of es ++ map plain_key (extra es ds)) q ≡ []) ⊎
        ((is_laid (name_at (keys_of es ++ map plain_key (extra es ds)) q) es ≡ false) ×
        (list_any (λ (d : Decl). bytes_eq (name_at (keys_of es ++ map plain_key (extra es ds)) q) d.name) ds ≡ true))
    told (inl e) = inl e
    told (inr e) = inr (out_of_layout (name_at (keys_of es ++ map plain_key (extra es ds)) q) ds es e)

-- Members of sets, and what maps from names to declarations have.
use Rattle.std.proofs.Common.{◌≡◌, ℕ, Bool, true, false, not, ◌&&◌, ◌||◌, if◌then◌else◌, List, [], ◌∷◌, map, Option, Some, None, bytes_eq, cond, refl, sym, ap, ◌∙◌}
use Rattle.std.proofs.lemmas.Map.Text.{is_eq-slice_cmp}
use Rattle.std.proofs.lemmas.Slice.Eq.{bytes_eq-Decides}
use Rattle.std.specs.BTreeMap.{insert_entry}
use Rattle.std.specs.BTreeSet.{insert_key}
use Rattle.std.specs.Cmp.Lexicographic.{slice_cmp}
use Rattle.std.specs.List.{list_any}
use Rattle.std.specs.Map.{lookup}
use Rattle.std.specs.Map.Iter.{deref}
use Rattle.std.specs.Option.{option_copied}
use Rattle.std.specs.Ordering.{nat_cmp, is_eq, match_ordering}
use Rattle.std.specs.declared.cmp.Ordering.{Ordering}
use Rattle.std.specs.declared.cmp.Ordering.TheVariants.{Less, Equal, Greater}
use Rattle.fl_ast.specs.declared.decl.Decl.{Decl}
use Rattle.fl_types.specs.Sharing.{has_name}
use denote.Ref.{Bor}

abbrev pub Key : Type 0
Key = Bor (List ℕ)

-- the order of keys
abbrev pub by_bytes : Key → Key → Ordering
by_bytes a b = slice_cmp nat_cmp a.now b.now

pub members : (x : List ℕ) (ks : List Key) → list_any (λ k. is_eq (slice_cmp nat_cmp x k.now)) ks ≡ has_name x (map deref ks)
members x [] = refl
members x (k ∷ ks) =
    ap (λ b. b || list_any (λ j. is_eq (slice_cmp nat_cmp x j.now)) ks) (is_eq-slice_cmp x k.now)
    ∙ ap (λ b. bytes_eq x k.now || b) (members x ks)

pub swapped : (a b c : Bool) → (a || (b || c)) ≡ (b || (a || c))
swapped true true c = refl
swapped true false c = refl
swapped false b c = refl

-- keys that compare equal have the same bytes
same_key : (k y : Key) → Equal ≡ by_bytes k y → k.now ≡ y.now
same_key k y h = (bytes_eq-Decides k.now y.now).0 (sym (is_eq-slice_cmp k.now y.now) ∙ ap is_eq (sym h))

twice : (a b : Bool) → a ≡ b → (c : Bool) → (b || c) ≡ (a || (b || c))
twice true true h c = refl
twice true false h c = absurd (let f : true ≡ false = h in cc)
twice false b h c = refl

inserted_at : (x : List ℕ) (k y : Key) (ks : List Key) (o : Ordering) → o ≡ by_bytes k y
    → has_name x (map deref (insert_key by_bytes ks k)) ≡ (bytes_eq x k.now || has_name x (map deref ks))
    → has_name x (map deref (match_ordering o (k ∷ y ∷ ks) (y ∷ ks) (y ∷ insert_key by_bytes ks k))) ≡ (bytes_eq x k.now || (bytes_eq x y.now || has_name x (map deref ks)))
inserted_at x k y ks Less h i = refl
inserted_at x k y ks Equal h i = twice (bytes_eq x k.now) (bytes_eq x y.now) (ap (bytes_eq x) (same_key k y h)) (has_name x (map deref ks))
inserted_at x k y ks Greater h i = ap (λ b. bytes_eq x y.now || b) i ∙ swapped (bytes_eq x y.now) (bytes_eq x k.now) (has_name x (map deref ks))

pub inserted : (x : List ℕ) (k : Key) (ks : List Key) → has_name x (map deref (insert_key by_bytes ks k)) ≡ (bytes_eq x k.now || has_name x (map deref ks))
inserted x k [] = refl
inserted x k (y ∷ ks) = inserted_at x k y ks (by_bytes k y) refl (inserted x k ks)

-- ---- maps

abbrev pub Entry : Type 0
Entry = Key × Bor Decl

abbrev pub found_in : List ℕ → List Entry → Option Decl
found_in x es = option_copied (lookup (λ k. is_eq (slice_cmp nat_cmp x k.now)) es)

-- at one key or another
abbrev pub or_copied : Bool → Bor Decl → Option Decl → Option Decl
or_copied b d o = if b then Some d.now else o

found_head : (x : List ℕ) (e : Entry) (es : List Entry) → found_in x (e ∷ es) ≡ or_copied (bytes_eq x e.0.now) e.1 (found_in x es)
found_head x e es = by_test (is_eq (slice_cmp nat_cmp x e.0.now)) (bytes_eq x e.0.now) (is_eq-slice_cmp x e.0.now)
  where
    by_test : (a b : Bool) → a ≡ b → option_copied (cond a (Some e.1) (lookup (λ k. is_eq (slice_cmp nat_cmp x k.now)) es)) ≡ or_copied b e.1 (found_in x es)
    by_test true true h = refl
    by_test true false h = absurd (let f : true ≡ false = h in cc)
    by_test false true h = absurd (let f : true ≡ false = sym h in cc)
    by_test false false h = refl

either_key : (a b : Bool) → a ≡ b → (v w : Bor Decl) (o : Option Decl) → or_copied b v o ≡ or_copied a v (or_copied b w o)
either_key true true h v w o = refl
either_key true false h v w o = absurd (let f : true ≡ false = h in cc)
either_key false true h v w o = absurd (let f : true ≡ false = sym h in cc)
either_key false false h v w o = refl

-- no bytes are those of two keys that differ
apart : (x k y : List ℕ) (a b : Bool) → bytes_eq x k ≡ a → bytes_eq x y ≡ b → bytes_eq k y ≡ false → (v w : Bor Decl) (o : Option Decl) → or_copied b w (or_copied a v o) ≡ or_copied a v (or_copied b w o)
apart x k y true true h i n v w o =
    let e : k ≡ y = sym ((bytes_eq-Decides x k).0 h) ∙ (bytes_eq-Decides x y).0 i in
    absurd (let f : true ≡ false = sym ((bytes_eq-Decides k y).1 e) ∙ n in cc)
apart x k y true false h i n v w o = refl
apart x k y false true h i n v w o = refl
apart x k y false false h i n v w o = refl

put_at : (x : List ℕ) (k : Key) (v : Bor Decl) (e : Entry) (es : List Entry) (o : Ordering) → o ≡ by_bytes k e.0
    → found_in x (insert_entry by_bytes es k v) ≡ or_copied (bytes_eq x k.now) v (found_in x es)
    → found_in x (match_ordering o ((k, v) ∷ e ∷ es) ((e.0, v) ∷ es) (e ∷ insert_entry by_bytes es k v)) ≡ or_copied (bytes_eq x k.now) v (found_in x (e ∷ es))
put_at x k v e es Less h i = found_head x (k, v) (e ∷ es)
put_at x k v e es Equal h i =
    found_head x (e.0, v) es
    ∙ (either_key (bytes_eq x k.now) (bytes_eq x e.0.now) (ap (bytes_eq x) (same_key k e.0 h)) v e.1 (found_in x es)
    ∙ ap (or_copied (bytes_eq x k.now) v) (sym (found_head x e es)))
put_at x k v e es Greater h i =
    found_head x e (insert_entry by_bytes es k v)
    ∙ (ap (or_copied (bytes_eq x e.0.now) e.1) i
    ∙ (apart x k.now e.0.now (bytes_eq x k.now) (bytes_eq x e.0.now) refl refl (sym (is_eq-slice_cmp k.now e.0.now) ∙ ap is_eq (sym h)) v e.1 (found_in x es)
    ∙ ap (or_copied (bytes_eq x k.now) v) (sym (found_head x e es))))

pub put : (x : List ℕ) (k : Key) (v : Bor Decl) (es : List Entry) → found_in x (insert_entry by_bytes es k v) ≡ or_copied (bytes_eq x k.now) v (found_in x es)
put x k v [] = found_head x (k, v) []
put x k v (e ∷ es) = put_at x k v e es (by_bytes k e.0) refl (put x k v es)

-- ---- names that aren't among others

-- one that is among them adds nothing
pub old_name : (x n : List ℕ) (others : List (List ℕ)) (k : Bool) → has_name n others ≡ true → k ≡ ((bytes_eq x n && not (has_name x others)) || k)
old_name x n others k h = by_name (bytes_eq x n) refl
  where
    by_name : (b : Bool) → bytes_eq x n ≡ b → k ≡ ((b && not (has_name x others)) || k)
    by_name true e =
        let o : has_name x others ≡ true = ap (λ y. has_name y others) ((bytes_eq-Decides x n).0 e) ∙ h in
        ap (λ b. (not b) || k) (sym o)
    by_name false e = refl

pub new_name : (x n : List ℕ) (others : List (List ℕ)) (k : Bool) → has_name n others ≡ false → (bytes_eq x n || k) ≡ ((bytes_eq x n && not (has_name x others)) || k)
new_name x n others k h = by_name (bytes_eq x n) refl
  where
    by_name : (b : Bool) → bytes_eq x n ≡ b → (b || k) ≡ ((b && not (has_name x others)) || k)
    by_name true e =
        let o : has_name x others ≡ false = ap (λ y. has_name y others) ((bytes_eq-Decides x n).0 e) ∙ h in
        ap (λ b. (not b) || k) (sym o)
    by_name false e = refl

pub spread : (b h o k : Bool) → ((h && not o) || ((b && not o) || k)) ≡ (((b || h) && not o) || k)
spread true true true k = refl
spread true true false k = refl
spread true false true k = refl
spread true false false k = refl
spread false true true k = refl
spread false true false k = refl
spread false false o k = refl

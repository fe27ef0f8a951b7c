-- What is reached by positions is reached by names.
use Rattle.std.proofs.Common.{◌≡◌, ◌<◌, ◌⊎◌, inl, inr, ℕ, zero, suc, ◌+◌, Bool, true, false, cond, ◌||◌, List, [], ◌∷◌, length, slice_index_or, filter, bytes_eq, Option, Some, None, refl, ap, sym, subst, ◌∙◌, arith}
use Rattle.std.specs.List.{list_any, filter_map, cons_option, position_from}
use Rattle.std.proofs.lemmas.Bool.{and_parts}
use Rattle.std.proofs.lemmas.List.Quantifiers.{position-Some}
use Rattle.std.proofs.lemmas.Iterator.Adapters.{position_from-zero}
use Rattle.std.proofs.lemmas.Slice.Eq.{bytes_eq-Decides}
use Rattle.fl_ast.specs.declared.decl.Decl.{Decl}
use Rattle.reachability.specs.declared.closing.Link.{Link}
use Rattle.reachability.specs.Reached.{Edge, IsReached, root, onward, IsAmong, Joins, Leads}
use Rattle.reachability.proofs.Marks.{never}
use Rattle.reachability.specs.Named.{has_the_name, is_declared, are_both_declared, IsReachedName, index_in, link_between, link_in, indexes_of, links_of}

-- ---- lists

pub kept_by : {X : Type 0} (p : X → Bool) (xs : List X) (x : X) → IsAmong xs x → p x ≡ true → IsAmong (filter p xs) x
kept_by p [] x h t = absurd h
kept_by p (y ∷ ys) x (inl f) t = rw (ap p f ∙ t) (inl f)
kept_by p (y ∷ ys) x (inr g) t = by_test (p y) (kept_by p ys x g t)
  where
    by_test : (b : Bool) → IsAmong (filter p ys) x → IsAmong (cond b (y ∷ filter p ys) (filter p ys)) x
    by_test true h = inr h
    by_test false h = h

pub kept_from : {X : Type 0} (p : X → Bool) (xs : List X) (x : X) → IsAmong (filter p xs) x → IsAmong xs x × (p x ≡ true)
kept_from p [] x h = absurd h
kept_from p (y ∷ ys) x h = by_test (p y) refl (kept_from p ys x) h
  where
    by_test : (b : Bool) → p y ≡ b → (IsAmong (filter p ys) x → IsAmong ys x × (p x ≡ true)) → IsAmong (cond b (y ∷ filter p ys) (filter p ys)) x
        → ((y ≡ x) ⊎ IsAmong ys x) × (p x ≡ true)
    by_test true e f (inl g) = (inl g, ap p (sym g) ∙ e)
    by_test true e f (inr g) = (inr (f g).0, (f g).1)
    by_test false e f g = (inr (f g).0, (f g).1)

pub mapped_in : {X Y : Type 0} (h : X → Option Y) (xs : List X) (x : X) (y : Y) → IsAmong xs x → h x ≡ Some y → IsAmong (filter_map h xs) y
mapped_in h [] x y a e = absurd a
mapped_in h (z ∷ zs) x y (inl f) e = rw (ap h f ∙ e) (inl refl)
mapped_in {Y = Y} h (z ∷ zs) x y (inr g) e = later (h z) (mapped_in h zs x y g e)
  where
    later : (o : Option Y) → IsAmong (filter_map h zs) y → IsAmong (cons_option o (filter_map h zs)) y
    later None a = a
    later (Some w) a = inr a

pub mapped_from : {X Y : Type 0} (h : X → Option Y) (xs : List X) (y : Y) → IsAmong (filter_map h xs) y → (x : X) × IsAmong xs x × (h x ≡ Some y)
mapped_from h [] y a = absurd a
mapped_from {X = X} {Y = Y} h (z ∷ zs) y a = by_head (h z) refl (mapped_from h zs y) a
  where
    by_head : (o : Option Y) → h z ≡ o → (IsAmong (filter_map h zs) y → (x : X) × IsAmong zs x × (h x ≡ Some y)) → IsAmong (cons_option o (filter_map h zs)) y
        → (x : X) × ((z ≡ x) ⊎ IsAmong zs x) × (h x ≡ Some y)
    by_head None e f a = let r = f a in (r.0, inr r.1, r.2)
    by_head (Some w) e f (inl g) = (z, inl refl, e ∙ ap Some g)
    by_head (Some w) e f (inr g) = let r = f g in (r.0, inr r.1, r.2)

-- ---- positions

equal_bytes : (a b : List ℕ) → bytes_eq a b ≡ true → a ≡ b
equal_bytes a b h = (bytes_eq-Decides a b).0 h

found_from : {X : Type 0} (p : X → Bool) (xs : List X) (n : ℕ) → list_any p xs ≡ true → (i : ℕ) × (position_from p n xs ≡ Some i)
found_from p [] n h = absurd (never h)
found_from p (x ∷ xs) n h = by_test (p x) h (found_from p xs (n + 1))
  where
    by_test : (b : Bool) → (b || list_any p xs) ≡ true → (list_any p xs ≡ true → (i : ℕ) × (position_from p (n + 1) xs ≡ Some i))
        → (i : ℕ) × (cond b (Some n) (position_from p (n + 1) xs) ≡ Some i)
    by_test true h f = (n, refl)
    by_test false h f = f h

pub declared_index : (decls : List Decl) (x : List ℕ) → is_declared decls x ≡ true → (i : ℕ) × (index_in decls x ≡ Some i)
declared_index decls x h = let r = found_from (has_the_name x) decls 0 h in (r.0, position_from-zero (has_the_name x) decls ∙ r.1)

any_at : {X : Type 0} (p : X → Bool) (xs : List X) (i : ℕ) (d : X) → i < length xs → p (slice_index_or xs i d) ≡ true → list_any p xs ≡ true
any_at p [] i d b h = absurd (omega (arith, b))
any_at p (x ∷ xs) zero d b h = rw h refl
any_at p (x ∷ xs) (suc i) d b h = by_test (p x) (any_at p xs i d (omega (arith, b)) h)
  where
    by_test : (b : Bool) → list_any p xs ≡ true → (b || list_any p xs) ≡ true
    by_test true h = refl
    by_test false h = h

pub index_declared : (decls : List Decl) (x : List ℕ) (i : ℕ) → index_in decls x ≡ Some i → is_declared decls x ≡ true
index_declared [] x i e = absurd (grind (arith, e))
index_declared (d ∷ ds) x i e = let r = position-Some (has_the_name x) (d ∷ ds) i d e in any_at (has_the_name x) (d ∷ ds) i d r.0 r.1

pub index_name : (decls : List Decl) (x : List ℕ) (i : ℕ) (d : Decl) → index_in decls x ≡ Some i → (slice_index_or decls i d).name ≡ x
index_name decls x i d e = let r = position-Some (has_the_name x) decls i d e in equal_bytes (slice_index_or decls i d).name x r.1

pub index_within : (decls : List Decl) (x : List ℕ) (i : ℕ) (d : Decl) → index_in decls x ≡ Some i → i < length decls
index_within decls x i d e = (position-Some (has_the_name x) decls i d e).0

one_name : (decls : List Decl) (x y : List ℕ) (i : ℕ) (d : Decl) → index_in decls x ≡ Some i → index_in decls y ≡ Some i → x ≡ y
one_name decls x y i d e f = sym (index_name decls x i d e) ∙ index_name decls y i d f

-- ---- links

link_is : (decls : List Decl) (x y : List ℕ) (i j : ℕ) → index_in decls x ≡ Some i → index_in decls y ≡ Some j
    → link_in decls (record { tail = x; head = y }) ≡ Some (record { tail = i; head = j })
link_is decls x y i j e f = rw (e, f) refl

pub link_parts : (a b : Option ℕ) (i j : ℕ) → link_between a b ≡ Some (record { tail = i; head = j }) → (a ≡ Some i) × (b ≡ Some j)
link_parts None b i j e = absurd (grind (arith, e))
link_parts (Some a) None i j e = absurd (grind (arith, e))
link_parts (Some a) (Some b) i j e = (ap (tail_of a) e, ap (head_of b) e)
  where
    tail_of : ℕ → Option Link → Option ℕ
    tail_of n None = Some n
    tail_of n (Some l) = Some l.tail

    head_of : ℕ → Option Link → Option ℕ
    head_of n None = Some n
    head_of n (Some l) = Some l.head

-- ---- what is reached

abbrev pub IsReachedIndex : List Decl → List (List ℕ) → List (Edge (List ℕ)) → ℕ → Type 0
IsReachedIndex decls roots edges = IsReached (IsAmong (indexes_of decls roots)) (Leads (links_of decls edges))

pub to_index : (decls : List Decl) (roots : List (List ℕ)) (edges : List (Edge (List ℕ))) (x : List ℕ) → IsReachedName decls roots edges x
    → (i : ℕ) × (index_in decls x ≡ Some i) × IsReachedIndex decls roots edges i
to_index decls roots edges x (root _ h) =
    let k = kept_from (is_declared decls) roots x h in
    let n = declared_index decls x k.1 in
    (n.0, n.1, root n.0 (mapped_in (index_in decls) roots x n.0 k.0 n.1))
to_index decls roots edges y (onward x _ r l) =
    let n = to_index decls roots edges x r in
    let k = kept_from (are_both_declared decls) edges (record { tail = x; head = y }) l in
    let m = declared_index decls y (and_parts (is_declared decls x) (is_declared decls y) k.1).1 in
    (m.0, m.1, onward n.0 m.0 n.2 (mapped_in (link_in decls) edges (record { tail = x; head = y }) (record { tail = n.0; head = m.0 }) k.0 (link_is decls x y n.0 m.0 n.1 m.1)))

pub to_name : (decls : List Decl) (roots : List (List ℕ)) (edges : List (Edge (List ℕ))) (d : Decl) (i : ℕ) → IsReachedIndex decls roots edges i
    → (x : List ℕ) × (index_in decls x ≡ Some i) × IsReachedName decls roots edges x
to_name decls roots edges d i (root _ h) =
    let k = mapped_from (index_in decls) roots i h in
    (k.0, k.2, root k.0 (kept_by (is_declared decls) roots k.0 k.1 (index_declared decls k.0 i k.2)))
to_name decls roots edges d j (onward i _ r l) =
    let n = to_name decls roots edges d i r in
    let k = mapped_from (link_in decls) edges (record { tail = i; head = j }) l in
    let e = link_parts (index_in decls k.0.tail) (index_in decls k.0.head) i j k.2 in
    let same = one_name decls k.0.tail n.0 i d e.0 n.1 in (
      k.0.head,
      e.1,
      onward n.0 k.0.head n.2
          (subst (λ t. Joins (filter (are_both_declared decls) edges) t k.0.head) same
          (kept_by (are_both_declared decls) edges k.0 k.1 (rw (index_declared decls k.0.tail i e.0, index_declared decls k.0.head j e.1) refl))),
    )

-- Marks from lists, and lists from marks.
use Rattle.std.proofs.Common.{All, ◌≡◌, ◌<◌, ◌↔◌, ◌⊎◌, inl, inr, ℕ, ◌+◌, Bool, true, Some, Result, Ok, Err, IfOk, List, [], ◌∷◌, ◌++◌, length, slice_index_or, slice_set, take, ap, sym, subst, ◌∙◌, arith}
use Rattle.std.proofs.lemmas.List.{take_more, length-set, get_or_default}
use Rattle.fl_ast.specs.declared.decl.Decl.{Decl}
use Rattle.reachability.specs.declared.closing.Link.{Link}
use Rattle.reachability.specs.Reached.{Edge, IsAmong, IsMarked, IsReached, root, onward, Leads, AreWithin}
use Rattle.reachability.specs.Named.{index_in, link_in, indexes_of, links_of, IsNameAt, IsReachedName}
use Rattle.reachability.proofs.Marks.{among_at, marked_here, marked_still, marked_before}
use Rattle.reachability.proofs.Positions.{mapped_from, link_parts, to_index, to_name, index_name, index_within}

-- exactly the nodes of a list are marked
pub record Marked (count : ℕ) (nodes : List ℕ) (marks : List Bool) : Type 0 where
  pub long : length marks ≡ count
  pub marked : (i : ℕ) → IsMarked marks i ↔ IsAmong nodes i

-- exactly the names of the marked ones of the first n declarations are there
pub record Named (decls : List Decl) (marks : List Bool) (n : ℕ) (names : List (List ℕ)) : Type 0 where
  pub there : (i : ℕ) → i < n → IsMarked marks i → (d : Decl) → IsAmong names (slice_index_or decls i d).name
  pub only : (x : List ℕ) → IsAmong names x → (i : ℕ) × (i < n) × IsMarked marks i × ((d : Decl) → (slice_index_or decls i d).name ≡ x)

-- ---- joined lists

pub among_left : {X : Type 0} (xs ys : List X) (x : X) → IsAmong xs x → IsAmong (xs ++ ys) x
among_left [] ys x h = absurd h
among_left (z ∷ zs) ys x (inl e) = inl e
among_left (z ∷ zs) ys x (inr h) = inr (among_left zs ys x h)

pub among_right : {X : Type 0} (xs ys : List X) (x : X) → IsAmong ys x → IsAmong (xs ++ ys) x
among_right [] ys x h = h
among_right (z ∷ zs) ys x h = inr (among_right zs ys x h)

pub among_either : {X : Type 0} (xs ys : List X) (x : X) → IsAmong (xs ++ ys) x → IsAmong xs x ⊎ IsAmong ys x
among_either [] ys x h = inr h
among_either (z ∷ zs) ys x (inl e) = inl (inl e)
among_either (z ∷ zs) ys x (inr h) = elim (among_either zs ys x h) [ inl a ↦ inl (inr a) | inr b ↦ inr b ]

-- ---- marks

marked_with : (count : ℕ) (nodes : List ℕ) (marks : List Bool) (n : ℕ) → n < count → Marked count nodes marks → Marked count (nodes ++ n ∷ []) (slice_set marks n true)
marked_with count nodes marks n h m =
    let w = subst (λ k. n < k) (sym m.long) h in
    record {
      long = length-set marks n true ∙ m.long;
      marked = λ i. (
        λ y. elim (marked_before marks n i y) [
          | inl e ↦ among_right nodes (n ∷ []) i (inl (sym e))
          | inr z ↦ among_left nodes (n ∷ []) i ((m.marked i).0 z)
        ],
        λ y. elim (among_either nodes (n ∷ []) i y) [
          | inl a ↦ marked_still marks n i w ((m.marked i).1 a)
          | inr b ↦ elim b [
            | inl e ↦ subst (λ k. IsMarked (slice_set marks n true) k) e (marked_here marks n w)
            | inr x ↦ absurd x
          ]
        ],
      );
    }

pub marked_more : (count : ℕ) (nodes : List ℕ) (marks : List Bool) (k : ℕ) → k < length nodes → slice_index_or nodes k 0 < count
    → Marked count (take k nodes) marks → Marked count (take (k + 1) nodes) (slice_set marks (slice_index_or nodes k 0) true)
marked_more count nodes marks k h w m =
    subst (λ ns. Marked count ns (slice_set marks (slice_index_or nodes k 0) true)) (sym (take_more nodes k 0 h)) (marked_with count (take k nodes) marks (slice_index_or nodes k 0) w m)

-- ---- names

below_next : (k n : ℕ) → k < n + 1 → (k < n) ⊎ (k ≡ n)
below_next k n h = grind (arith, h)

pub named_on : (decls : List Decl) (marks : List Bool) (n : ℕ) (names new : List (List ℕ)) (d : Decl) → new ≡ names ++ (slice_index_or decls n d).name ∷ []
    → n < length decls → IsMarked marks n → Named decls marks n names → Named decls marks (n + 1) new
named_on decls marks n names new d s h m f = subst (λ ns. Named decls marks (n + 1) ns) (sym s) (record {
  there = λ i b y e. elim (below_next i n b) [
    | inl c ↦ among_left names _ _ (f.there i c y e)
    | inr c ↦ among_right names _ _ (inl (ap (λ x. x.name) (get_or_default decls n d e h ∙ ap (λ k. slice_index_or decls k e) (sym c))))
  ];
  only = λ x a. elim (among_either names _ x a) [
    | inl b ↦ let r = f.only x b in (r.0, omega (arith, r.1), r.2, r.3)
    | inr b ↦ elim b [
      | inl e ↦ (n, omega arith, m, λ o. ap (λ x. x.name) (get_or_default decls n o d h) ∙ e)
      | inr b2 ↦ absurd b2
    ]
  ];
})

pub named_past : (decls : List Decl) (marks : List Bool) (n : ℕ) (names new : List (List ℕ)) → new ≡ names
    → (IsMarked marks n → ⊥) → Named decls marks n names → Named decls marks (n + 1) new
named_past decls marks n names new s bare f = subst (λ ns. Named decls marks (n + 1) ns) (sym s) (record {
  there = λ i b y e. elim (below_next i n b) [
    | inl c ↦ f.there i c y e
    | inr c ↦ absurd (bare (subst (λ k. IsMarked marks k) c y))
  ];
  only = λ x a. let r = f.only x a in (r.0, omega (arith, r.1), r.2, r.3);
})

declaration : (decls : List Decl) (i : ℕ) → i < length decls → Decl
declaration [] i h = absurd (omega (arith, h))
declaration (d ∷ ds) i h = d

pub named_all : (decls : List Decl) (marks : List Bool) (n : ℕ) (names : List (List ℕ)) → n ≡ length decls → Named decls marks n names
    → (x : List ℕ) → IsAmong names x ↔ IsNameAt decls marks x
named_all decls marks n names e f x = (
  λ a. let r = f.only x a in (r.0, subst (λ k. r.0 < k) e r.1, r.2, r.3),
  λ r. let d = declaration decls r.0 r.1 in subst (λ y. IsAmong names y) (r.3 d) (f.there r.0 (subst (λ k. r.0 < k) (sym e) r.1) r.2 d),
)

-- ---- what is reached

mapped_roots : {X : Type 0} (P Q : X → Type 0) (L : X → X → Type 0) → ((x : X) → P x → Q x) → (x : X) → IsReached P L x → IsReached Q L x
mapped_roots P Q L f x (root _ h) = root x (f x h)
mapped_roots P Q L f x (onward y _ r l) = onward y x (mapped_roots P Q L f y r) l

pub some_declaration : (decls : List Decl) (x : List ℕ) (i : ℕ) → index_in decls x ≡ Some i → Decl
some_declaration [] x i e = absurd (grind (arith, e))
some_declaration (d ∷ ds) x i e = d

pub names_reached : (decls : List Decl) (roots : List ℕ) (links : List Link) (before marks : List Bool) (rs : List (List ℕ)) (es : List (Edge (List ℕ)))
    → roots ≡ indexes_of decls rs → links ≡ links_of decls es
    → ((i : ℕ) → IsMarked before i ↔ IsAmong roots i)
    → ((i : ℕ) → IsMarked marks i ↔ IsReached (IsMarked before) (Leads links) i)
    → (x : List ℕ) → IsNameAt decls marks x ↔ IsReachedName decls rs es x
names_reached decls roots links before marks rs es r l m f x = (
  λ a.
      let d = declaration decls a.0 a.1 in
      let i = mapped_roots (IsMarked before) (IsAmong roots) (Leads links) (λ k. (m k).0) a.0 ((f a.0).0 a.2) in
      let n = to_name decls rs es d a.0 (subst (λ k. IsReached (IsAmong (indexes_of decls rs)) (Leads k) a.0) l (subst (λ k. IsReached (IsAmong k) (Leads links) a.0) r i)) in
      subst (λ y. IsReachedName decls rs es y) (sym (index_name decls n.0 a.0 d n.1) ∙ a.3 d) n.2,
  λ a.
      let n = to_index decls rs es x a in
      let i = subst (λ k. IsReached (IsAmong k) (Leads links) n.0) (sym r) (subst (λ k. IsReached (IsAmong (indexes_of decls rs)) (Leads k) n.0) (sym l) n.2) in
      let k = (f n.0).1 (mapped_roots (IsAmong roots) (IsMarked before) (Leads links) (λ j. (m j).1) n.0 i) in
      (n.0, index_within decls x n.0 (some_declaration decls x n.0 n.1) n.1, k, λ d. index_name decls x n.0 d n.1),
)

pub on_if_ok : {A E : Type 0} {P Q : A → Type 0} (r : Result A E) → ((v : A) → P v → Q v) → IfOk r P → IfOk r Q
on_if_ok (Ok v) f p = f v p
on_if_ok (Err e) f p = tt

pub both_ways : {A B C : Type 0} → A ↔ B → B ↔ C → A ↔ C
both_ways f g = (λ a. g.0 (f.0 a), λ c. f.1 (g.1 c))

-- ---- within bounds

pub indexes_within : (decls : List Decl) (xs : List (List ℕ)) → All (λ i. i < length decls) (indexes_of decls xs)
indexes_within decls xs k d h =
    let m = mapped_from (index_in decls) xs (slice_index_or (indexes_of decls xs) k d) (among_at (indexes_of decls xs) k d h) in
    index_within decls m.0 (slice_index_or (indexes_of decls xs) k d) (some_declaration decls m.0 (slice_index_or (indexes_of decls xs) k d) m.2) m.2

pub links_within : (decls : List Decl) (es : List (Edge (List ℕ))) → AreWithin (length decls) (links_of decls es)
links_within decls es k d h =
    let l = slice_index_or (links_of decls es) k d in
    let m = mapped_from (link_in decls) es l (among_at (links_of decls es) k d h) in
    let e = link_parts (index_in decls m.0.tail) (index_in decls m.0.head) l.tail l.head m.2 in
    (index_within decls m.0.tail l.tail (some_declaration decls m.0.tail l.tail e.0) e.0, index_within decls m.0.head l.head (some_declaration decls m.0.head l.head e.1) e.1)

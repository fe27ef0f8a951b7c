-- Marks as edges are followed.
use Rattle.std.proofs.Common.{◌≡◌, ◌<◌, ◌⊎◌, replicate, inl, inr, ◌≢◌, ℕ, zero, suc, ◌+◌, Bool, true, false, cond, List, [], ◌∷◌, length, length-set, slice_index_or, slice_set, refl, ap, sym, subst, ◌∙◌, arith}
use Rattle.std.proofs.lemmas.Bool.{cases_eq}
use Rattle.std.proofs.lemmas.List.{get_or_default, get_or-set_same, get_or-set_other}
use Rattle.reachability.specs.declared.closing.Link.{Link}
use Rattle.reachability.specs.Reached.{IsReached, root, onward, IsAmong, IsMarked, is_marked, Leads, AreWithin}

-- the edges before the n-th have been followed from a node
pub record Following (links : List Link) (at n : ℕ) (before marks : List Bool) : Type 0 where
  pub long : length marks ≡ length before
  pub kept : (i : ℕ) → IsMarked before i → IsMarked marks i
  pub heads : (k : ℕ) → k < n → (d : Link) → (slice_index_or links k d).tail ≡ at → IsMarked marks (slice_index_or links k d).head
  pub only : (i : ℕ) → IsMarked marks i → IsMarked before i ⊎ Leads links at i

-- what is done is marked, and so are the heads of its edges
pub record Closing (links : List Link) (before marks done : List Bool) : Type 0 where
  pub long : length marks ≡ length before
  pub wide : length done ≡ length before
  pub kept : (i : ℕ) → IsMarked before i → IsMarked marks i
  pub heads : (k : ℕ) → k < length links → (d : Link) → IsMarked done (slice_index_or links k d).tail → IsMarked marks (slice_index_or links k d).head
  pub sound : (i : ℕ) → IsMarked marks i → IsReached (IsMarked before) (Leads links) i

abbrev pub undone : Bool → ℕ
undone d = cond d 0 1

-- ---- elements of a list

pub among_at : {X : Type 0} (xs : List X) (k : ℕ) (d : X) → k < length xs → IsAmong xs (slice_index_or xs k d)
among_at [] k d h = absurd (omega (arith, h))
among_at (x ∷ xs) zero d h = inl refl
among_at (x ∷ xs) (suc k) d h = inr (among_at xs k d (omega (arith, h)))

pub at_among : {X : Type 0} (xs : List X) (x d : X) → IsAmong xs x → (k : ℕ) × (k < length xs) × (slice_index_or xs k d ≡ x)
at_among [] x d h = absurd h
at_among (y ∷ ys) x d (inl e) = (0, omega arith, e)
at_among (y ∷ ys) x d (inr h) = let r = at_among ys x d h in (suc r.0, omega (arith, r.1), r.2)

-- ---- a mark more

pub never : false ≡ true → ⊥
never e = grind (arith, e)

pub marked_within : (marks : List Bool) (i : ℕ) → IsMarked marks i → i < length marks
marked_within [] i m = absurd (never m)
marked_within (b ∷ bs) zero m = omega arith
marked_within (b ∷ bs) (suc i) m = let h = marked_within bs i m in omega (arith, h)

pub marked_here : (marks : List Bool) (i : ℕ) → i < length marks → IsMarked (slice_set marks i true) i
marked_here marks i h = get_or-set_same marks i true false h

pub marked_still : (marks : List Bool) (i j : ℕ) → i < length marks → IsMarked marks j → IsMarked (slice_set marks i true) j
marked_still marks i j h m = elim (cases_eq j i) [
  | inl e ↦ subst (λ k. IsMarked (slice_set marks i true) k) (sym e) (marked_here marks i h)
  | inr n ↦ get_or-set_other marks i j true false n ∙ m
]

pub marked_before : (marks : List Bool) (i j : ℕ) → IsMarked (slice_set marks i true) j → (j ≡ i) ⊎ IsMarked marks j
marked_before marks i j m = elim (cases_eq j i) [
  | inl e ↦ inl e
  | inr n ↦ inr (sym (get_or-set_other marks i j true false n) ∙ m)
]

below_next : (k n : ℕ) → k < n + 1 → (k < n) ⊎ (k ≡ n)
below_next k n h = grind (arith, h)

leads_at : (links : List Link) (n : ℕ) (l : Link) (at : ℕ) → n < length links → (slice_index_or links n l).tail ≡ at → Leads links at (slice_index_or links n l).head
leads_at links n l at h t = subst (λ a. IsAmong links (record { tail = a; head = (slice_index_or links n l).head })) t (among_at links n l h)

same_link : (links : List Link) (n k : ℕ) (l d : Link) → n < length links → k ≡ n → slice_index_or links k d ≡ slice_index_or links n l
same_link links n k l d h kn = ap (λ m. slice_index_or links m d) kn ∙ get_or_default links n d l h

-- an edge from elsewhere
pub passed : (links : List Link) (at n : ℕ) (before marks new : List Bool) (l : Link) → new ≡ marks → n < length links → (slice_index_or links n l).tail ≢ at
    → Following links at n before marks → Following links at (n + 1) before new
passed links at n before marks new l s h t f = subst (λ m. Following links at (n + 1) before m) (sym s) (record {
  long = f.long;
  kept = f.kept;
  heads = λ k b d m. elim (below_next k n b) [
    | inl c ↦ f.heads k c d m
    | inr c ↦ absurd (t (ap (λ x. x.tail) (sym (same_link links n k l d h c)) ∙ m))
  ];
  only = f.only;
})

-- an edge from the node
pub followed : (links : List Link) (at n : ℕ) (before marks new : List Bool) (l : Link) → new ≡ slice_set marks (slice_index_or links n l).head true
    → n < length links → (slice_index_or links n l).tail ≡ at
    → AreWithin (length before) links → Following links at n before marks → Following links at (n + 1) before new
followed links at n before marks new l s h t within f =
    let w = subst (λ m. (slice_index_or links n l).head < m) (sym f.long) (within n l h).1 in
    let e = slice_index_or links n l in
    subst (λ m. Following links at (n + 1) before m) (sym s) (record {
      long = length-set marks e.head true ∙ f.long;
      kept = λ i m. marked_still marks e.head i w (f.kept i m);
      heads = λ k b d m. elim (below_next k n b) [
        | inl c ↦ marked_still marks e.head _ w (f.heads k c d m)
        | inr c ↦ subst (λ x. IsMarked (slice_set marks e.head true) x) (ap (λ x. x.head) (sym (same_link links n k l d h c))) (marked_here marks e.head w)
      ];
      only = λ i m. elim (marked_before marks e.head i m) [
        | inl c ↦ inr (subst (λ x. Leads links at x) (sym c) (leads_at links n l at h t))
        | inr c ↦ f.only i c
      ];
    })

-- ---- a node more is done

-- nothing is done yet
pub opened : (links : List Link) (marks done : List Bool) → length done ≡ length marks → ((i : ℕ) → is_marked done i ≡ false) → Closing links marks marks done
opened links marks done w none = record {
  long = refl;
  wide = w;
  kept = λ i m. m;
  heads = λ k b d m. absurd (never (sym (none _) ∙ m));
  sound = λ i m. root i m;
}

pub closed_on : (links : List Link) (before marks done new : List Bool) (at : ℕ) → at < length done → IsMarked marks at
    → length new ≡ length marks
    → ((i : ℕ) → IsMarked marks i → IsMarked new i)
    → ((k : ℕ) → k < length links → (d : Link) → (slice_index_or links k d).tail ≡ at → IsMarked new (slice_index_or links k d).head)
    → ((i : ℕ) → IsMarked new i → IsMarked marks i ⊎ Leads links at i)
    → Closing links before marks done → Closing links before new (slice_set done at true)
closed_on links before marks done new at h m w kept heads only c = record {
  long = w ∙ c.long;
  wide = length-set done at true ∙ c.wide;
  kept = λ i b. kept i (c.kept i b);
  heads = λ k b d y. elim (marked_before done at _ y) [
    | inl e ↦ heads k b d e
    | inr y2 ↦ kept _ (c.heads k b d y2)
  ];
  sound = λ i y. elim (only i y) [
    | inl z ↦ c.sound i z
    | inr z ↦ onward at i (c.sound at m) z
  ];
}

-- no mark
pub unmarked : (n i : ℕ) → is_marked (replicate n false) i ≡ false
unmarked zero i = refl
unmarked (suc n) zero = refl
unmarked (suc n) (suc i) = unmarked n i

-- nothing waits
pub closed : (links : List Link) (before marks done : List Bool) → AreWithin (length before) links → ((i : ℕ) → i < length marks → IsMarked marks i → IsMarked done i)
    → Closing links before marks done → (i : ℕ) → IsReached (IsMarked before) (Leads links) i → IsMarked marks i
closed links before marks done within none c i (root _ b) = c.kept i b
closed links before marks done within none c i (onward x _ r l) =
    let k = at_among links (record { tail = x; head = i }) (record { tail = x; head = i }) l in
    subst (λ y. IsMarked marks y) (ap (λ y. y.head) k.2)
    (c.heads k.0 k.1 _ (subst (λ y. IsMarked done y) (ap (λ y. y.tail) (sym k.2)) (none x (marked_within marks x (closed links before marks done within none c x r)) (closed links before marks done within none c x r))))

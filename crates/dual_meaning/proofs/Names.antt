-- The kinds of a table's names are those of the declarations.
use Rattle.std.specs.Prelude.{◌≡◌, ℕ, zero, suc, Bool, true, false, ◌||◌, if◌then◌else◌, cond, bytes_eq, List, [], ◌∷◌, ◌++◌, map, Option, Some, None, slice_get, is_some, refl}
use Rattle.std.proofs.Common.{ap, sym, ◌∙◌}
use Rattle.std.specs.List.{list_any}
use Rattle.std.proofs.lemmas.Slice.Eq.{bytes_eq-Decides}
use Rattle.fl_ast.specs.declared.kind.Kind.{Kind}
use Rattle.fl_ast.specs.declared.kind.Kind.TheVariants as kind
use Rattle.fl_ast.specs.declared.decl.Decl.{Decl}
use Rattle.fl_types.specs.Kinds.{has_declared_rank}
use Rattle.fl_types.specs.Sharing.{is_ring_kind, is_ring_name}
use Rattle.store_core.specs.declared.layout.Shape.{Shape}
use Rattle.store_core.specs.Keys.{slot_of, scalar, with_scalars, laid, laid_all, IsApart}
use Rattle.store_core.proofs.Slots.{slot_found, slot_missing}
use Rattle.resolved.specs.SlotTables.{kind_or, is_ring_at, is_ring_in, named_kind, kinds_of, names_of}

mapped : (f : Shape → Kind) (es : List Shape) (i : ℕ) (e : Shape) → slice_get es i ≡ Some e → slice_get (map f es) i ≡ Some (f e)
mapped f [] i e h = absurd (cc)
mapped f (x ∷ es) zero e h = let q : x ≡ e = cc in ap (λ y. Some (f y)) q
mapped f (x ∷ es) (suc i) e h = mapped f es i e h

ring_again : (b : Bool) → is_ring_kind (if b then kind.Ring else kind.Index) ≡ b
ring_again true = refl
ring_again false = refl

-- ---- names that have no place are not declared

apart_front : (x : List ℕ) (es : List Shape) (s : Shape) → IsApart x (es ++ s ∷ []) → IsApart x es × (bytes_eq x s.name ≡ false)
apart_front x [] s h = (tt, h.0)
apart_front x (e ∷ es) s h = let r = apart_front x es s h.1 in ((h.0, r.0), r.1)

found_apart : (x n : List ℕ) (e : Shape) (es : List Shape) (b : Bool) → bytes_eq n e.name ≡ b → (b || list_any (λ (e : Shape). bytes_eq n e.name) es) ≡ true → bytes_eq x e.name ≡ false
    → (list_any (λ (e : Shape). bytes_eq n e.name) es ≡ true → bytes_eq x n ≡ false) → bytes_eq x n ≡ false
found_apart x n e es true q g h more = let same : n ≡ e.name = (bytes_eq-Decides n e.name).0 q in ap (bytes_eq x) same ∙ h
found_apart x n e es false q g h more = more g

same_apart : (x n : List ℕ) (es : List Shape) → list_any (λ (e : Shape). bytes_eq n e.name) es ≡ true → IsApart x es → bytes_eq x n ≡ false
same_apart x n [] t h = absurd (cc)
same_apart x n (e ∷ es) t h = found_apart x n e es (bytes_eq n e.name) refl t h.0 (λ g. same_apart x n es g h.1)

apart_laid : (x : List ℕ) (es : List Shape) (s : Shape) → IsApart x (laid es s) → IsApart x es × (bytes_eq x s.name ≡ false)
apart_laid x es s h = by_test (list_any (λ (e : Shape). bytes_eq s.name e.name) es) refl h
  where
    by_test : (b : Bool) → list_any (λ (e : Shape). bytes_eq s.name e.name) es ≡ b → IsApart x (cond b es (es ++ s ∷ [])) → IsApart x es × (bytes_eq x s.name ≡ false)
    by_test true q g = (g, same_apart x s.name es q g)
    by_test false q g = apart_front x es s g

apart_all : (x : List ℕ) (es ss : List Shape) → IsApart x (laid_all es ss) → IsApart x es × IsApart x ss
apart_all x es [] h = (h, tt)
apart_all x es (s ∷ ss) h =
    let r = apart_all x (laid es s) ss h in
    let q = apart_laid x es s r.0 in
    (q.0, (q.1, r.1))

undeclared : (x : List ℕ) (ds : List Decl) → IsApart x (map (λ (d : Decl). scalar d.name) ds) → is_ring_name ds x ≡ false
undeclared x [] h = refl
undeclared x (d ∷ ds) h = rw h.0 (undeclared x ds h.1)

-- the names of the ring kind are those that are declared so
pub ring_by_names : (es : List Shape) (ds : List Decl) (x : List ℕ) → is_ring_in (names_of es ds) x ≡ is_ring_name ds x
ring_by_names es ds x = by_slot (slot_of (with_scalars es ds) x) refl
  where
    by_slot : (o : Option ℕ) → slot_of (with_scalars es ds) x ≡ o → is_ring_at (kinds_of ds (with_scalars es ds)) o ≡ is_ring_name ds x
    by_slot (Some i) e =
        let r = slot_found (with_scalars es ds) x i (sym e) in
        ap (λ o. is_ring_kind (kind_or o)) (mapped (λ (s : Shape). named_kind ds s.name) (with_scalars es ds) i r.0 r.1)
        ∙ ring_again (is_ring_name ds r.0.name) ∙ ap (is_ring_name ds) (sym r.2)
    by_slot None e = sym (undeclared x ds (apart_all x es (map (λ (d : Decl). scalar d.name) ds) (slot_missing (with_scalars es ds) x e)).1)

unranked : (x : List ℕ) (n : ℕ) (ds : List Decl) → IsApart x (map (λ (d : Decl). scalar d.name) ds) → has_declared_rank ds x n ≡ false
unranked x n [] h = refl
unranked x n (d ∷ ds) h = rw h.0 (unranked x n ds h.1)

-- a declared name has a slot
pub declared_slot : (es : List Shape) (ds : List Decl) (x : List ℕ) (n : ℕ) → has_declared_rank ds x n ≡ true → is_some (slot_of (with_scalars es ds) x) ≡ true
declared_slot es ds x n h = by_slot (slot_of (with_scalars es ds) x) refl
  where
    by_slot : (o : Option ℕ) → slot_of (with_scalars es ds) x ≡ o → is_some o ≡ true
    by_slot (Some i) e = refl
    by_slot None e = let f = unranked x n ds (apart_all x es (map (λ (d : Decl). scalar d.name) ds) (slot_missing (with_scalars es ds) x e)).1 in absurd (cc)

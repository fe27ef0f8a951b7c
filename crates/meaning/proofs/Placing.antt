-- Places by keys: what fitting cells hold there, and what is store_at there.
use Rattle.std.specs.Prelude.{◌≡◌, ℕ, zero, suc, ℤ, Bool, true, false, cond, bytes_eq, List, [], ◌∷◌, length, Option, Some, None, option_map, slice_set, slice_get, refl}
use Rattle.std.proofs.Common.{ap, sym, subst, arith}
use Rattle.std.proofs.lemmas.Bool.{and_parts}
use Rattle.std.proofs.lemmas.Slice.Eq.{bytes_eq-Decides}
use Rattle.store_core.specs.Keys.{same_key, same_subscripts, first_at}
use Rattle.fl_ast.specs.declared.kind.Kind.{Kind}
use Rattle.meaning.specs.declared.value.Value.{Value}
use Rattle.meaning.specs.Sites.{Key, Cells, Site, kind_of}
use Rattle.meaning.specs.Expressions.{content}
use Rattle.meaning.specs.Fitting.{HasKind, CellFits, CellsFit}
use Rattle.meaning.specs.FittingLaws.{FittingIsByPlace}

-- a content of a kind
abbrev pub HoldsKind : Kind → Option Value → Type 0
HoldsKind k None = Unit {0}
HoldsKind k (Some v) = HasKind k v

fits_key : (s : Site) (k : Key) (x : List ℕ) (c : Option Value) → x ≡ k.0 → CellFits s k c → HoldsKind (kind_of s x) c
fits_key s k x None e h = tt
fits_key s k x (Some v) e h = subst (λ (y : List ℕ). HasKind (kind_of s y) v) (sym e) h

key_fits : (s : Site) (k : Key) (x : List ℕ) (c : Option Value) → x ≡ k.0 → HoldsKind (kind_of s x) c → CellFits s k c
key_fits s k x None e h = tt
key_fits s k x (Some v) e h = subst (λ (y : List ℕ). HasKind (kind_of s y) v) e h

key_named : (k : Key) (x : List ℕ) (ss : List ℤ) → same_key (x, ss) k ≡ true → x ≡ k.0
key_named k x ss e = (bytes_eq-Decides x k.0).0 (and_parts (bytes_eq x k.0) (same_subscripts ss k.1) e).0

pub content_next : (c : Option Value) (s : Cells) (p : ℕ) → content (c ∷ s) (suc p) ≡ content s p
content_next c s p = refl

-- what fitting cells hold at the place of a name
pub fits_at : (s : Site) (keys : List Key) (cells : Cells) (x : List ℕ) (ss : List ℤ) (p : ℕ) → CellsFit s keys cells → first_at (same_key (x, ss)) keys ≡ Some p → HoldsKind (kind_of s x) (content cells p)
fits_at s [] cells x ss p h e = cc
fits_at s (k ∷ keys) [] x ss p h e = absurd h
fits_at s (k ∷ keys) (c ∷ cells) x ss p h e = by_test (same_key (x, ss) k) refl (λ q f. fits_at s keys cells x ss q h.1 f) e
  where
    later : (o : Option ℕ) → ((q : ℕ) → o ≡ Some q → HoldsKind (kind_of s x) (content cells q)) → option_map suc o ≡ Some p → HoldsKind (kind_of s x) (content (c ∷ cells) p)
    later None f g = cc
    later (Some q) f g = let i : suc q ≡ p = cc in subst (λ (n : ℕ). HoldsKind (kind_of s x) (content (c ∷ cells) n)) i (f q refl)

    by_test : (b : Bool) → same_key (x, ss) k ≡ b → ((q : ℕ) → first_at (same_key (x, ss)) keys ≡ Some q → HoldsKind (kind_of s x) (content cells q))
        → cond b (Some 0) (option_map suc (first_at (same_key (x, ss)) keys)) ≡ Some p → HoldsKind (kind_of s x) (content (c ∷ cells) p)
    by_test true t f g = let i : 0 ≡ p = cc in subst (λ (n : ℕ). HoldsKind (kind_of s x) (content (c ∷ cells) n)) i (fits_key s k x c (key_named k x ss t) h.0)
    by_test false t f g = later (first_at (same_key (x, ss)) keys) f g

-- cells stay fitting where a name's place gets a content of its kind
pub fits_set : (s : Site) (keys : List Key) (cells : Cells) (x : List ℕ) (ss : List ℤ) (p : ℕ) (v : Option Value)
    → CellsFit s keys cells → first_at (same_key (x, ss)) keys ≡ Some p → HoldsKind (kind_of s x) v → CellsFit s keys (slice_set cells p v)
fits_set s [] cells x ss p v h e g = cc
fits_set s (k ∷ keys) [] x ss p v h e g = absurd h
fits_set s (k ∷ keys) (c ∷ cells) x ss p v h e g = by_test (same_key (x, ss) k) refl (λ q f. fits_set s keys cells x ss q v h.1 f g) e
  where
    later : (o : Option ℕ) → ((q : ℕ) → o ≡ Some q → CellsFit s keys (slice_set cells q v)) → option_map suc o ≡ Some p → CellsFit s (k ∷ keys) (slice_set (c ∷ cells) p v)
    later None f i = cc
    later (Some q) f i = let j : suc q ≡ p = cc in subst (λ (n : ℕ). CellsFit s (k ∷ keys) (slice_set (c ∷ cells) n v)) j (h.0, f q refl)

    by_test : (b : Bool) → same_key (x, ss) k ≡ b → ((q : ℕ) → first_at (same_key (x, ss)) keys ≡ Some q → CellsFit s keys (slice_set cells q v))
        → cond b (Some 0) (option_map suc (first_at (same_key (x, ss)) keys)) ≡ Some p → CellsFit s (k ∷ keys) (slice_set (c ∷ cells) p v)
    by_test true t f i = let j : 0 ≡ p = cc in subst (λ (n : ℕ). CellsFit s (k ∷ keys) (slice_set (c ∷ cells) n v)) j (key_fits s k x v (key_named k x ss t) g, h.1)
    by_test false t f i = later (first_at (same_key (x, ss)) keys) f i

pub fitting_length : (s : Site) (keys : List Key) (cells : Cells) → CellsFit s keys cells → length cells ≡ length keys
fitting_length s [] [] h = refl
fitting_length s [] (c ∷ cells) h = absurd h
fitting_length s (k ∷ keys) [] h = absurd h
fitting_length s (k ∷ keys) (c ∷ cells) h = ap suc (fitting_length s keys cells h.1)

pub fitting_kinds : (s : Site) (keys : List Key) (cells : Cells) → CellsFit s keys cells → (p : ℕ) (k : Key) → slice_get keys p ≡ Some k → CellFits s k (content cells p)
fitting_kinds s [] cells h p k e = cc
fitting_kinds s (j ∷ keys) [] h p k e = absurd h
fitting_kinds s (j ∷ keys) (c ∷ cells) h zero k e = let q : j ≡ k = cc in subst (λ (i : Key). CellFits s i c) q h.0
fitting_kinds s (j ∷ keys) (c ∷ cells) h (suc p) k e = fitting_kinds s keys cells h.1 p k e

by_place_fits : (s : Site) (keys : List Key) (cells : Cells) → length cells ≡ length keys → ((p : ℕ) (k : Key) → slice_get keys p ≡ Some k → CellFits s k (content cells p)) → CellsFit s keys cells
by_place_fits s [] [] e h = tt
by_place_fits s [] (c ∷ cells) e h = absurd (omega arith)
by_place_fits s (k ∷ keys) [] e h = absurd (omega arith)
by_place_fits s (k ∷ keys) (c ∷ cells) e h = (h 0 k refl, by_place_fits s keys cells (omega arith) (λ p j f. h (suc p) j f))

pub fitting_by_place : FittingIsByPlace
fitting_by_place s cells =
    ((λ h. record { long = fitting_length s s.keys cells h; each = fitting_kinds s s.keys cells h }), (λ h. by_place_fits s s.keys cells h.long h.each))

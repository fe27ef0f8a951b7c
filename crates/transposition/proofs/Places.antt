-- Lists of contents and of tangents.
use Rattle.std.proofs.Common.{◌≡◌, ◌≢◌, ℕ, zero, suc, ◌<◌, ◌≤◌, List, [], ◌∷◌, refl, ap, sym, ◌∙◌, arith, length, map, Option, Some, None}
use Rattle.std.specs.Prelude.{slice_index, slice_set, slice_get}
use Rattle.meaning.specs.declared.value.Value.{Value}
use Rattle.meaning.specs.Sites.{Cells}
use Rattle.meaning.specs.Expressions.{content}
use Rattle.meaning.specs.Adjoints.{tangent_of}

pub content_first : (c : Option Value) (s : Cells) → content (c ∷ s) zero ≡ c
content_first c s = refl

pub content_later : (c : Option Value) (s : Cells) (p : ℕ) → content (c ∷ s) (suc p) ≡ content s p
content_later c s p = by_cell (slice_get s p) refl
  where
    by_cell : (o : Option (Option Value)) → slice_get s p ≡ o → content (c ∷ s) (suc p) ≡ content s p
    by_cell None e = rw e refl
    by_cell (Some x) e = rw e refl

pub tangent_here : (s : Cells) (p : ℕ) → slice_index (map tangent_of s) p ≡ tangent_of (content s p)
tangent_here [] p = refl
tangent_here (c ∷ s) zero = refl
tangent_here (c ∷ s) (suc p) = tangent_here s p ∙ ap tangent_of (sym (content_later c s p))

pub content_set_same : (s : Cells) (p : ℕ) (v : Option Value) → p < length s → content (slice_set s p v) p ≡ v
content_set_same [] p v h = absurd (omega arith)
content_set_same (c ∷ s) zero v h = refl
content_set_same (c ∷ s) (suc p) v h = content_later c (slice_set s p v) p ∙ content_set_same s p v (omega arith)

pub content_set_other : (s : Cells) (p q : ℕ) (v : Option Value) → q ≢ p → content (slice_set s p v) q ≡ content s q
content_set_other [] p q v h = refl
content_set_other (c ∷ s) zero zero v h = absurd (h refl)
content_set_other (c ∷ s) zero (suc q) v h = content_later v s q ∙ sym (content_later c s q)
content_set_other (c ∷ s) (suc p) zero v h = refl
content_set_other (c ∷ s) (suc p) (suc q) v h = content_later c (slice_set s p v) q ∙ (content_set_other s p q v (λ e. h (ap suc e)) ∙ sym (content_later c s q))

pub tangents_set : (s : Cells) (p : ℕ) (v : Option Value) → map tangent_of (slice_set s p v) ≡ slice_set (map tangent_of s) p (tangent_of v)
tangents_set [] p v = refl
tangents_set (c ∷ s) zero v = refl
tangents_set (c ∷ s) (suc p) v = ap (λ (l : List ℕ). tangent_of c ∷ l) (tangents_set s p v)

pub content_past : (s : Cells) (p : ℕ) → length s ≤ p → content s p ≡ None
content_past [] p h = refl
content_past (c ∷ s) zero h = absurd (omega arith)
content_past (c ∷ s) (suc p) h = content_later c s p ∙ content_past s p (omega arith)

-- The last entry of a name.
use Rattle.std.proofs.Common.{◌≡◌, ℕ, zero, suc, ◌<◌, ◌≤◌, true, false, bytes_eq, List, [], ◌∷◌, drop, length, get_or, Some, None, refl, ap, ◌∙◌, arith}
use Rattle.std.proofs.lemmas.List.{drop_all}
use Rattle.std.proofs.Math.Seq.{drop-cons}
use Rattle.index_forms.specs.declared.origin.Origin.{Origin}
use Rattle.index_forms.specs.declared.origin.Entry.{Entry}
use Rattle.index_forms.specs.Origins.{origin_in}

none_behind : (es : List Entry) (i : ℕ) (x : List ℕ) → length es ≤ i → origin_in (drop i es) x ≡ None
none_behind es i x h = ap (λ (l : List Entry). origin_in l x) (drop_all i es h)

pub begun : (es : List Entry) (x : List ℕ) → origin_in (drop (length es) es) x ≡ None
begun es x = none_behind es (length es) x (omega arith)

front : (es : List Entry) (i : ℕ) (e : Entry) → i < length es → get_or es i e ≡ e → drop i es ≡ e ∷ drop (suc i) es
front es i e h g = drop-cons es i e h ∙ ap (λ (z : Entry). z ∷ drop (suc i) es) g

-- one entry before those of which none has the name
pub passed : (es : List Entry) (i : ℕ) (e : Entry) (x : List ℕ) → i < length es → get_or es i e ≡ e → bytes_eq x e.name ≡ false → origin_in (drop (suc i) es) x ≡ None → origin_in (drop i es) x ≡ None
passed es i e x h g n r = rw (front es i e h g, r, n) refl

last_is : (es : List Entry) (x : List ℕ) (o : Origin) → origin_in es x ≡ Some o → (i : ℕ) → i ≤ length es → (fs : List Entry) → fs ≡ es → origin_in fs x ≡ Some o
last_is es x o e i h fs g = ap (λ (l : List Entry). origin_in l x) g ∙ e

-- what stands in the back stands in the whole
pub in_back : (es : List Entry) (i : ℕ) (x : List ℕ) (o : Origin) → origin_in (drop i es) x ≡ Some o → origin_in es x ≡ Some o
in_back es zero x o e = e
in_back [] (suc i) x o e = e
in_back (f ∷ es) (suc i) x o e = rw (in_back es i x o e) refl

pub found : (es : List Entry) (i : ℕ) (e : Entry) (x : List ℕ) → i < length es → get_or es i e ≡ e → bytes_eq x e.name ≡ true → origin_in (drop (suc i) es) x ≡ None → origin_in es x ≡ Some e.origin
found es i e x h g n r = in_back es i x e.origin (rw (front es i e h g, r, n) refl)

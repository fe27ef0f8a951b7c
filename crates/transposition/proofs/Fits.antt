-- Cells that fit a site, place by place, and in the direction of one place.
use Rattle.std.proofs.Common.{◌≡◌, ◌≢◌, ℕ, zero, suc, ◌≤◌, List, [], ◌∷◌, ◌++◌, refl, ap, sym, ◌∙◌, subst, arith, length, Bool, true, false, cond, Option, Some, None}
use Rattle.std.specs.Prelude.{bytes_eq}
use Rattle.std.proofs.lemmas.List.{length-append}
use Rattle.std.specs.List.{list_any}
use Rattle.pairing.proofs.Sames.{of_equal}
use Rattle.store_core.specs.declared.layout.Shape.{Shape}
use Rattle.store_core.specs.Keys.{keys_of_shape, keys_of, laid, laid_all}
use Rattle.meaning.specs.declared.value.Value.{Value}
use Rattle.meaning.specs.declared.value.Value.TheVariants.{Index, Ring}
use Rattle.meaning.specs.Sites.{Key, Cells, Site, with_tangent, kind_of}
use Rattle.meaning.specs.Expressions.{content}
use Rattle.meaning.specs.Adjoints.{cells_along, unit, tangent_of}
use Rattle.meaning.specs.Fitting.{HasKind, CellFits, CellsFit, Fits}
use Rattle.meaning.proofs.Entries.{directions_fit}
use Rattle.transposition.specs.Worlds.{World, name_at}
use Rattle.transposition.specs.Law.{Use, Fit}
use Rattle.transposition.proofs.Places.{content_later}
use Rattle.transposition.proofs.Keys.{name_later}

-- ---- place by place

long_of : (site : Site) (keys : List Key) (s : Cells) → CellsFit site keys s → length s ≡ length keys
long_of site [] [] h = refl
long_of site [] (c ∷ s) h = absurd h
long_of site (k ∷ keys) [] h = absurd h
long_of site (k ∷ keys) (c ∷ s) h = ap suc (long_of site keys s h.1)

cell_kind : (site : Site) (k : Key) (c : Option Value) (v : Value) → c ≡ Some v → CellFits site k c → HasKind (kind_of site k.0) v
cell_kind site k None v e h = cc
cell_kind site k (Some x) v e h = let f : x ≡ v = cc in subst (λ (y : Value). HasKind (kind_of site k.0) y) f h

kinds_of : (site : Site) (keys : List Key) (s : Cells) → CellsFit site keys s → (p : ℕ) (v : Value) → content s p ≡ Some v → HasKind (kind_of site (name_at keys p)) v
kinds_of site [] [] h p v e = let f : None ≡ Some v = e in cc
kinds_of site [] (c ∷ s) h p v e = absurd h
kinds_of site (k ∷ keys) [] h p v e = absurd h
kinds_of site (k ∷ keys) (c ∷ s) h zero v e = cell_kind site k c v e h.0
kinds_of site (k ∷ keys) (c ∷ s) h (suc p) v e =
    subst (λ (x : List ℕ). HasKind (kind_of site x) v) (sym (name_later k keys p)) (kinds_of site keys s h.1 p v (sym (content_later c s p) ∙ e))

-- ---- the direction of one place

pub still_pointed : (c : Option Value) → tangent_of (with_tangent 0 c) ≡ 0
still_pointed None = refl
still_pointed (Some (Index z)) = refl
still_pointed (Some (Ring d)) = refl

still_none : (s : Cells) (p : ℕ) → tangent_of (content (cells_along [] s) p) ≡ 0
still_none [] p = refl
still_none (c ∷ s) zero = still_pointed c
still_none (c ∷ s) (suc p) = ap tangent_of (content_later (with_tangent 0 c) (cells_along [] s) p) ∙ still_none s p

still_unit : (s : Cells) (j p : ℕ) → p ≢ j → tangent_of (content (cells_along (unit j) s) p) ≡ 0
still_unit [] zero p d = refl
still_unit [] (suc j) p d = refl
still_unit (c ∷ s) zero zero d = absurd (d refl)
still_unit (c ∷ s) zero (suc p) d = ap tangent_of (content_later (with_tangent 1 c) (cells_along [] s) p) ∙ still_none s p
still_unit (c ∷ s) (suc j) zero d = still_pointed c
still_unit (c ∷ s) (suc j) (suc p) d = ap tangent_of (content_later (with_tangent 0 c) (cells_along (unit j) s) p) ∙ still_unit s j p (λ e. d (ap suc e))

-- in the direction of a place whose name may have a tangent
pub unit_fit : (w : World) (u : Use) (s : Cells) (j : ℕ) → Fits w.site s → w.shared ≤ length w.site.keys → u.moved (name_at w.site.keys j) ≡ true → ((x : List ℕ) → u.held x ≡ None) → Fit w u (cells_along (unit j) s)
unit_fit w u s j h room moved unheld = record {
  long = long_of w.site w.site.keys (cells_along (unit j) s) fits;
  room = room;
  kinds = kinds_of w.site w.site.keys (cells_along (unit j) s) fits;
  still = λ p e. of_equal _ _ (still_unit s j p (λ f. (let k : true ≡ false = sym moved ∙ (ap (λ (m : ℕ). u.moved (name_at w.site.keys m)) (sym f) ∙ e) in cc)));
  held = λ p n y e g. (let k : None ≡ Some n = sym (unheld (name_at w.site.keys p)) ∙ g in cc);
}
  where
    fits : Fits w.site (cells_along (unit j) s)
    fits = (directions_fit w.site s (unit j)).0 h

-- ---- places of further names stand after those of the layout

more_keys : (es fs : List Shape) → length (keys_of es) ≤ length (keys_of (es ++ fs))
more_keys [] fs = omega arith
more_keys (e ∷ es) fs =
    let h = more_keys es fs in
    let a = length-append (keys_of_shape e) (keys_of es) in
    let b = length-append (keys_of_shape e) (keys_of (es ++ fs)) in
    omega arith

one_laid : (es : List Shape) (s : Shape) → length (keys_of es) ≤ length (keys_of (laid es s))
one_laid es s = by_test (list_any (λ (e : Shape). bytes_eq s.name e.name) es)
  where
    by_test : (b : Bool) → length (keys_of es) ≤ length (keys_of (cond b es (es ++ s ∷ [])))
    by_test true = omega arith
    by_test false = more_keys es (s ∷ [])

pub all_laid : (es ss : List Shape) → length (keys_of es) ≤ length (keys_of (laid_all es ss))
all_laid es [] = omega arith
all_laid es (s ∷ ss) = let h = one_laid es s in let k = all_laid (laid es s) ss in omega arith

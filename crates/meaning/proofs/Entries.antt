-- Every program starts in fitting cells.
use Rattle.std.specs.Prelude.{◌≡◌, ℕ, ◌<◌, ◌^◌, ℤ, pos, negsuc, Bool, true, false, if◌then◌else◌, List, [], ◌∷◌, All, Option, Some, None, refl}
use Rattle.std.specs.Int.{w64, cast_signed}
use Rattle.std.proofs.lemmas.List.Elements.{All-head, All-tail}
use Rattle.fl_ast.specs.declared.kind.Kind.{Kind}
use Rattle.fl_ast.specs.declared.kind.Kind.TheVariants as kind
use Rattle.ring_core.specs.Index.{IsIndex}
use Rattle.fl_types.specs.Sharing.{has_name}
use Rattle.store_core.specs.Values.{is_index, or_zero}
use Rattle.meaning.specs.declared.value.Value.{Value}
use Rattle.meaning.specs.declared.value.Value.TheVariants.{Index, Ring}
use Rattle.meaning.specs.Sites.{Key, Cells, Site, with_tangent, kind_of}
use Rattle.meaning.specs.Adjoints.{cells_along}
use Rattle.meaning.specs.Programs.{value_of_word, cells_of, no_pushes, entry_site}
use Rattle.meaning.specs.Fitting.{HasKind, CellFits, CellsFit}
use Rattle.meaning.specs.FittingLaws.{EntriesFit, DirectionsFit}

-- ---- directions

cell_along : (s : Site) (k : Key) (t : ℕ) (c : Option Value) → CellFits s k c → CellFits s k (with_tangent t c)
cell_along s k t None h = tt
cell_along s k t (Some (Index z)) h = h
cell_along s k t (Some (Ring d)) h = ring_along (kind_of s k.0) h
  where
    ring_along : (j : Kind) → HasKind j (Ring d) → HasKind j (Ring (record { value = d.value; tangent = t }))
    ring_along kind.Ring g = g
    ring_along kind.Index g = absurd g

cell_back : (s : Site) (k : Key) (t : ℕ) (c : Option Value) → CellFits s k (with_tangent t c) → CellFits s k c
cell_back s k t None h = tt
cell_back s k t (Some (Index z)) h = h
cell_back s k t (Some (Ring d)) h = ring_back (kind_of s k.0) h
  where
    ring_back : (j : Kind) → HasKind j (Ring (record { value = d.value; tangent = t })) → HasKind j (Ring d)
    ring_back kind.Ring g = g
    ring_back kind.Index g = absurd g

fits_along : (s : Site) (keys : List Key) (ts : List ℕ) (cells : Cells) → CellsFit s keys cells → CellsFit s keys (cells_along ts cells)
fits_along s [] ts [] h = tt
fits_along s [] ts (c ∷ cells) h = absurd h
fits_along s (k ∷ keys) ts [] h = absurd h
fits_along s (k ∷ keys) [] (c ∷ cells) h = (cell_along s k 0 c h.0, fits_along s keys [] cells h.1)
fits_along s (k ∷ keys) (t ∷ ts) (c ∷ cells) h = (cell_along s k t c h.0, fits_along s keys ts cells h.1)

fits_back : (s : Site) (keys : List Key) (ts : List ℕ) (cells : Cells) → CellsFit s keys (cells_along ts cells) → CellsFit s keys cells
fits_back s [] ts [] h = tt
fits_back s [] [] (c ∷ cells) h = absurd h
fits_back s [] (t ∷ ts) (c ∷ cells) h = absurd h
fits_back s (k ∷ keys) ts [] h = absurd h
fits_back s (k ∷ keys) [] (c ∷ cells) h = (cell_back s k 0 c h.0, fits_back s keys [] cells h.1)
fits_back s (k ∷ keys) (t ∷ ts) (c ∷ cells) h = (cell_back s k t c h.0, fits_back s keys ts cells h.1)

pub directions_fit : DirectionsFit
directions_fit s cells ts = (fits_along s s.keys ts cells, fits_back s s.keys ts cells)

-- ---- entries

index_fits : (z : ℤ) → IsIndex (or_zero (is_index z) z)
index_fits z = by_test (is_index z) refl
  where
    same : (y : ℤ) → is_index y ≡ true → IsIndex y
    same (pos n) e = e
    same (negsuc n) e = e

    by_test : (b : Bool) → is_index z ≡ b → IsIndex (or_zero b z)
    by_test true e = same z e
    by_test false e = refl

word_kind : (k : Kind) (w : ℕ) → w < 2 ^ 64 → HasKind k (value_of_word k w)
word_kind kind.Ring w h = h
word_kind kind.Index w h = index_fits (cast_signed w64 w)

entry_fits : (s : Site) (args : List (List ℕ)) (keys : List Key) (ws : List ℕ) → All (λ w. w < 2 ^ 64) ws → CellsFit s keys (cells_of s args keys ws)
entry_fits s args [] ws h = tt
entry_fits s args (k ∷ keys) [] h = (tt, entry_fits s args keys [] h)
entry_fits s args (k ∷ keys) (w ∷ ws) h = (by_test (has_name k.0 args), entry_fits s args keys ws (All-tail (λ v. v < 2 ^ 64) w ws h))
  where
    by_test : (b : Bool) → CellFits s k (if b then Some (value_of_word (kind_of s k.0) w) else None)
    by_test true = word_kind (kind_of s k.0) w (All-head (λ v. v < 2 ^ 64) w ws h)
    by_test false = tt

pub entries_fit : EntriesFit
entries_fit p shapes pushed words ts h =
    let s : Site = entry_site p shapes no_pushes in
    fits_along s s.keys ts (cells_of s p.args s.keys words) (entry_fits s p.args s.keys words h)

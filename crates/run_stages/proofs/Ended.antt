-- A run that nothing stops has a cell for each place.
use Rattle.std.proofs.Common.{◌≡◌, ℕ, zero, suc, ◌<◌, ◌≤◌, Bool, List, [], ◌∷◌, map, take, length, Result, Ok, Err, refl, sym, ap, ◌∙◌, arith}
use Rattle.std.proofs.lemmas.List.{length-map, length-take-le}
use Rattle.fl_ast.specs.declared.decl.Decl.{Decl}
use Rattle.fl_ast.specs.Tree.{Subroutine}
use Rattle.store_core.specs.declared.layout.Shape.{Shape}
use Rattle.store_core.specs.Keys.{keys_of, laid_all, scalar}
use Rattle.store_core.proofs.Laying.{laid_grows}
use Rattle.meaning.specs.declared.value.TrapAt.{TrapAt}
use Rattle.meaning.specs.Sites.{Key, Cells, Site, word_of}
use Rattle.meaning.specs.Adjoints.{cells_along}
use Rattle.meaning.specs.Laws.{values_out}
use Rattle.meaning.specs.Programs.{cells_of, no_pushes, entry_site, entry_cells, meaning}
use Rattle.meaning.proofs.Storing.{cells_kept}

along_long : (ts : List ℕ) (cells : Cells) → length (cells_along ts cells) ≡ length cells
along_long ts [] = refl
along_long [] (c ∷ cells) = ap suc (along_long [] cells)
along_long (t ∷ ts) (c ∷ cells) = ap suc (along_long ts cells)

cells_long : (site : Site) (args : List (List ℕ)) (keys : List Key) (words : List ℕ) → length (cells_of site args keys words) ≡ length keys
cells_long site args [] words = refl
cells_long site args (k ∷ keys) [] = ap suc (cells_long site args keys [])
cells_long site args (k ∷ keys) (w ∷ words) = ap suc (cells_long site args keys words)

grown : (es ss : List Shape) (n : ℕ) → length (keys_of es) ≡ n → n ≤ length (keys_of (laid_all es ss))
grown es ss zero e = omega arith
grown es ss (suc m) e =
    let below : m < length (keys_of es) = omega (arith, e) in
    let more : m < length (keys_of (laid_all es ss)) = laid_grows m es ss below in omega (arith, more)

values_at : (r : Result Cells TrapAt) (cells : Cells) → values_out r ≡ Ok cells → (end : Cells) × (r ≡ Ok end) × (cells_along [] end ≡ cells)
values_at (Ok end) cells h = let same : cells_along [] end ≡ cells = cc in (end, refl, same)
values_at (Err t) cells h = absurd (cc)

pub cells_many : (p : Subroutine) (es : List Shape) (pushed : List ℕ → Bool) (words : List ℕ) (cells : Cells) → values_out (meaning p es pushed words []).out ≡ Ok cells → length (keys_of es) ≤ length cells
cells_many p es pushed words cells h =
    let end = values_at (meaning p es pushed words []).out cells h in
    let start : Cells = entry_cells p es words in
    let site : Site = entry_site p es no_pushes in
    let kept : length end.0 ≡ length (cells_along [] start) = cells_kept p.body (entry_site p es pushed) (cells_along [] start) end.0 end.1 in
    let begun : length end.0 ≡ length site.keys = kept ∙ (along_long [] start ∙ cells_long site p.args site.keys words) in
    let there : length cells ≡ length end.0 = ap length (sym end.2) ∙ along_long [] end.0 in
    let more : length (keys_of es) ≤ length site.keys = grown es (map (λ (d : Decl). scalar d.name) p.decls) (length (keys_of es)) refl in
    omega (arith, begun, there, more)

pub front_long : (n : ℕ) (cells : Cells) (values : List ℕ) → n ≤ length cells → values ≡ map word_of (take n cells) → length values ≡ n
front_long n cells values h v = ap length v ∙ (length-map (take n cells) word_of ∙ length-take-le n cells h)

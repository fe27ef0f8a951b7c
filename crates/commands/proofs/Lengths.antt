-- A run that comes to its end has a word for each place.
use Rattle.std.proofs.Common.{◌≡◌, ℕ, zero, suc, ◌+◌, ◌<◌, ◌≤◌, nat_le, Bool, true, false, if◌then◌else◌, List, [], ◌∷◌, map, take, length, Option, Some, None, Result, Ok, Err, refl, sym, ap, ◌∙◌, arith}
use Rattle.std.proofs.lemmas.List.{length-map, length-take-le}
use Rattle.fl_ast.specs.declared.decl.Decl.{Decl}
use Rattle.fl_ast.specs.Tree.{Subroutine}
use Rattle.store_core.specs.declared.layout.Shape.{Shape}
use Rattle.store_core.specs.Keys.{keys_of, laid_all, scalar}
use Rattle.store_core.proofs.Laying.{laid_grows}
use Rattle.meaning.specs.declared.value.TrapAt.{TrapAt}
use Rattle.meaning.specs.Logs.{Event, begins, touches, pushes, ends, traps, Traced, events}
use Rattle.meaning.specs.Sites.{Key, Cells, Site, word_of}
use Rattle.meaning.specs.Stops.{Seen, nothing_seen, at_end, over_statements, stop_or, stop_after, by_conflict, the_limits, statements_and_traps}
use Rattle.meaning.specs.Adjoints.{cells_along, tangent_of}
use Rattle.meaning.specs.Programs.{cells_of, no_pushes, entry_site, entry_cells, meaning, final_words, final_tangents}
use Rattle.meaning.specs.Laws.{trap_in, trap_of}
use Rattle.meaning.proofs.Storing.{cells_kept}
use Rattle.meaning.proofs.TrapProofs.{traps_told}
use Rattle.dual_meaning.specs.Runs.{stop_of}
use Rattle.dual_meaning.proofs.Directions.{values_found, tangents_found}

-- ---- a run that isn't seen to stop has no trap

untrapped_by : (s : Seen) (es : List Event) (b : Bool) → ((q : Seen) → stop_after by_conflict the_limits q (statements_and_traps es) ≡ at_end → trap_in es ≡ None)
    → stop_or (if b then Ok (record s { statements = s.statements + 1 }) else Err over_statements) (λ q. stop_after by_conflict the_limits q (statements_and_traps es)) ≡ at_end → trap_in es ≡ None
untrapped_by s es true f e = f (record s { statements = s.statements + 1 }) e
untrapped_by s es false f e = absurd (cc)

untrapped : (es : List Event) (s : Seen) → stop_after by_conflict the_limits s (statements_and_traps es) ≡ at_end → trap_in es ≡ None
untrapped [] s e = refl
untrapped (begins ∷ es) s e = untrapped_by s es (nat_le (s.statements + 1) 16777216) (untrapped es) e
untrapped (touches t ∷ es) s e = untrapped es s e
untrapped (pushes v ∷ es) s e = untrapped es s e
untrapped (ends line ∷ es) s e = untrapped es s e
untrapped (traps t ∷ es) s e = absurd (cc)

ended : (t : Traced TrapAt Cells) (out : Result Cells TrapAt) → t.out ≡ out → trap_in (events t.log) ≡ trap_of out → stop_of t ≡ at_end → (end : Cells) × (t.out ≡ Ok end)
ended t (Ok end) o h s = (end, o)
ended t (Err x) o h s = let n : None ≡ Some x = sym (untrapped (events t.log) nothing_seen s) ∙ h in absurd (cc)

-- ---- as many cells as keys, which are no fewer than places

along_long : (ts : List ℕ) (cells : Cells) → length (cells_along ts cells) ≡ length cells
along_long ts [] = refl
along_long [] (c ∷ cells) = ap suc (along_long [] cells)
along_long (t ∷ ts) (c ∷ cells) = ap suc (along_long ts cells)

cells_long : (site : Site) (args : List (List ℕ)) (keys : List Key) (words : List ℕ) → length (cells_of site args keys words) ≡ length keys
cells_long site args [] words = refl
cells_long site args (k ∷ keys) [] = ap suc (cells_long site args keys [])
cells_long site args (k ∷ keys) (w ∷ words) = ap suc (cells_long site args keys words)

grown : (es ss : List Shape) (n : ℕ) → length (keys_of es) ≡ n → n ≤ length (keys_of (laid_all es ss))
grown es ss zero e = omega arith
grown es ss (suc m) e =
    let below : m < length (keys_of es) = omega (arith, e) in
    let more : m < length (keys_of (laid_all es ss)) = laid_grows m es ss below in omega (arith, more)

cells_at_end : (p : Subroutine) (es : List Shape) (words direction : List ℕ) (end : Cells) → (meaning p es no_pushes words direction).out ≡ Ok end → length (keys_of es) ≤ length end
cells_at_end p es words direction end e =
    let site : Site = entry_site p es no_pushes in
    let kept : length end ≡ length (cells_along direction (entry_cells p es words)) = cells_kept p.body site (cells_along direction (entry_cells p es words)) end e in
    let begun : length end ≡ length site.keys = kept ∙ (along_long direction (entry_cells p es words) ∙ cells_long site p.args site.keys words) in
    let more : length (keys_of es) ≤ length site.keys = grown es (map (λ (d : Decl). scalar d.name) p.decls) (length (keys_of es)) refl in omega (arith, begun, more)

-- ---- the words and the tangents

end_of : (p : Subroutine) (es : List Shape) (words direction : List ℕ) → stop_of (meaning p es no_pushes words direction) ≡ at_end → (end : Cells) × ((meaning p es no_pushes words direction).out ≡ Ok end)
end_of p es words direction s =
    ended (meaning p es no_pushes words direction) (meaning p es no_pushes words direction).out refl
    (traps_told p.body (entry_site p es no_pushes) (cells_along direction (entry_cells p es words))) s

pub words_long : (p : Subroutine) (es : List Shape) (words direction : List ℕ) → stop_of (meaning p es no_pushes words direction) ≡ at_end → length (final_words p es words) ≡ length (keys_of es)
words_long p es words direction s =
    let end = end_of p es words direction s in
    ap length (sym (values_found p es words direction end.0 (map word_of (take (length (keys_of es)) end.0)) end.1 refl))
    ∙ (length-map (take (length (keys_of es)) end.0) word_of ∙ length-take-le (length (keys_of es)) end.0 (cells_at_end p es words direction end.0 end.1))

pub tangents_long : (p : Subroutine) (es : List Shape) (words direction : List ℕ) → stop_of (meaning p es no_pushes words direction) ≡ at_end → length (final_tangents p es words direction) ≡ length (keys_of es)
tangents_long p es words direction s =
    let end = end_of p es words direction s in
    ap length (sym (tangents_found p es words direction end.0 (map tangent_of (take (length (keys_of es)) end.0)) end.1 refl))
    ∙ (length-map (take (length (keys_of es)) end.0) tangent_of ∙ length-take-le (length (keys_of es)) end.0 (cells_at_end p es words direction end.0 end.1))

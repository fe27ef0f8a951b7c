-- The cells at the entry, name by name.
use Rattle.std.specs.Prelude.{◌≡◌, ℕ, zero, suc, ◌+◌, ◌-◌, ◌<◌, ℤ, Bool, true, false, if◌then◌else◌, List, [], ◌∷◌, ◌++◌, map, length, take, drop, get_or, slice_get, slice_index, Option, Some, None, refl}
use Rattle.std.proofs.Common.{ap, sym, ◌∙◌, arith, append_assoc, add-one}
use Rattle.std.proofs.lemmas.List.{drop_more}
use Rattle.fl_ast.specs.declared.kind.Kind.{Kind}
use Rattle.fl_ast.specs.declared.decl.Decl.{Decl}
use Rattle.fl_types.specs.Sharing.{has_name}
use Rattle.store_core.specs.declared.layout.Shape.{Shape}
use Rattle.store_core.specs.Keys.{keys_of, subscripts_of, size_of}
use Rattle.store_core.proofs.Slots.{length_subscripts, first_next, got}
use Rattle.meaning.specs.declared.value.Value.{Value}
use Rattle.meaning.specs.Sites.{Key, Cells, Site, kind_of, with_tangent, opening_site}
use Rattle.meaning.specs.Adjoints.{cells_along}
use Rattle.meaning.specs.Programs.{value_of_word, cells_of, no_pushes}
use Rattle.resolved.specs.SlotTables.{named_kind, kinds_of, kind_at}
use Rattle.dual_meaning.specs.Tangents.{entry_cell, name_cells, argument_kind, shape_cells}

-- one cell more of a name
pub push_one : (cells cells' whole : Cells) (kind : Option Kind) (ws ts : List ℕ) (k next : ℕ) (x : Option Value) → k < next → x ≡ entry_cell kind (slice_get ws k) (slice_index ts k) → cells' ≡ cells ++ x ∷ []
    → cells ++ name_cells kind ws ts k (next - k) ≡ whole → cells' ++ name_cells kind ws ts (k + 1) (next - (k + 1)) ≡ whole
push_one cells cells' whole kind ws ts k next x l e c h =
    let n : next - k ≡ suc (next - (k + 1)) = omega arith in
    ap (λ (z : Cells). z ++ name_cells kind ws ts (k + 1) (next - (k + 1))) c
    ∙ (append_assoc cells (x ∷ []) (name_cells kind ws ts (k + 1) (next - (k + 1)))
    ∙ (ap (λ (y : Option Value). cells ++ y ∷ name_cells kind ws ts (k + 1) (next - (k + 1))) e ∙ (ap (λ (m : ℕ). cells ++ name_cells kind ws ts k m) (sym n) ∙ h)))

-- the kind at a shape's slot
pub kind_found : (ds : List Decl) (es : List Shape) (i : ℕ) (s : Shape) → slice_get es i ≡ Some s → kind_at (kinds_of ds es) i ≡ named_kind ds s.name
kind_found ds [] i s h = absurd (let f : None ≡ Some s = h in cc)
kind_found ds (x ∷ es) zero s h = let f : x ≡ s = cc in ap (λ (y : Shape). named_kind ds y.name) f
kind_found ds (x ∷ es) (suc i) s h = kind_found ds es i s h

-- one name more
pub push_name : (ds : List Decl) (args : List (List ℕ)) (ws ts : List ℕ) (es : List Shape) (kinds : List Kind) (i : ℕ) (sh : Shape) (kind : Option Kind) (cells cells' whole : Cells) (first next : ℕ)
    → i < length es → sh ≡ get_or es i sh → kinds ≡ kinds_of ds es → first ≡ length (keys_of (take i es)) → next ≡ length (keys_of (take (i + 1) es))
    → kind ≡ argument_kind args (kind_at kinds i) sh.name → cells' ≡ cells ++ name_cells kind ws ts first (next - first)
    → cells ++ shape_cells (named_kind ds) args ws ts (length (keys_of (take i es))) (drop i es) ≡ whole
    → cells' ++ shape_cells (named_kind ds) args ws ts (length (keys_of (take (i + 1) es))) (drop (i + 1) es) ≡ whole
push_name ds args ws ts es kinds i sh kind cells cells' whole first next lt is k f n o set h =
    let g : slice_get es i ≡ Some sh = got es i sh lt is in
    let here : drop i es ≡ sh ∷ drop (i + 1) es = drop_more es i sh lt ∙ ap (λ (y : Shape). y ∷ drop (i + 1) es) (sym is) in
    let m : length (keys_of (take (i + 1) es)) ≡ length (keys_of (take i es)) + size_of sh.axes = rw add-one (first_next es i sh g) in
    let size : next - first ≡ size_of sh.axes = omega arith in
    let named : kind ≡ argument_kind args (named_kind ds sh.name) sh.name = o ∙ ap (λ (j : Kind). argument_kind args j sh.name) (ap (λ (ks : List Kind). kind_at ks i) k ∙ kind_found ds es i sh g) in
    let here_cells : Cells = name_cells (argument_kind args (named_kind ds sh.name) sh.name) ws ts (length (keys_of (take i es))) (size_of sh.axes) in
    let rest : ℕ → Cells = λ at. shape_cells (named_kind ds) args ws ts at (drop (i + 1) es) in
    let w : cells' ≡ cells ++ here_cells =
    set ∙ (ap (λ (j : Option Kind). cells ++ name_cells j ws ts first (next - first)) named
    ∙ (ap (λ (at : ℕ). cells ++ name_cells (argument_kind args (named_kind ds sh.name) sh.name) ws ts at (next - first)) f
    ∙ ap (λ (z : ℕ). cells ++ name_cells (argument_kind args (named_kind ds sh.name) sh.name) ws ts (length (keys_of (take i es))) z) size)) in
    ap rest' m
    ∙ (ap (λ (z : Cells). z ++ rest (length (keys_of (take i es)) + size_of sh.axes)) w
    ∙ (append_assoc cells here_cells (rest (length (keys_of (take i es)) + size_of sh.axes))
    ∙ (ap (λ (xs : List Shape). cells ++ shape_cells (named_kind ds) args ws ts (length (keys_of (take i es))) xs) (sym here) ∙ h)))
  where
    rest' : ℕ → Cells
    rest' at = cells' ++ shape_cells (named_kind ds) args ws ts at (drop (i + 1) es)

drop_next : (n : ℕ) (xs : List ℕ) → drop 1 (drop n xs) ≡ drop (suc n) xs
drop_next zero xs = refl
drop_next (suc n) [] = refl
drop_next (suc n) (x ∷ xs) = drop_next n xs

drop_one : (n : ℕ) (xs : List ℕ) → drop 1 (drop n xs) ≡ drop (n + 1) xs
drop_one n xs = drop_next n xs ∙ ap (λ k. drop k xs) (sym (add-one n))

get_first : (n : ℕ) (xs : List ℕ) → slice_get (drop n xs) 0 ≡ slice_get xs n
get_first zero xs = refl
get_first (suc n) [] = refl
get_first (suc n) (x ∷ xs) = get_first n xs

index_first : (n : ℕ) (xs : List ℕ) → slice_index (drop n xs) 0 ≡ slice_index xs n
index_first zero xs = refl
index_first (suc n) [] = refl
index_first (suc n) (x ∷ xs) = index_first n xs

no_cells : (ts : List ℕ) → cells_along ts [] ≡ []
no_cells [] = refl
no_cells (t ∷ ts) = refl

module _ (site : Site) (args : List (List ℕ)) where
  unset : (o : Option Kind) (t : ℕ) → None ≡ entry_cell o None t
  unset None t = refl
  unset (Some k) t = refl

  set_by : (b : Bool) (k : Kind) (w t : ℕ) → with_tangent t (if b then Some (value_of_word k w) else None) ≡ entry_cell (if b then Some k else None) (Some w) t
  set_by true k w t = refl
  set_by false k w t = refl

  one : (x : List ℕ) (ss : List ℤ) (keys : List Key) (us vs : List ℕ)
      → cells_along us (cells_of site args ((x, ss) ∷ keys) vs) ≡ entry_cell (argument_kind args (kind_of site x) x) (slice_get vs 0) (slice_index us 0) ∷ cells_along (drop 1 us) (cells_of site args keys (drop 1 vs))
  one x ss keys [] [] = ap (λ (c : Option Value). c ∷ cells_along [] (cells_of site args keys [])) (unset (argument_kind args (kind_of site x) x) 0)
  one x ss keys (t ∷ us) [] = ap (λ (c : Option Value). c ∷ cells_along us (cells_of site args keys [])) (unset (argument_kind args (kind_of site x) x) t)
  one x ss keys [] (w ∷ vs) = ap (λ (c : Option Value). c ∷ cells_along [] (cells_of site args keys vs)) (set_by (has_name x args) (kind_of site x) w 0)
  one x ss keys (t ∷ us) (w ∷ vs) = ap (λ (c : Option Value). c ∷ cells_along us (cells_of site args keys vs)) (set_by (has_name x args) (kind_of site x) w t)

  module _ (ws ts : List ℕ) where
    from : List Key → ℕ → Cells
    from keys at = cells_along (drop at ts) (cells_of site args keys (drop at ws))

    one_from : (x : List ℕ) (ss : List ℤ) (keys : List Key) (at : ℕ) → from ((x, ss) ∷ keys) at ≡ entry_cell (argument_kind args (kind_of site x) x) (slice_get ws at) (slice_index ts at) ∷ from keys (at + 1)
    unfolding from
    one_from x ss keys at =
        one x ss keys (drop at ts) (drop at ws)
        ∙ rw (get_first at ws, index_first at ts, drop_one at ts, drop_one at ws) refl

    one_name : (x : List ℕ) (sss : List (List ℤ)) (keys : List Key) (at : ℕ)
        → from (map (λ (ss : List ℤ). (x, ss)) sss ++ keys) at ≡ name_cells (argument_kind args (kind_of site x) x) ws ts at (length sss) ++ from keys (at + length sss)
    one_name x [] keys at = ap (from keys) (omega arith)
    one_name x (ss ∷ sss) keys at =
        let n : at + 1 + length sss ≡ at + suc (length sss) = omega arith in
        let c : Option Value = entry_cell (argument_kind args (kind_of site x) x) (slice_get ws at) (slice_index ts at) in
        one_from x ss (map (λ (ss : List ℤ). (x, ss)) sss ++ keys) at
        ∙ ap (λ (z : Cells). c ∷ z)
        (one_name x sss keys (at + 1) ∙ ap (λ (m : ℕ). name_cells (argument_kind args (kind_of site x) x) ws ts (at + 1) (length sss) ++ from keys m) n)

    all_names : (es : List Shape) (at : ℕ) → shape_cells (kind_of site) args ws ts at es ≡ from (keys_of es) at
    unfolding from
    all_names [] at = sym (no_cells (drop at ts))
    all_names (s ∷ es) at =
        let l : length (subscripts_of s.axes) ≡ size_of s.axes = length_subscripts s.axes in
        let o : Option Kind = argument_kind args (kind_of site s.name) s.name in
        sym
        (one_name s.name (subscripts_of s.axes) (keys_of es) at
        ∙ (ap (λ (n : ℕ). name_cells o ws ts at n ++ from (keys_of es) (at + n)) l ∙ ap (λ (z : Cells). name_cells o ws ts at (size_of s.axes) ++ z) (sym (all_names es (at + size_of s.axes)))))

pub entered : (ds : List Decl) (es all : List Shape) (args : List (List ℕ)) (ws ts : List ℕ)
    → shape_cells (named_kind ds) args ws ts 0 all ≡ cells_along ts (cells_of (opening_site ds es no_pushes) args (keys_of all) ws)
unfolding from
entered ds es all args ws ts = all_names (opening_site ds es no_pushes) args ws ts all 0

-- Additions to a Reduction's adjoint are collected: the cells are the same, and what is left is covered.
use Rattle.std.proofs.Common.{◌≡◌, ℕ, zero, suc, ◌+◌, ◌-◌, ◌<◌, ◌^◌, ◌==◌, List, [], ◌∷◌, refl, ap, sym, ◌∙◌, subst, arith, Bool, true, false, ◌&&◌, cond, Option, inr}
use Rattle.std.specs.Prelude.{slice_index, slice_set, nat_lt}
use Rattle.std.proofs.lemmas.Bool.{and_parts}
use Rattle.ring_core.specs.Ring.{ring_add}
use Rattle.fl_types.specs.declared.choice.Choice.{Choice}
use Rattle.fl_types.specs.declared.choice.Choice.TheVariants.{Shared, Atomic, Reduction}
use Rattle.operations.specs.declared.op.Op.{Op}
use Rattle.operations.specs.declared.op.Op.TheVariants.{Load, Store, Bump, Add}
use Rattle.operations.specs.Ops.{cell_of, acts, may_meet, Clear, ClearAll}
use Rattle.operations.specs.Tree.{Tree, done, does, Played, play}
use Rattle.operations.specs.Collect.{collect, uncollected_ops, IsCollected}
use Rattle.operations.proofs.Trees.{bind}
use Rattle.operations.proofs.Collects.{additions_collect, collected_ops}
use Rattle.meaning.specs.Logs.{Log}
use Rattle.meaning.specs.Sites.{place_of}
use Rattle.transposition.specs.Worlds.{World, Local, is_one_step, is_reduction, name_at}
use Rattle.transposition.specs.Back.{with_collection, with_collection_at, with_collections}
use Rattle.transposition.specs.Law.{CoverAt, place_of_cell, Cover, CoverAll}
use Rattle.transposition.specs.Sound.{Common, AllSummed}
use Rattle.transposition.proofs.Split.{is_less, is_not_less}
use Rattle.transposition.proofs.Keys.{stands}
use Rattle.transposition.proofs.Reading.{cover_both, cover_adjoint}
use Rattle.transposition.proofs.Clears.{AllAccessed}

pub record Collected (w : World) (ts : Log) (r r0 : Played Local) : Type 0 where
  pub out : r.out ≡ r0.out
  pub cells : r.cells ≡ r0.cells
  pub cover : CoverAll w ts r.ops

-- ---- nothing but additions is made on the cell

is_none : (c : Choice) → c ≡ Reduction → is_reduction c ≡ false → ⊥
is_none Reduction e h = cc
is_none Shared e h = cc
is_none Atomic e h = cc

one_step_of : (c : Choice) → c ≡ Reduction → is_one_step c ≡ true
one_step_of Reduction e = refl
one_step_of Shared e = cc
one_step_of Atomic e = cc

place_back : (n p : ℕ) → place_of_cell n (n + p) ≡ p
place_back n p = ap (λ (b : Bool). cond b (n + p) ((n + p) - n)) (is_not_less (n + p) n (omega arith)) ∙ omega arith

-- what a cover says of an adjoint's cell
adjoint_cover : (w : World) (ts : Log) (o : Op) (p : ℕ) → AllAccessed w → p < w.shared → cell_of o ≡ w.shared + p → Cover w ts o → CoverAt w ts false (w.shared + p) p o
adjoint_cover w ts o p all there e h =
    let at : place_of_cell w.shared (cell_of o) ≡ p = ap (place_of_cell w.shared) e ∙ place_back w.shared p in
    let c = h.1 (subst (λ (m : ℕ). w.site.accessed (name_at w.site.keys m) ≡ true) (sym at) (all p there)) in
    let c1 : CoverAt w ts (nat_lt (w.shared + p) w.shared) (w.shared + p) ((w.shared + p) - w.shared) o = subst (λ (m : ℕ). CoverAt w ts (nat_lt m w.shared) m (m - w.shared) o) e c in
    let c2 : CoverAt w ts false (w.shared + p) ((w.shared + p) - w.shared) o = subst (λ (b : Bool). CoverAt w ts b (w.shared + p) ((w.shared + p) - w.shared) o) (is_not_less (w.shared + p) w.shared (omega arith)) c1 in
    subst (λ (m : ℕ). CoverAt w ts false (w.shared + p) m o) (omega arith) c2

clear_by : (w : World) (ts : Log) (o : Op) (p : ℕ) → w.choice (name_at w.site.keys p) ≡ Reduction → may_meet o (Add (w.shared + p) 0) ≡ false → CoverAt w ts false (w.shared + p) p o → ⊥
clear_by w ts (Load c) p r m h = is_none _ r h.1
clear_by w ts (Store c x) p r m h = is_none _ r h.1
clear_by w ts (Bump c x) p r m h = let e : true ≡ false = sym (one_step_of _ r) ∙ h.1 in cc
clear_by w ts (Add c x) p r m h = cc

clear_one : (w : World) (ts : Log) (o : Op) (p : ℕ) → AllAccessed w → p < w.shared → w.choice (name_at w.site.keys p) ≡ Reduction → Cover w ts o → Clear o (Add (w.shared + p) 0)
clear_one w ts o p all there r h m e = clear_by w ts o p r m (adjoint_cover w ts o p all there e h)

clear_each : (w : World) (ts : Log) (os : List Op) (p : ℕ) → AllAccessed w → p < w.shared → w.choice (name_at w.site.keys p) ≡ Reduction → CoverAll w ts os → ClearAll os (Add (w.shared + p) 0)
clear_each w ts [] p all there r h = tt
clear_each w ts (o ∷ os) p all there r h = (clear_one w ts o p all there r h.0, clear_each w ts os p all there r h.1)

-- ---- what is left is covered

left_covered : (w : World) (ts : Log) (q : ℕ) (os : List Op) → CoverAll w ts os → CoverAll w ts (uncollected_ops q os)
left_covered w ts q [] h = tt
left_covered w ts q (Load c ∷ os) h = (h.0, left_covered w ts q os h.1)
left_covered w ts q (Store c x ∷ os) h = (h.0, left_covered w ts q os h.1)
left_covered w ts q (Bump c x ∷ os) h = (h.0, left_covered w ts q os h.1)
left_covered w ts q (Add c x ∷ os) h = by_cell (c == q) (left_covered w ts q os h.1)
  where
    by_cell : (b : Bool) → CoverAll w ts (uncollected_ops q os) → CoverAll w ts (cond b (uncollected_ops q os) (Add c x ∷ uncollected_ops q os))
    by_cell true k = k
    by_cell false k = (h.0, k)

-- ---- the addition of 0

set_itself : (c : List ℕ) (q : ℕ) → slice_set c q (slice_index c q) ≡ c
set_itself [] q = refl
set_itself (x ∷ c) zero = refl
set_itself (x ∷ c) (suc q) = ap (λ (l : List ℕ). x ∷ l) (set_itself c q)

none_added : (x : ℕ) → x < 2 ^ 64 → ring_add x 0 ≡ x
none_added x h = omega arith

nothing_added : (c : List ℕ) (q : ℕ) → slice_index c q < 2 ^ 64 → acts (Add q 0) c ≡ c
nothing_added c q h = ap (slice_set c q) (none_added (slice_index c q) h) ∙ set_itself c q

-- ---- one name, and all

one_collected : (w : World) (ts : Log) (p : ℕ) (t : Tree Local) (c : List ℕ) → AllAccessed w → p < w.shared → w.choice (name_at w.site.keys p) ≡ Reduction → CoverAll w ts (play t c).ops → slice_index (play t c).cells (w.shared + p) < 2 ^ 64
    → Collected w ts (play (with_collection (w.shared + p) t) c) (play t c)
one_collected w ts p t c all there r h small =
    rw (bind (collect (w.shared + p) t 0) (λ x. does (Add (w.shared + p) x.1) (done x.0)) c) (record {
      out = col.out;
      cells = additions_collect t (w.shared + p) 0 c clear ∙ nothing_added (play t c).cells (w.shared + p) small;
      cover = cover_both w ts (play (collect (w.shared + p) t 0) c).ops _ (subst (λ (l : List Op). CoverAll w ts l) (sym col.ops) (left_covered w ts (w.shared + p) (play t c).ops h))
          (cover_adjoint w ts (Add (w.shared + p) _) p refl (is_less p w.shared there) (λ e. (inr r, one_step_of _ r)), tt);
    })
  where
    clear : ClearAll (play t c).ops (Add (w.shared + p) 0)
    clear = clear_each w ts (play t c).ops p all there r h

    col : IsCollected (w.shared + p) (play (collect (w.shared + p) t 0) c) (play t c)
    col = collected_ops t (w.shared + p) 0 c clear

itself : (w : World) (ts : Log) (r : Played Local) → CoverAll w ts r.ops → Collected w ts r r
itself w ts r h = record { out = refl; cells = refl; cover = h }

reduction_of : (c : Choice) → is_reduction c ≡ true → c ≡ Reduction
reduction_of Reduction h = refl
reduction_of Shared h = cc
reduction_of Atomic h = cc

name_collected : (w : World) (ts : Log) (x : List ℕ) (t : Tree Local) (c : List ℕ) (b : Bool) → (w.active x && is_reduction (w.choice x)) ≡ b → AllAccessed w → ((w.active x && is_reduction (w.choice x)) ≡ true → Common w x) → CoverAll w ts (play t c).ops
    → ((p : ℕ) → p < w.shared → slice_index (play t c).cells (w.shared + p) < 2 ^ 64) → Collected w ts (play (cond b (with_collection_at w (place_of w.site x []) t) t) c) (play t c)
name_collected w ts x t c false e all common h small = itself w ts (play t c) h
name_collected w ts x t c true e all common h small =
    let k = common e in
    let st = stands w.site.keys x [] k.q k.place in
    subst (λ (o : Option ℕ). Collected w ts (play (with_collection_at w o t) c) (play t c)) (sym k.place)
    (rw (is_less k.q w.shared k.shared) (one_collected w ts k.q t c all k.shared (ap w.choice st.named ∙ reduction_of (w.choice x) (and_parts (w.active x) (is_reduction (w.choice x)) e).1) h (small k.q k.shared)))

pub collections_played : (w : World) (ts : Log) (names : List (List ℕ)) (t : Tree Local) (c : List ℕ) → AllAccessed w → AllSummed w names → CoverAll w ts (play t c).ops → ((p : ℕ) → p < w.shared → slice_index (play t c).cells (w.shared + p) < 2 ^ 64)
    → Collected w ts (play (with_collections w names t) c) (play t c)
collections_played w ts [] t c all common h small = itself w ts (play t c) h
collections_played w ts (x ∷ xs) t c all common h small =
    let one = name_collected w ts x t c (w.active x && is_reduction (w.choice x)) refl all common.0 h small in
    let more = collections_played w ts xs (cond (w.active x && is_reduction (w.choice x)) (with_collection_at w (place_of w.site x []) t) t) c all common.1 one.cover (λ p i. subst (λ (d : List ℕ). slice_index d (w.shared + p) < 2 ^ 64) (sym one.cells) (small p i)) in
    record { out = more.out ∙ one.out; cells = more.cells ∙ one.cells; cover = more.cover }

-- Arrays that a parallel loop doesn't assign hold the same throughout its iterations.
use Rattle.std.proofs.Common.{◌≡◌, ℕ, Bool, true, false, not, ◌||◌, List, [], ◌∷◌, refl, ap, sym, ◌∙◌, Option, Some, None, Ok}
use Rattle.std.specs.Prelude.{bytes_eq, if◌then◌else◌, filter}
use Rattle.std.proofs.lemmas.Bool.{and_parts}
use Rattle.std.proofs.lemmas.Slice.Eq.{bytes_eq-Decides}
use Rattle.fl_ast.specs.declared.decl.Decl.{Decl}
use Rattle.fl_ast.specs.Tree.{Statement, assignment, branch, loop, Statements, no_statements, statement}
use Rattle.fl_types.specs.declared.sharing.Sharing.{Sharing}
use Rattle.fl_types.specs.declared.sharing.Sharing.TheVariants.{Shared, Private, First, Plus, LoopVar}
use Rattle.fl_types.specs.Nests.{Head, is_nest, inner_head}
use Rattle.fl_types.specs.Sharing.{has_name, is_ring_name, varies, varies_in, sharing_in, is_accessed, is_private, makes_accesses}
use Rattle.meaning.specs.declared.value.Value.TheVariants.{Index}
use Rattle.meaning.specs.declared.value.IterationCount.{IterationCount}
use Rattle.meaning.specs.Sites.{Cells, Site, in_turn, in_iteration}
use Rattle.meaning.specs.Statements.{Heads, value_at, turns, one_turn, run, run_all}
use Rattle.meaning.specs.Sequential.{is_sequential, are_sequential}
use Rattle.meaning.specs.Reached.{cells_with, iteration_cells}
use Rattle.meaning.specs.Groups.{iteration_of}
use Rattle.index_forms.specs.Loops.{HeadedLoop, inside, further, written_by, written_in, is_fixed}
use Rattle.index_law.specs.Starts.{IsBegun}
use Rattle.index_law.specs.Valuations.{HoldsFixed}
use Rattle.index_law.specs.Fixed.{AreOff}
use Rattle.index_law.proofs.Steps.{or_first, or_second, or_both, one_kept, other_set, turns_kept}
use Rattle.index_law.proofs.Iterations.{invariants_hold}
use Rattle.index_law.proofs.Starts.{variable_names, names_of_heads}

not_false : (b : Bool) → not b ≡ true → b ≡ false
not_false true h = cc
not_false false h = refl

pub unwritten_fixed : (decls : List Decl) (l : HeadedLoop) (x : List ℕ) → is_fixed decls l x ≡ true → has_name x (written_in (inside l)) ≡ false
unwritten_fixed decls l x e =
    let a = and_parts (makes_accesses l.loop.outer l.loop.var l.loop.directive l.loop.body x) (not (has_name x (written_in (inside l)) || is_ring_name decls x)) e in
    or_first (has_name x (written_in (inside l))) (is_ring_name decls x) (not_false (has_name x (written_in (inside l)) || is_ring_name decls x) a.1)

accessed_fixed : (decls : List Decl) (l : HeadedLoop) (x : List ℕ) → is_fixed decls l x ≡ true → is_accessed (sharing_in l.loop.var l.loop.directive l.loop.body x) ≡ true
accessed_fixed decls l x e =
    let a = and_parts (makes_accesses l.loop.outer l.loop.var l.loop.directive l.loop.body x) (not (has_name x (written_in (inside l)) || is_ring_name decls x)) e in
    (and_parts (not (has_name x l.loop.outer)) (is_accessed (sharing_in l.loop.var l.loop.directive l.loop.body x)) a.0).1

-- ---- the class of such a name

not_private : (s : Sharing) → is_accessed s ≡ true → is_private s ≡ false
not_private Shared h = refl
not_private First h = refl
not_private Plus h = refl
not_private Private h = cc
not_private LoopVar h = cc

unfiltered : (p : List ℕ → Bool) (names : List (List ℕ)) (x : List ℕ) → p x ≡ false → has_name x (filter p names) ≡ false
unfiltered p [] x e = refl
unfiltered p (y ∷ names) x e = by_test (p y) (bytes_eq x y) refl refl (unfiltered p names x e)
  where
    by_test : (b d : Bool) → p y ≡ b → bytes_eq x y ≡ d → has_name x (filter p names) ≡ false → has_name x (if b then y ∷ filter p names else filter p names) ≡ false
    by_test true true g h i = let t : true ≡ false = sym g ∙ (ap p (sym ((bytes_eq-Decides x y).0 h)) ∙ e) in cc
    by_test true false g h i = or_both (bytes_eq x y) (has_name x (filter p names)) h i
    by_test false d g h i = i

no_variable : (b : Bool) (s : Sharing) → is_accessed (if b then LoopVar else s) ≡ true → b ≡ false
no_variable true s h = cc
no_variable false s h = refl

-- a name that no loop of a body varies isn't the variable of the one that is collapsed
other_head : (x : List ℕ) (b : Bool) (body : Statements) (h : Head) → varies_in x body ≡ false → (if b then inner_head body else None) ≡ Some h → bytes_eq x h.var ≡ false
other_head x false body h e g = cc
other_head x true no_statements h e g = cc
other_head x true (statement (assignment line atomic p v) ss) h e g = cc
other_head x true (statement (branch line arms other) ss) h e g = cc
other_head x true (statement (loop line number directive var low high step body) ss) h e g =
    let i : record { line = line; var = var; first = low; last = high; step = step } ≡ h = cc in
    ap (λ (w : Head). bytes_eq x w.var) (sym i) ∙ or_first (bytes_eq x var) (varies_in x body) (or_first (varies x (loop line number directive var low high step body)) (varies_in x ss) e)

off_heads : (x : List ℕ) (h : Head) (more : Option Head) → bytes_eq x h.var ≡ false → ((g : Head) → more ≡ Some g → bytes_eq x g.var ≡ false) → has_name x (variable_names h more) ≡ false
off_heads x h None e g = or_both (bytes_eq x h.var) false e refl
off_heads x h (Some i) e g = or_both (bytes_eq x h.var) (bytes_eq x i.var || false) e (or_both (bytes_eq x i.var) false (g i refl) refl)

pub fixed_at_start : (decls : List Decl) (l : HeadedLoop) (site : Site) (heads : Heads) (cells : Cells) → IsBegun l site heads cells → (k : ℕ) (c : Cells) → (turns k (iteration_of site l.loop heads) cells).out ≡ Ok c →
    HoldsFixed (is_fixed decls l) cells (in_iteration site l.loop.directive l.loop.var l.loop.body) (iteration_cells site l.loop.directive l.loop.var l.loop.body heads k c)
fixed_at_start decls l site heads cells b k c r x e =
    let class = sharing_in l.loop.var l.loop.directive l.loop.body x in
    let a : is_accessed class ≡ true = accessed_fixed decls l x e in
    let v : (bytes_eq x l.loop.var || varies_in x l.loop.body) ≡ false = no_variable (bytes_eq x l.loop.var || varies_in x l.loop.body) _ a in
    let own : bytes_eq x l.head.var ≡ false = ap (bytes_eq x) (sym b.variable) ∙ or_first (bytes_eq x l.loop.var) (varies_in x l.loop.body) v in
    let others : (g : Head) → further l ≡ Some g → bytes_eq x g.var ≡ false = λ g i. other_head x (is_nest l.loop.directive l.loop.body) l.loop.body g (or_second (bytes_eq x l.loop.var) (varies_in x l.loop.body) v) i in
    invariants_hold site l.loop heads b.sequential k cells c r x
    (record {
      no_variable = ap (has_name x) (names_of_heads l.head (further l) site cells heads b.counted) ∙ off_heads x l.head (further l) own others;
      not_private = unfiltered (λ y. is_private (sharing_in l.loop.var l.loop.directive l.loop.body y)) site.declared x (not_private class a);
      unwritten = unwritten_fixed decls l x e;
    })

-- ---- along a run

pub fixed_after : (fixed : List ℕ → Bool) (s : Statement) (site : Site) (before cells d : Cells) → is_sequential s ≡ true → AreOff fixed (written_by s) → (run s site cells).out ≡ Ok d → HoldsFixed fixed before site cells → HoldsFixed fixed before site d
fixed_after fixed s site before cells d q off r h x e ss = one_kept s site cells d q r x (off x e) ss ∙ h x e ss

pub fixed_inside : (fixed : List ℕ → Bool) (var : List ℕ) (body : Statements) (site : Site) (before cells c : Cells) (t : IterationCount) (m : ℕ) → are_sequential body ≡ true → AreOff fixed (var ∷ written_in body) →
    (turns m (one_turn site var t (run_all body)) cells).out ≡ Ok c → HoldsFixed fixed before site cells → HoldsFixed fixed before (in_turn site var) (cells_with site var (value_at t m) c)
fixed_inside fixed var body site before cells c t m q off r h x e ss =
    let n : bytes_eq x var ≡ false = or_first (bytes_eq x var) (has_name x (written_in body)) (off x e) in
    other_set site var (Some (Index (value_at t m))) c x ss n
    ∙ (turns_kept site var t body q m cells c r x n (or_second (bytes_eq x var) (has_name x (written_in body)) (off x e)) ss ∙ h x e ss)

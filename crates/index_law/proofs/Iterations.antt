-- What a parallel loop doesn't write stays through its iterations.
use Rattle.std.proofs.Common.{◌≡◌, ℕ, zero, suc, Bool, true, false, ℤ, List, [], ◌∷◌, refl, ap, sym, ◌∙◌, Some, None, Ok}
use Rattle.std.specs.Prelude.{bytes_eq, if◌then◌else◌, ◌/◌, ◌%◌}
use Rattle.fl_ast.specs.Tree.{assignment, branch, loop, Statements, no_statements, statement}
use Rattle.fl_types.specs.Nests.{is_nest, inner_body, iteration_body}
use Rattle.fl_types.specs.Sharing.{has_name, ParallelLoop}
use Rattle.meaning.specs.declared.value.Value.TheVariants.{Index}
use Rattle.meaning.specs.Logs.{Log}
use Rattle.meaning.specs.Sites.{Cells, Site, place_of, in_iteration}
use Rattle.meaning.specs.Statements.{Run, with_log, set_at, turns, value_at, private_names, private_words, with_all_unset, unset_log, Heads, iterations, with_variables, run_all, run_inner}
use Rattle.meaning.specs.Sequential.{are_sequential}
use Rattle.meaning.specs.Frame.{content_by_name}
use Rattle.meaning.specs.Reached.{cells_with, cells_with_heads, iteration_cells}
use Rattle.meaning.specs.Groups.{iteration_of}
use Rattle.meaning.proofs.Parts.{bound}
use Rattle.index_law.specs.Iterations.{head_names, Stays}
use Rattle.index_law.proofs.Steps.{or_first, or_second, other_set, all_kept}

-- ---- other names

unset_kept : (site : Site) (names : List (List ℕ)) (c : Cells) (x : List ℕ) (ss : List ℤ) → has_name x names ≡ false → content_by_name site (with_all_unset site names c) x ss ≡ content_by_name site c x ss
unset_kept site [] c x ss e = refl
unset_kept site (y ∷ names) c x ss e =
    unset_kept site names (set_at (place_of site y []) None c) x ss (or_second (bytes_eq x y) (has_name x names) e) ∙ other_set site y None c x ss (or_first (bytes_eq x y) (has_name x names) e)

pub heads_kept : (site : Site) (heads : Heads) (k : ℕ) (c : Cells) (x : List ℕ) (ss : List ℤ) → has_name x (head_names heads) ≡ false → content_by_name site (cells_with_heads site heads k c) x ss ≡ content_by_name site c x ss
heads_kept site [] k c x ss e = refl
heads_kept site (h ∷ []) k c x ss e = other_set site h.0 (Some (Index (value_at h.1 k))) c x ss (or_first (bytes_eq x h.0) false e)
heads_kept site (h ∷ g ∷ hs) k c x ss e =
    heads_kept site (g ∷ hs) (k % iterations (g ∷ hs)) (cells_with site h.0 (value_at h.1 (k / iterations (g ∷ hs))) c) x ss (or_second (bytes_eq x h.0) (has_name x (head_names (g ∷ hs))) e)
    ∙ other_set site h.0 (Some (Index (value_at h.1 (k / iterations (g ∷ hs))))) c x ss (or_first (bytes_eq x h.0) (has_name x (head_names (g ∷ hs))) e)

begun_kept : (site : Site) (l : ParallelLoop) (heads : Heads) (k : ℕ) (c : Cells) (x : List ℕ) (ss : List ℤ) → Stays site l heads x → content_by_name site (iteration_cells site l.directive l.var l.body heads k c) x ss ≡ content_by_name site c x ss
begun_kept site l heads k c x ss w =
    heads_kept site heads k (with_all_unset site (private_names site l.directive l.var l.body) c) x ss w.no_variable ∙ unset_kept site (private_names site l.directive l.var l.body) c x ss w.not_private

-- ---- an iteration that went through

variables_out : (site : Site) (heads : Heads) (k : ℕ) (f : Run) (c : Cells) → (with_variables site heads k f c).out ≡ (f (cells_with_heads site heads k c)).out
variables_out site [] k f c = refl
variables_out site (h ∷ []) k f c = refl
variables_out site (h ∷ g ∷ hs) k f c = variables_out site (g ∷ hs) (k % iterations (g ∷ hs)) f (cells_with site h.0 (value_at h.1 (k / iterations (g ∷ hs))) c)

with_log_same : (l : Log) (c d : Cells) → (with_log l c).out ≡ Ok d → c ≡ d
with_log_same l c d h = cc

inner_out : (body : Statements) (s : Site) (c d : Cells) → (run_inner body s c).out ≡ Ok d → (run_all (inner_body body) s c).out ≡ Ok d
inner_out no_statements s c d h = h
inner_out (statement (assignment line atomic p e) ss) s c d h = h
inner_out (statement (branch line arms other) ss) s c d h = h
inner_out (statement (loop line number directive var low high step body) ss) s c d h = h

body_out : (b : Bool) (body : Statements) (s : Site) (c d : Cells) → ((if b then run_inner body else run_all body) s c).out ≡ Ok d → (run_all (if b then inner_body body else body) s c).out ≡ Ok d
body_out true body s c d h = inner_out body s c d h
body_out false body s c d h = h

pub iteration_out : (site : Site) (l : ParallelLoop) (heads : Heads) (k : ℕ) (c d : Cells) → (iteration_of site l heads k c).out ≡ Ok d →
    (run_all (iteration_body l.directive l.body) (in_iteration site l.directive l.var l.body) (iteration_cells site l.directive l.var l.body heads k c)).out ≡ Ok d
iteration_out site l heads k c d h =
    let names = private_names site l.directive l.var l.body in
    let s = in_iteration site l.directive l.var l.body in
    let inner : Site → Run = if is_nest l.directive l.body then run_inner l.body else run_all l.body in
    let b = bound (Rattle.meaning.specs.Logs.after (unset_log site names) (with_variables site heads k (inner s) (with_all_unset site names c))) (λ z. with_log (private_words site l.body names z) z) d h in
    let e : (inner s (iteration_cells site l.directive l.var l.body heads k c)).out ≡ Ok b.value = sym (variables_out site heads k (inner s) (with_all_unset site names c)) ∙ b.first in
    body_out (is_nest l.directive l.body) l.body s (iteration_cells site l.directive l.var l.body heads k c) d (e ∙ ap Ok (with_log_same (private_words site l.body names b.value) b.value d b.second))

turns_stay : (site : Site) (l : ParallelLoop) (heads : Heads) → are_sequential (iteration_body l.directive l.body) ≡ true → (k : ℕ) (cells c : Cells) → (turns k (iteration_of site l heads) cells).out ≡ Ok c →
    (x : List ℕ) → Stays site l heads x → (ss : List ℤ) → content_by_name site c x ss ≡ content_by_name site cells x ss
turns_stay site l heads q zero cells c r x w ss = let i : cells ≡ c = cc in ap (λ (z : Cells). content_by_name site z x ss) (sym i)
turns_stay site l heads q (suc k) cells c r x w ss =
    let b = bound (turns k (iteration_of site l heads) cells) (iteration_of site l heads k) c r in
    all_kept (iteration_body l.directive l.body) (in_iteration site l.directive l.var l.body) (iteration_cells site l.directive l.var l.body heads k b.value) c q (iteration_out site l heads k b.value c b.second) x w.unwritten ss
    ∙ (begun_kept site l heads k b.value x ss w ∙ turns_stay site l heads q k cells b.value b.first x w ss)

pub invariants_hold : (site : Site) (l : ParallelLoop) (heads : Heads) → are_sequential (iteration_body l.directive l.body) ≡ true →
    (k : ℕ) (cells c : Cells) → (turns k (iteration_of site l heads) cells).out ≡ Ok c → (x : List ℕ) → Stays site l heads x → (ss : List ℤ) →
    content_by_name site (iteration_cells site l.directive l.var l.body heads k c) x ss ≡ content_by_name site cells x ss
invariants_hold site l heads q k cells c r x w ss = begun_kept site l heads k c x ss w ∙ turns_stay site l heads q k cells c r x w ss

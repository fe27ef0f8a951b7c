-- Where a program begins.
use Rattle.std.specs.Prelude.{◌≡◌, ℕ, zero, suc, ◌<◌, ◌^◌, Bool, true, false, ◌&&◌, All, List, [], ◌∷◌, map, length, Option, Some, None, refl}
use Rattle.std.proofs.Common.{ap, sym, subst, ◌∙◌, arith}
use Rattle.fl_ast.specs.declared.decl.Decl.{Decl}
use Rattle.fl_ast.specs.declared.stmt.Program.{Program}
use Rattle.fl_ast.specs.declared.stmt.Stmt.{Stmt}
use Rattle.fl_ast.specs.Tree.{Subroutine, Statements, no_statements, stmt_trees, program_tree}
use Rattle.fl_types.specs.Kinds.{declared_names, are_well_kinded_statements}
use Rattle.fl_types.specs.WellTyped.{IsTyped}
use Rattle.store_core.specs.declared.layout.Shape.{Shape}
use Rattle.store_core.specs.declared.values.Entry.{Entry}
use Rattle.store_core.specs.Keys.{keys_of, with_scalars}
use Rattle.store_core.specs.Places.{shapes_of}
use Rattle.meaning.specs.declared.value.Value.{Value}
use Rattle.meaning.specs.declared.value.Value.TheVariants.{Index, Ring}
use Rattle.meaning.specs.Sites.{Key, Cells, Site, with_tangent, opening_site}
use Rattle.meaning.specs.Fitting.{Fits, CellsFit, IsWellKinded, names_at}
use Rattle.meaning.specs.Stops.{Judge}
use Rattle.meaning.specs.Adjoints.{cells_along}
use Rattle.meaning.specs.Programs.{entry_site, entry_cells, cells_of, no_pushes}
use Rattle.meaning.proofs.Entries.{entries_fit}
use Rattle.meaning.proofs.Layouts.{programs_kinded}
use Rattle.meaning.proofs.NamesOfKinds.{kinds_by_names}
use Rattle.resolved.specs.SlotTables.{Names, kind_at, named_kind, kinds_of, names_of, table_site}
use Rattle.resolved.specs.ResolvedExprs.{slot_name}
use Rattle.sweep_trees.specs.Standing.{is_accessed_at}
use Rattle.sweep_steps.specs.Steps.{StepTrees}
use Rattle.sweep_steps.specs.StepsStand.{flags_at, AllStand}
use Rattle.made_steps.specs.Scopes.{are_declared_placed, IsOutside}
use Rattle.loop_scopes.proofs.Opening.{opening_outside}
use Rattle.sweep_law.specs.Telling.{IsSite}
use Rattle.forward_law.specs.Forward.{Beside}
use Rattle.dual_meaning.specs.Tangents.{shape_cells}
use Rattle.dual_meaning.proofs.Entering.{entered}
use Rattle.dual_meaning.proofs.Names.{ring_by_names}
use Rattle.forward_run.specs.Swept.{opening_standing, IsOpened}
use Rattle.forward_run.proofs.Flat.{readable_flat}

kinds_at : (ds : List Decl) (shapes : List Shape) (slot : ℕ) → slot < length shapes → named_kind ds (slot_name shapes slot) ≡ kind_at (kinds_of ds shapes) slot
kinds_at ds [] slot h = absurd (omega (arith, h))
kinds_at ds (s ∷ shapes) zero h = refl
kinds_at ds (s ∷ shapes) (suc slot) h = kinds_at ds shapes slot (omega (arith, h))

none_there : (b : Bool) → false ≡ (b && false)
none_there true = refl
none_there false = refl

opening_is : (shapes : List Shape) (ds : List Decl) (pushed : List ℕ → Bool) → IsSite (opening_site ds shapes pushed) (names_of shapes ds) (flags_at (names_of shapes ds) (opening_site ds shapes pushed)) false
opening_is shapes ds pushed = record {
  keys = refl;
  width = refl;
  kinds = kinds_at ds (with_scalars shapes ds);
  accesses = λ slot h. none_there (is_accessed_at (flags_at (names_of shapes ds) (opening_site ds shapes pushed)) slot);
}

still : (c : Option Value) → with_tangent 0 (with_tangent 0 c) ≡ with_tangent 0 c
still None = refl
still (Some (Index z)) = refl
still (Some (Ring d)) = refl

along_again : (s : Cells) → cells_along [] (cells_along [] s) ≡ cells_along [] s
along_again [] = refl
along_again (c ∷ s) = rw (still c, along_again s) refl

pub opened_beside : (judge : Judge) (p : Subroutine) (shapes : List Shape) (pushed : List ℕ → Bool) (words : List ℕ) (names : Names) (ts : StepTrees) (cells : Cells)
    → IsOpened p shapes pushed words names ts cells
    → Beside names (entry_site p shapes pushed) false (opening_standing judge names cells) (cells_along [] (entry_cells p shapes words))
opened_beside judge p shapes pushed words names ts cells o = record {
  named = refl;
  limits = refl;
  around = refl;
  outside = λ e. (refl, refl);
  site_is = subst (λ (n : Names). IsSite (entry_site p shapes pushed) n (flags_at n (entry_site p shapes pushed)) false) (sym o.named) (opening_is shapes p.decls pushed);
  fits = subst (Fits (entry_site p shapes pushed)) o.entry o.fits;
  cells = o.entry ∙ sym (along_again (entry_cells p shapes words));
}

-- ---- the cells at the entry

pub cells_are : (ds : List Decl) (shapes : List Shape) (names : Names) (args : List (List ℕ)) (ws : List ℕ) (cells : Cells) → names ≡ names_of shapes ds → cells ≡ shape_cells (named_kind ds) args ws [] 0 names.0
    → cells ≡ cells_along [] (cells_of (opening_site ds shapes no_pushes) args (keys_of (with_scalars shapes ds)) ws)
cells_are ds shapes names args ws cells n e =
    let t : names.0 ≡ with_scalars shapes ds = ap (λ (m : Names). m.0) n in
    e ∙ ap (λ (es : List Shape). shape_cells (named_kind ds) args ws [] 0 es) t ∙ entered ds shapes (with_scalars shapes ds) args ws []

pub cells_fit : (ds : List Decl) (shapes : List Shape) (names : Names) (args : List (List ℕ)) (ws : List ℕ) (cells : Cells) (pushed : List ℕ → Bool) → All (λ w. w < 2 ^ 64) ws → names ≡ names_of shapes ds
    → cells ≡ shape_cells (named_kind ds) args ws [] 0 names.0 → Fits (opening_site ds shapes pushed) cells
cells_fit ds shapes names args ws cells pushed small n e =
    let p : Subroutine = record { name = []; args = args; decls = ds; body = no_statements } in
    subst (Fits (opening_site ds shapes pushed)) (sym (cells_are ds shapes names args ws cells n e)) (entries_fit p shapes pushed ws [] small)

-- ---- trees

-- by the names of a table a tree is as well kinded as at the opening
pub table_kinded : (shapes : List Shape) (ds : List Decl) (names : Names) (body back : Statements) → names ≡ names_of shapes ds → back ≡ body → IsWellKinded (opening_site ds shapes no_pushes) body
    → are_well_kinded_statements (names_at (table_site names)) back ≡ true
table_kinded shapes ds names body back n b h =
    let k : are_well_kinded_statements (names_at (table_site (names_of shapes ds))) body ≡ true =
    kinds_by_names (names_at (opening_site ds shapes no_pushes)) (names_at (table_site (names_of shapes ds))) (λ x. sym (ring_by_names shapes ds x)) (λ x n h. h) body h in
    subst (λ (m : Names). are_well_kinded_statements (names_at (table_site m)) back ≡ true) (sym n)
    (subst (λ (ss : Statements). are_well_kinded_statements (names_at (table_site (names_of shapes ds))) ss ≡ true) (sym b) k)

pub table_placed : (shapes : List Shape) (ds : List Decl) (names : Names) → names ≡ names_of shapes ds → are_declared_placed names ≡ true
table_placed shapes ds names n = subst (λ (m : Names). are_declared_placed m ≡ true) (sym n) (opening_outside shapes ds no_pushes).0

-- a table's opening is outside of loops
pub table_outside : (shapes : List Shape) (ds : List Decl) (names : Names) (pushed : List ℕ → Bool) (marks : List Bool) → names ≡ names_of shapes ds → marks ≡ map (λ (s : Shape). pushed s.name) names.0
    → IsOutside names marks (opening_site ds shapes pushed)
table_outside shapes ds names pushed marks n m =
    let k : marks ≡ map (λ (s : Shape). pushed s.name) (with_scalars shapes ds) = m ∙ ap (λ (a : Names). map (λ (s : Shape). pushed s.name) a.0) n in
    subst (λ (ms : List Bool). IsOutside names ms (opening_site ds shapes pushed)) (sym k)
    (subst (λ (a : Names). IsOutside a (map (λ (s : Shape). pushed s.name) (with_scalars shapes ds)) (opening_site ds shapes pushed)) (sym n) (opening_outside shapes ds pushed).1)

-- ---- programs

pub well_kinded : (p q : Program) (decls : List Decl) (body : List Stmt) (shapes : List Shape) (values : List Entry) → IsTyped p → q ≡ p → decls ≡ q.decls → body ≡ q.body → shapes ≡ shapes_of p values
    → IsWellKinded (opening_site decls shapes no_pushes) (stmt_trees body)
well_kinded p q decls body shapes values t same d b s =
    let k : IsWellKinded (opening_site p.decls (shapes_of p values) no_pushes) (stmt_trees p.body) = programs_kinded p values no_pushes t.once t.arrays t.kinds in
    let d' : p.decls ≡ decls = sym (d ∙ ap (λ (x : Program). x.decls) same) in
    let b' : p.body ≡ body = sym (b ∙ ap (λ (x : Program). x.body) same) in
    subst (λ (x : List Decl). IsWellKinded (opening_site x shapes no_pushes) (stmt_trees body)) d'
    (subst (λ (x : List Shape). IsWellKinded (opening_site p.decls x no_pushes) (stmt_trees body)) (sym s)
    (subst (λ (x : List Stmt). IsWellKinded (opening_site p.decls (shapes_of p values) no_pushes) (stmt_trees x)) b' k))

pub kinds_declared : (p q : Program) (decls : List Decl) (body : List Stmt) → IsTyped p → q ≡ p → decls ≡ q.decls → body ≡ q.body → are_well_kinded_statements (declared_names decls) (stmt_trees body) ≡ true
kinds_declared p q decls body t same d b =
    subst (λ (x : List Decl). are_well_kinded_statements (declared_names x) (stmt_trees body) ≡ true) (sym (d ∙ ap (λ (x : Program). x.decls) same))
    (subst (λ (x : List Stmt). are_well_kinded_statements (declared_names p.decls) (stmt_trees x) ≡ true) (sym (b ∙ ap (λ (x : Program). x.body) same)) t.kinds)

pub opened_is : (p q : Program) (decls : List Decl) (body : List Stmt) (args : List (List ℕ)) (shapes : List Shape) (values : List Entry) (pushed : List ℕ → Bool) (ws words : List ℕ) (names : Names) (ts : StepTrees) (cells : Cells)
    → IsTyped p → q ≡ p → decls ≡ q.decls → body ≡ q.body → args ≡ q.args → shapes ≡ shapes_of p values → ws ≡ words → names ≡ names_of shapes decls
    → AllStand names (opening_site decls shapes pushed) ts (stmt_trees body)
    → cells ≡ cells_along [] (cells_of (opening_site decls shapes no_pushes) args (keys_of (with_scalars shapes decls)) ws) → Fits (opening_site decls shapes pushed) cells
    → IsOpened (program_tree p) shapes pushed words names ts cells
opened_is p q decls body args shapes values pushed ws words names ts cells t same d b a s w n h c f =
    let d' : decls ≡ p.decls = d ∙ ap (λ (x : Program). x.decls) same in
    let b' : body ≡ p.body = b ∙ ap (λ (x : Program). x.body) same in
    let a' : args ≡ p.args = a ∙ ap (λ (x : Program). x.args) same in
    record {
      named = n ∙ ap (names_of shapes) d';
      stands = subst (λ (x : List Decl). AllStand names (opening_site x shapes pushed) ts (stmt_trees p.body)) d' (subst (λ (x : List Stmt). AllStand names (opening_site decls shapes pushed) ts (stmt_trees x)) b' h);
      kinded = subst (λ (x : List Shape). IsWellKinded (opening_site p.decls x pushed) (stmt_trees p.body)) (sym s) (programs_kinded p values pushed t.once t.arrays t.kinds);
      flat = readable_flat (stmt_trees p.body) t.readable.body;
      entry = c ∙ ap (λ (x : List Decl). cells_along [] (cells_of (opening_site x shapes no_pushes) args (keys_of (with_scalars shapes x)) ws)) d'
          ∙ ap (λ (x : List (List ℕ)). cells_along [] (cells_of (opening_site p.decls shapes no_pushes) x (keys_of (with_scalars shapes p.decls)) ws)) a'
          ∙ ap (λ (x : List ℕ). cells_along [] (cells_of (opening_site p.decls shapes no_pushes) p.args (keys_of (with_scalars shapes p.decls)) x)) w;
      fits = subst (λ (x : List Decl). Fits (opening_site x shapes pushed) cells) d' f;
    }

pub many_cells : (site : Site) (cells : Cells) → Fits site cells → length cells ≡ length site.keys
many_cells site cells f = by_keys site.keys cells f
  where
    by_keys : (ks : List Key) (cs : Cells) → CellsFit site ks cs → length cs ≡ length ks
    by_keys [] [] h = refl
    by_keys [] (c ∷ cs) h = absurd h
    by_keys (k ∷ ks) [] h = absurd h
    by_keys (k ∷ ks) (c ∷ cs) h = ap suc (by_keys ks cs h.1)

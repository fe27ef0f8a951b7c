-- What is told by slot is told of the world of a program.
use Rattle.std.proofs.Common.{◌≡◌, ℕ, ◌<◌, Bool, List, map, length, sym, ap, subst, ◌∙◌}
use Rattle.std.specs.Prelude.{slice_get}
use Rattle.fl_ast.specs.declared.decl.Decl.{Decl}
use Rattle.fl_ast.specs.declared.stmt.Program.{Program}
use Rattle.fl_ast.specs.declared.stmt.Stmt.{Stmt}
use Rattle.fl_ast.specs.Tree.{Statements, stmt_trees, program_tree}
use Rattle.fl_types.specs.declared.choice.Chosen.{Chosen}
use Rattle.fl_types.specs.declared.choice.Choice.{Choice}
use Rattle.store_core.specs.declared.layout.Shape.{Shape}
use Rattle.store_core.specs.Keys.{keys_of}
use Rattle.resolved.specs.SlotTables.{Names, names_of}
use Rattle.resolved.specs.ResolvedExprs.{slot_name}
use Rattle.transposition.specs.Worlds.{World}
use Rattle.undo_steps.specs.UndoSteps.{UndoTrees}
use Rattle.undo_steps.specs.UndosStand.{AllUndoStand}
use Rattle.made_growths.specs.Told.{Told, in_row}
use Rattle.made_undos.specs.UndoScopes.{IsUndoOutside}
use Rattle.made_undos.proofs.Opening.{opening_undone}
use Rattle.loop_choices.specs.Choosing.{choice_in}
use Rattle.reverse_opening.specs.Chosen.{chosen_world, IsUndone}

-- the world of a program, for what is told by slot
outside_of : (p : Program) (shapes : List Shape) (pushed active : List ℕ → Bool) (cs : List Chosen) (names : Names) (t : Told) → names ≡ names_of shapes p.decls
    → t.pushed ≡ map (λ (s : Shape). pushed s.name) names.0 → t.active ≡ map (λ (s : Shape). active s.name) names.0
    → ((number slot : ℕ) → slot < length names.0 → choice_in cs number (slot_name names.0 slot) ≡ in_row (slice_get t.choices number) slot) → t.shared ≡ length (keys_of shapes)
    → IsUndoOutside names t (chosen_world (program_tree p) shapes pushed active cs)
outside_of p shapes pushed active cs names t n e a c s =
    let goal : Names → Type 0 = λ m. t.pushed ≡ map (λ (s : Shape). pushed s.name) m.0 → t.active ≡ map (λ (s : Shape). active s.name) m.0
    → ((number slot : ℕ) → slot < length m.0 → choice_in cs number (slot_name m.0 slot) ≡ in_row (slice_get t.choices number) slot)
    → IsUndoOutside m t (chosen_world (program_tree p) shapes pushed active cs) in
    subst goal (sym n) (λ e' a' c'. (opening_undone (program_tree p) shapes pushed active (choice_in cs) t e' a' c' s).1) e a c

pub undone_is : (p q : Program) (decls : List Decl) (body : List Stmt) (shapes : List Shape) (pushed active : List ℕ → Bool) (cs : List Chosen) (names : Names) (t : Told) (us : UndoTrees) (back : Statements)
    → q ≡ p → decls ≡ q.decls → body ≡ q.body → names ≡ names_of shapes decls → back ≡ stmt_trees body
    → t.pushed ≡ map (λ (s : Shape). pushed s.name) names.0 → t.active ≡ map (λ (s : Shape). active s.name) names.0
    → ((number slot : ℕ) → slot < length names.0 → choice_in cs number (slot_name names.0 slot) ≡ in_row (slice_get t.choices number) slot) → t.shared ≡ length (keys_of shapes)
    → ((w : World) → IsUndoOutside names t w → AllUndoStand names w us back)
    → IsUndone (program_tree p) shapes pushed active cs names us
undone_is p q decls body shapes pushed active cs names t us back same d b n k e a c s f =
    let named : names ≡ names_of shapes p.decls = n ∙ ap (names_of shapes) (d ∙ ap (λ (x : Program). x.decls) same) in
    record {
      named = named;
      stands = subst (λ (ss : Statements). AllUndoStand names (chosen_world (program_tree p) shapes pushed active cs) us ss) (k ∙ ap stmt_trees (b ∙ ap (λ (x : Program). x.body) same))
          (f (chosen_world (program_tree p) shapes pushed active cs) (outside_of p shapes pushed active cs names t named e a c s));
    }

-- the same of other names for the lists
pub rows_at : (shapes others : List Shape) (cs ds : List Chosen) (rows more : List (List Choice)) → shapes ≡ others → ds ≡ cs → more ≡ rows
    → ((number slot : ℕ) → slot < length shapes → choice_in ds number (slot_name shapes slot) ≡ in_row (slice_get rows number) slot)
    → (number slot : ℕ) → slot < length others → choice_in cs number (slot_name others slot) ≡ in_row (slice_get more number) slot
rows_at shapes others cs ds rows more s d m f =
    subst (λ (es : List Shape). (number slot : ℕ) → slot < length es → choice_in cs number (slot_name es slot) ≡ in_row (slice_get more number) slot) s
    (subst (λ (xs : List Chosen). (number slot : ℕ) → slot < length shapes → choice_in xs number (slot_name shapes slot) ≡ in_row (slice_get more number) slot) d
    (subst (λ (rs : List (List Choice)). (number slot : ℕ) → slot < length shapes → choice_in ds number (slot_name shapes slot) ≡ in_row (slice_get rs number) slot) (sym m) f))

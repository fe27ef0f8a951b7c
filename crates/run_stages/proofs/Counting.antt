-- The atomic additions that the machine makes are those that are counted over the program.
use Rattle.std.proofs.Common.{◌≡◌, ℕ, Bool, true, false, not, ◌&&◌, Some, None, List, length, refl, sym, ap, ◌∙◌}
use Rattle.fl_ast.specs.declared.stmt.Program.{Program}
use Rattle.fl_ast.specs.Readable.{IsReadable}
use Rattle.fl_ast.specs.Tree.{Statement, assignment, branch, loop, Statements, no_statements, statement, Arms, no_arms, arm, program_tree, stmt_trees}
use Rattle.store_core.specs.declared.layout.Shape.{Shape}
use Rattle.store_core.specs.declared.values.Args.{Args}
use Rattle.store_core.specs.declared.values.Weights.{Weights}
use Rattle.store_core.specs.Keys.{keys_of}
use Rattle.resolved.specs.SlotTables.{names_of}
use Rattle.loop_choices.specs.Choosing.{choice_in}
use Rattle.adjoint_sets.specs.Names.{is_active, is_needed}
use Rattle.forward_law.specs.Forward as forward
use Rattle.forward_run.proofs.Flat.{readable_flat}
use Rattle.undo_steps.specs.UndoSteps.{UndoTrees}
use Rattle.undo_steps.specs.UndosStand.{AllUndoStand}
use Rattle.reverse_law.specs.Adds as reverse
use Rattle.reverse_law.proofs.Counted.{program_counted}
use Rattle.reverse_run.specs.Undoing.{swept_adds}
use Rattle.answers.specs.Sweeps.{tape_left, run_choices, reverse_world, reverse_entry, seeded_cells}
use Rattle.one_thread.specs.Back.{further}

-- that no parallel loop is in another is said alike of both sweeps
mutual
  one_flat : (inside : Bool) (s : Statement) → forward.is_flat inside s ≡ reverse.is_flat inside s
  one_flat inside (assignment line atomic target value) = refl
  one_flat inside (branch line arms other) =
      ap (λ b. b && forward.are_flat inside other) (arms_flat inside arms) ∙ ap (λ b. reverse.are_arms_flat inside arms && b) (all_flat inside other)
  one_flat inside (loop line number None var first last by body) = all_flat inside body
  one_flat inside (loop line number (Some directive) var first last by body) = ap (λ b. not inside && b) (all_flat true body)

  all_flat : (inside : Bool) (ss : Statements) → forward.are_flat inside ss ≡ reverse.are_flat inside ss
  all_flat inside no_statements = refl
  all_flat inside (statement s ss) =
      ap (λ b. b && forward.are_flat inside ss) (one_flat inside s) ∙ ap (λ b. reverse.is_flat inside s && b) (all_flat inside ss)

  arms_flat : (inside : Bool) (arms : Arms) → forward.are_arms_flat inside arms ≡ reverse.are_arms_flat inside arms
  arms_flat inside no_arms = refl
  arms_flat inside (arm test body rest) =
      ap (λ b. b && forward.are_arms_flat inside rest) (all_flat inside body) ∙ ap (λ b. reverse.are_flat inside body && b) (arms_flat inside rest)

pub adds_counted : (p : Program) (shapes : List Shape) (args : Args) (weights : Weights) (of wrt : List (List ℕ)) (us : UndoTrees) → IsReadable p
    → AllUndoStand (names_of shapes p.decls) (reverse_world p shapes of wrt (run_choices p of wrt)) us (stmt_trees p.body)
    → swept_adds (names_of shapes p.decls) (length (keys_of shapes)) us (tape_left p shapes args of wrt) (further (program_tree p) shapes) (seeded_cells p shapes args weights of wrt)
    ≡ reverse.adds_of_all (stmt_trees p.body) (reverse_world p shapes of wrt (run_choices p of wrt)) (reverse_entry p shapes args of wrt) (seeded_cells p shapes args weights of wrt)
adds_counted p shapes args weights of wrt us r h =
    program_counted (program_tree p) shapes (is_needed p (is_active p of wrt)) (is_active p of wrt) (choice_in (run_choices p of wrt)) us
    (reverse_entry p shapes args of wrt) (seeded_cells p shapes args weights of wrt) h (sym (all_flat false (stmt_trees p.body)) ∙ readable_flat (stmt_trees p.body) r.body)

use Rattle.std.proofs.Common.{◌≡◌, ◌++◌, drop, List}
use Rattle.std.specs.Prelude.{true}
use Rattle.fl_types.specs.Kinds.{are_well_kinded_statements, are_well_kinded_arms}
use Rattle.meaning.specs.Fitting.{names_at}
use Rattle.resolved.specs.SlotTables.{table_site}
use Rattle.resolved.specs.ResolvedStmts.{statements_back, arms_back, are_fit, are_arms_fit}
use Rattle.transposition.specs.Worlds.{World}
use Rattle.undo_steps.specs.UndoSteps.{UndoStep, UndoArm, undo_trees, undo_arm_trees}
use Rattle.undo_steps.specs.UndosStand.{AllUndoStand, UndoArmsStand}
use Rattle.loop_scopes.specs.Loops.{names_in}
use Rattle.made_growths.specs.Told.{told}
use Rattle.made_undos.specs.UndoScopes.{IsUndoScope}
use Rattle.made_undos.proofs.undos.+undos.Given as goal

abbrev pub invariant-make_undos-loop-stmt : goal.invariant-make_undos-loop-stmt
invariant-make_undos-loop-stmt l = record {
  undone : (w : World) → IsUndoScope l.table (told l.names) l.marks.accessed l.marks.reduced l.region (names_in l.loops) w → (rest : List UndoStep)
      → AllUndoStand l.table w (undo_trees rest) (statements_back l.table.0 (drop l.stmt-index l.stmts)) → AllUndoStand l.table w (undo_trees (l.all ++ rest)) (statements_back l.table.0 l.stmts);
  fit : are_fit l.table (drop l.stmt-index l.stmts) ≡ true;
  kinded : are_well_kinded_statements (names_at (table_site l.table)) (statements_back l.table.0 (drop l.stmt-index l.stmts)) ≡ true;
}

abbrev pub invariant-make_arms-loop-arm : goal.invariant-make_arms-loop-arm
invariant-make_arms-loop-arm l = record {
  undone : (w : World) → IsUndoScope l.table (told l.names) l.marks.accessed l.marks.reduced l.region (names_in l.loops) w → (rest : List UndoArm)
      → UndoArmsStand l.table w (undo_arm_trees rest) (arms_back l.table.0 (drop l.arm-index l.arms)) → UndoArmsStand l.table w (undo_arm_trees (l.all ++ rest)) (arms_back l.table.0 l.arms);
  fit : are_arms_fit l.table (drop l.arm-index l.arms) ≡ true;
  kinded : are_well_kinded_arms (names_at (table_site l.table)) (arms_back l.table.0 (drop l.arm-index l.arms)) ≡ true;
}

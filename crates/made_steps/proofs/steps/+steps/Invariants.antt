use Rattle.std.proofs.Common.{◌≡◌, ◌++◌, drop, List}
use Rattle.std.specs.Prelude.{true}
use Rattle.fl_types.specs.Kinds.{are_well_kinded_statements, are_well_kinded_arms}
use Rattle.meaning.specs.Fitting.{names_at}
use Rattle.meaning.specs.Sites.{Site}
use Rattle.resolved.specs.SlotTables.{table_site}
use Rattle.resolved.specs.ResolvedStmts.{statements_back, arms_back, are_fit, are_arms_fit}
use Rattle.sweep_steps.specs.Steps.{Step, StepArm, step_trees, step_arm_trees}
use Rattle.sweep_steps.specs.StepsStand.{AllStand, ArmsStand}
use Rattle.loop_scopes.specs.Loops.{names_in}
use Rattle.loop_scopes.specs.Scopes.{IsScope}
use Rattle.made_steps.proofs.steps.+steps.Given as goal

abbrev pub invariant-make_steps-loop-stmt : goal.invariant-make_steps-loop-stmt
invariant-make_steps-loop-stmt l = record {
  stand : (site : Site) → IsScope l.table l.pushed l.marks.accessed l.marks.reduced (names_in l.loops) site → (rest : List Step)
      → AllStand l.table site (step_trees rest) (statements_back l.table.0 (drop l.stmt-index l.stmts)) → AllStand l.table site (step_trees (l.all ++ rest)) (statements_back l.table.0 l.stmts);
  fit : are_fit l.table (drop l.stmt-index l.stmts) ≡ true;
  kinded : are_well_kinded_statements (names_at (table_site l.table)) (statements_back l.table.0 (drop l.stmt-index l.stmts)) ≡ true;
}

abbrev pub invariant-make_arms-loop-arm : goal.invariant-make_arms-loop-arm
invariant-make_arms-loop-arm l = record {
  stand : (site : Site) → IsScope l.table l.pushed l.marks.accessed l.marks.reduced (names_in l.loops) site → (rest : List StepArm)
      → ArmsStand l.table site (step_arm_trees rest) (arms_back l.table.0 (drop l.arm-index l.arms)) → ArmsStand l.table site (step_arm_trees (l.all ++ rest)) (arms_back l.table.0 l.arms);
  fit : are_arms_fit l.table (drop l.arm-index l.arms) ≡ true;
  kinded : are_well_kinded_arms (names_at (table_site l.table)) (arms_back l.table.0 (drop l.arm-index l.arms)) ≡ true;
}

use Rattle.std.proofs.Common.{List, ℕ, subst, ap, ◌∙◌}
use Rattle.fl_ast.specs.Tree.{Statements, stmt_trees}
use Rattle.fl_types.specs.Sharing.{has_name}
use Rattle.meaning.specs.Sites.{opening_site}
use Rattle.resolved.specs.ResolvedStmts.{statements_back}
use Rattle.sweep_steps.specs.Steps.{step_trees}
use Rattle.sweep_steps.specs.StepsStand.{AllStand}
use Rattle.dual_meaning.proofs.Directions.{if_ok}
use Rattle.forward_run.proofs.Entering.{table_kinded, table_placed, table_outside}
use Rattle.forward_run.proofs.opening.body_of.Goals as goal

pub steps_of-requires-clause-declared : goal.steps_of-requires-clause-declared
steps_of-requires-clause-declared c = table_placed c.args.layout.now c.args.decls.now c.args.table.now c.requires.named

pub steps_of-requires-clause-kinded : goal.steps_of-requires-clause-kinded
steps_of-requires-clause-kinded c =
    table_kinded c.args.layout.now c.args.decls.now c.args.table.now (stmt_trees c.args.body.now) (statements_back c.args.table.now.0 c.as_slice-2.result.now) c.requires.named
    (ap (statements_back c.args.table.now.0) c.as_slice-2.ensures ∙ c.in_ok-stmts.ensures.0) c.requires.well

pub returns : goal.returns
returns c =
    let site = opening_site c.args.decls.now c.args.layout.now (λ (x : List ℕ). has_name x c.args.pushed.now) in
    let b = ap (statements_back c.args.table.now.0) c.as_slice-2.ensures ∙ c.in_ok-stmts.ensures.0 in
    if_ok _ _ c.steps_of.result (λ steps h. subst (λ (ss : Statements). AllStand c.args.table.now site (step_trees steps) ss) b h)
    (c.steps_of.ensures site (table_outside c.args.layout.now c.args.decls.now c.args.table.now (λ (x : List ℕ). has_name x c.args.pushed.now) c.as_slice.result.now c.requires.named (c.as_slice.ensures ∙ c.in_ok-marks.ensures)))

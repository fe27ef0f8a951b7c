use Rattle.std.proofs.Common.{ap, ◌∙◌, map}
use Rattle.fl_ast.specs.Tree.{stmt_trees}
use Rattle.fl_types.specs.Sharing.{has_name}
use Rattle.store_core.specs.declared.layout.Shape.{Shape}
use Rattle.resolved.specs.ResolvedStmts.{statements_back}
use Rattle.forward_run.proofs.Entering.{table_kinded, table_placed, kinds_declared, well_kinded}
use Rattle.undo_steps.specs.UndoSteps.{undo_trees}
use Rattle.reverse_opening.proofs.Worlds.{undone_is, rows_at}
use Rattle.reverse_opening.proofs.opening.open_reverse.Goals as goal

pub stmts_of-requires-clause-kinded : goal.stmts_of-requires-clause-kinded
stmts_of-requires-clause-kinded c =
    kinds_declared c.args.typed.now c.program-program.result.now c.as_slice-decls.result.now c.as_slice.result.now c.program-program.ensures.typed c.program-program.ensures.program c.as_slice-decls.ensures c.as_slice.ensures

pub undos_of-requires-clause-declared : goal.undos_of-requires-clause-declared
undos_of-requires-clause-declared c = table_placed c.args.layout.now c.as_slice-decls.result.now c.in_ok-table.table c.in_ok-table.ensures

pub undos_of-requires-clause-kinded : goal.undos_of-requires-clause-kinded
undos_of-requires-clause-kinded c =
    table_kinded c.args.layout.now c.as_slice-decls.result.now c.in_ok-table.table (stmt_trees c.as_slice.result.now) (statements_back c.in_ok-table.table.0 c.as_slice-8.result.now) c.in_ok-table.ensures
    (ap (statements_back c.in_ok-table.table.0) c.as_slice-8.ensures ∙ c.in_ok-stmts.ensures.0)
    (well_kinded c.args.typed.now c.program-program.result.now c.as_slice-decls.result.now c.as_slice.result.now c.args.layout.now c.args.args.now.entries c.program-program.ensures.typed c.program-program.ensures.program
    c.as_slice-decls.ensures c.as_slice.ensures c.requires.laid)

pub returns : goal.returns
returns c =
    let shapes = c.in_ok-table.table.0 in
    undone_is c.args.typed.now c.program-program.result.now c.as_slice-decls.result.now c.as_slice.result.now c.args.layout.now (λ x. has_name x c.args.needed.now.names) (λ x. has_name x c.args.active.now.names)
    c.args.choices.now.entries c.in_ok-table.table (record { pushed = c.as_slice-5.result.now; active = c.as_slice-6.result.now; choices = c.as_slice-7.result.now; shared = c.count.result })
    (undo_trees c.in_ok-body.body) (statements_back shapes c.as_slice-8.result.now) c.program-program.ensures.program c.as_slice-decls.ensures c.as_slice.ensures c.in_ok-table.ensures
    (ap (statements_back shapes) c.as_slice-8.ensures ∙ c.in_ok-stmts.ensures.0)
    (c.as_slice-5.ensures ∙ (c.in_ok-pushed.ensures ∙ ap (λ ns. map (λ (s : Shape). has_name s.name ns) shapes) c.as_slice-2.ensures))
    (c.as_slice-6.ensures ∙ (c.in_ok-actives.ensures ∙ ap (λ ns. map (λ (s : Shape). has_name s.name ns) shapes) c.as_slice-3.ensures))
    (rows_at c.shapes.result.now shapes c.args.choices.now.entries c.as_slice-4.result.now c.in_ok-rows.rows c.as_slice-7.result.now (c.shapes.ensures.value ∙ c.layout.ensures) c.as_slice-4.ensures c.as_slice-7.ensures c.in_ok-rows.ensures)
    c.count.ensures.value c.in_ok-body.ensures

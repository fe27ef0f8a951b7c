use Rattle.std.proofs.Common.{ap, ◌∙◌}
use Rattle.fl_ast.specs.Tree.{stmt_trees}
use Rattle.resolved.specs.ResolvedStmts.{statements_back}
use Rattle.dual_meaning.proofs.Ending.{program_well, program_stops}
use Rattle.dual_meaning.proofs.program.run_on.Goals as goal

pub returns-in-Ok : goal.returns-in-Ok
returns-in-Ok g c = λ pushed.
    program_well (λ cells. cells) c.run_statements.new.progress.cells.items c.args.layout.now c.args.decls.now pushed (stmt_trees c.args.body.now) c.args.cells.items c.args.table.now (statements_back c.args.table.now.0 c.as_slice.result.now)
    c.run_statements.new.progress.left c.args.steps.now c.run_statements.new.steps c.requires.named (ap (statements_back c.args.table.now.0) c.as_slice.ensures ∙ c.in_ok-stmts.ensures.0) c.in-Ok.ensures.ran c.in-Ok.ensures.ticks

pub returns : goal.returns
returns g c = λ pushed.
    program_stops c.in-Err.stop c.args.layout.now c.args.decls.now pushed (stmt_trees c.args.body.now) c.args.cells.items c.run_statements.new.progress.cells.items c.args.table.now (statements_back c.args.table.now.0 c.as_slice.result.now)
    c.run_statements.new.progress.left c.args.steps.now c.run_statements.new.steps c.requires.named (ap (statements_back c.args.table.now.0) c.as_slice.ensures ∙ c.in_ok-stmts.ensures.0) c.in-Err.ensures.ran c.in-Err.ensures.ticks

use Rattle.std.proofs.lemmas.Result.{err_from_is_err_and}
use Rattle.store_core.proofs.Placing.{args_over, all_laid}
use Rattle.store_core.proofs.declared.lay.Goals as goal

pub returns-in_err-layout-2 : goal.returns-in_err-layout-2
returns-in_err-layout-2 c =
    let p = err_from_is_err_and c.from_residual-in_err-layout-2.result c.from_residual-in_err-layout-2.ensures.1 in
    rw (p.1, p.2) (args_over c.args.program.now c.args.args.now.entries _ _ c.in_ok-layout.ensures.0 (rw c.as_slice-values.ensures at c.in_err-layout-2.ensures))

pub returns : goal.returns
returns c = all_laid c.args.program.now c.args.args.now.entries c.as_slice-values.result.now c.in_ok-layout.layout c.in_ok-layout-2.layout c.lay_locals.result c.as_slice-values.ensures c.in_ok-layout.ensures.0 c.in_ok-layout-2.ensures.0 c.lay_locals.ensures

use Rattle.std.proofs.Common.{arith}
use Rattle.std.proofs.lemmas.Result.{err_from_is_err_and}
use Rattle.store_core.specs.Places.{local_of}
use Rattle.store_core.proofs.Placing.{some_over}
use Rattle.store_core.proofs.declared.lay_locals.Goals as goal

pub returns-in_err-layout : goal.returns-in_err-layout
returns-in_err-layout c =
    let p = err_from_is_err_and c.from_residual.result c.from_residual.ensures.1 in
    rw (p.1, p.2) (some_over c.args.values.now (local_of c.args.program.now) c.args.program.now.decls c.as_slice-decl-items.result.now c.loop-decl.decl-index c.decl-item.result _ _ _ _
    c.as_slice-decl-items.ensures (omega arith) c.decl-item.is c.local.ensures c.loop-decl.invariant.0 c.in_err-layout.ensures)

use Rattle.std.proofs.Common.{arith, ap, ◌∙◌}
use Rattle.std.proofs.lemmas.Result.{err_from_is_err_and}
use Rattle.store_core.specs.Places.{declaration_of}
use Rattle.store_core.proofs.Placing.{some_over}
use Rattle.store_core.proofs.declared.lay_args.Goals as goal

pub returns-in_err-layout : goal.returns-in_err-layout
returns-in_err-layout c =
    let p = err_from_is_err_and c.from_residual.result c.from_residual.ensures.1 in
    rw (p.1, p.2) (some_over c.args.values.now (declaration_of c.args.program.now.decls) c.args.program.now.args c.as_slice-name-items.result.now c.loop-name.name-index c.name-item.result _ _ _ _
    c.as_slice-name-items.ensures (omega arith) c.name-item.is (c.declaration.ensures ∙ ap (λ ds. declaration_of ds c.name-item.result) c.as_slice-decls.ensures) c.loop-name.invariant.0 c.in_err-layout.ensures)

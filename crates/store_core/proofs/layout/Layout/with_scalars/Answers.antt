use Rattle.std.proofs.Common.{arith, map, ◌^◌, refl}
use Rattle.std.proofs.lemmas.Result.{err_from_is_err_and}
use Rattle.fl_ast.specs.declared.decl.Decl.{Decl}
use Rattle.store_core.specs.Keys.{scalar}
use Rattle.store_core.proofs.Laying.{too_many}
use Rattle.store_core.proofs.Placing.{scalar_over}
use Rattle.store_core.proofs.layout.Layout.with_scalars.Goals as goal

pub returns-in_err-layout : goal.returns-in_err-layout
returns-in_err-layout c =
    let p = err_from_is_err_and c.from_residual.result c.from_residual.ensures.1 in
    rw (p.1, p.2) (too_many (2 ^ 21) _ c.args.self.now (map (λ (d : Decl). scalar d.name) c.args.decls.now) (c.in_err-layout.ensures))

pub returns-in_err-layout-2 : goal.returns-in_err-layout-2
returns-in_err-layout-2 c =
    let p = err_from_is_err_and c.from_residual-in_err-layout-2.result c.from_residual-in_err-layout-2.ensures.1 in
    rw (p.1, p.2) (scalar_over (2 ^ 21) c.args.decls.now c.args.decls.now c.loop-decl.decl-index c.decl-item.result c.loop-decl.layout _ _
    refl (omega arith) c.decl-item.is c.loop-decl.invariant.0 (c.in_err-layout-2.ensures))

use Rattle.std.proofs.Common.{◌≡◌, ◌∙◌, ap, List}
use Rattle.store_core.specs.declared.layout.Shape.{Shape}
use Rattle.store_core.specs.Keys.{with_scalars}
use Rattle.resolved.specs.SlotTables.{Names, named_kind}
use Rattle.dual_meaning.specs.Tangents.{shape_cells}
use Rattle.dual_meaning.proofs.Entering.{entered}
use Rattle.dual_meaning.proofs.Directions.{if_ok}
use Rattle.dual_meaning.proofs.along.opening_cells.Goals as goal

pub returns : goal.returns
returns c =
    let t : c.args.table.now.0 ≡ with_scalars c.args.layout.now c.args.decls.now = ap (λ (n : Names). n.0) c.requires.named in
    if_ok _ _ c.cells_by.result
    (λ cells e. e ∙ (ap (λ (es : List Shape). shape_cells (named_kind c.args.decls.now) c.args.args.now c.args.words.now c.args.tangents.now 0 es) t
    ∙ entered c.args.decls.now c.args.layout.now (with_scalars c.args.layout.now c.args.decls.now) c.args.args.now c.args.words.now c.args.tangents.now))
    c.cells_by.ensures

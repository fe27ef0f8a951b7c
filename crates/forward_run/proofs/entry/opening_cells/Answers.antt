use Rattle.std.proofs.Common.{◌<◌, ◌^◌}
use Rattle.std.proofs.lemmas.List.Elements.{All-from_get_or}
use Rattle.dual_meaning.proofs.Directions.{if_ok}
use Rattle.forward_run.proofs.Entering.{cells_are, cells_fit}
use Rattle.forward_run.proofs.entry.opening_cells.Goals as goal

pub returns-clause-cells : goal.returns-clause-cells
returns-clause-cells c = if_ok _ _ c.cells_by.result (λ cells e. cells_are c.args.decls.now c.args.layout.now c.args.table.now c.args.args.now c.args.words.now cells.items c.requires.named e) c.cells_by.ensures

pub returns-clause-fit : goal.returns-clause-fit
returns-clause-fit c = λ pushed.
    if_ok _ _ c.cells_by.result
    (λ cells e. cells_fit c.args.decls.now c.args.layout.now c.args.table.now c.args.args.now c.args.words.now cells.items pushed
    (All-from_get_or (λ w. w < 2 ^ 64) c.args.words.now 0 (λ i l. (c.type_inv.words i).fits)) c.requires.named e) c.cells_by.ensures

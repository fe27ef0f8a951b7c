use Rattle.fl_printer.proofs.Blocks.{decl_step, decl_end}
use Rattle.fl_printer.proofs.unit.decl_rows.Goals as goal

pub loop-declared-preserved : goal.loop-declared-preserved
loop-declared-preserved c =
    decl_step c.loop-declared.declared-index c.args.decls.now c.declared-item.result _ _ _ c.loop-declared-test.true c.declared-item.is c.loop-declared.invariant c.in_ok-decl_row.ensures

pub returns : goal.returns
returns c = decl_end c.loop-declared.declared-index c.args.decls.now _ _ c.loop-declared-test.false c.loop-declared.invariant

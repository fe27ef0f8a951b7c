use Rattle.std.proofs.Common.{arith, ◌∙◌}
use Rattle.std.specs.Mem.Slots.{slots_items}
use Rattle.op_table.specs.Plays.{work}
use Rattle.op_table.proofs.Seats.{taken_out}
use Rattle.op_table.proofs.table.OpTable.close.Goals as goal

pub returns : goal.returns
returns g c = let z = c.args.self.sized in let len = c.take_cells.ensures.len in
    taken_out (work g.P.Plan.ops c.args.self.table.shared.key) c.args.worker.seat.id c.args.worker.seat.me.0 (slots_items c.close_with-closed.result.words) (slots_items c.close_with-closed.result.slots) c.take_cells.new.cells.items
    c.close_with-closed.ensures.values.2 c.requires.finished (len.0 ∙ z.0) (λ p lt. c.take_cells.ensures.each p (let q = len.0 in omega arith))

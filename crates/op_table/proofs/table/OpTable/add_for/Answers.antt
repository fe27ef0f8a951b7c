use Rattle.std.proofs.Common.{arith, ◌+◌}
use Rattle.op_table.specs.Plays.{work}
use Rattle.op_table.proofs.Moves.{adds_at}
use Rattle.op_table.proofs.table.OpTable.add_for.Goals as goal

pub fetch_add-found-requires : goal.fetch_add-found-requires
fetch_add-found-requires g c =
    let z = c.args.self.now.sized in
    let i = c.requires.next.inside in
    (c.requires.table, omega arith, adds_at (work g.P.Plan.ops c.args.self.now.table.shared.key) c.args.self.now.table.shared.table_id.slots c.args.seat.now.id c.args.seat.now.me g.J.Aim.chunk (1 + c.args.cell) c.args.cell c.args.amount (omega arith) c.requires.next)

use Rattle.std.proofs.Common.{arith, ◌+◌}
use Rattle.op_table.specs.Plays.{work}
use Rattle.op_table.proofs.Moves.{stores_at}
use Rattle.op_table.proofs.table.OpTable.store_for.Goals as goal

pub store-requires : goal.store-requires
store-requires g c =
    let z = c.args.self.now.sized in
    let i = c.requires.inside in
    (c.requires.table, omega arith, stores_at (work g.P.Plan.ops c.args.self.now.table.shared.key) c.args.self.now.table.shared.table_id.slots c.args.seat.now.id c.args.seat.now.me g.J.Aim.chunk (1 + c.args.cell) c.args.cell c.args.word (omega arith) c.requires.next)

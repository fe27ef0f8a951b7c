use Rattle.std.proofs.Common.{arith}
use Rattle.op_table.specs.Plays.{work}
use Rattle.op_table.proofs.Moves.{draws}
use Rattle.op_table.proofs.worker.Worker.draw.Goals as goal

pub fetch_add-requires : goal.fetch_add-requires
fetch_add-requires g c =
    let z = c.args.table.now.sized in
    (c.requires.table, omega arith, draws (work g.P.Plan.ops c.args.table.now.table.shared.key) c.args.table.now.table.shared.table_id.slots c.args.self.now.seat.id c.args.self.now.seat.me 0)

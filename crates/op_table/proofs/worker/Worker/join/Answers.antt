use Rattle.std.proofs.Common.{arith}
use Rattle.op_table.specs.Plays.{work}
use Rattle.op_table.proofs.Seats.{joins}
use Rattle.op_table.proofs.worker.Worker.join.Goals as goal

pub join_seat-requires : goal.join_seat-requires
join_seat-requires g c =
    let z = c.args.table.now.sized in
    (c.requires.table, c.requires.other, c.args.other.no_slot, omega arith, joins (work g.P.Plan.ops c.args.table.now.table.shared.key) c.args.self.now.seat.id c.args.self.now.seat.me.0 c.args.other.seat.id c.args.other.seat.me.0)

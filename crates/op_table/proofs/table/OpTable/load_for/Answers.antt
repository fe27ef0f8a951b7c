use Rattle.std.proofs.Common.{arith, ◌+◌}
use Rattle.op_table.specs.Plays.{work}
use Rattle.op_table.proofs.Moves.{loads_at}
use Rattle.op_table.proofs.table.OpTable.load_for.Goals as goal

pub load-requires : goal.load-requires
load-requires g c =
    let z = c.args.self.now.sized in
    let i = c.requires.next.inside in (
      c.requires.table,
      omega arith,
      loads_at (work g.P.Plan.ops c.args.self.now.table.shared.key) c.args.self.now.table.shared.table_id.slots c.args.seat.now.id c.args.seat.now.me g.J.Aim.chunk (1 + c.args.cell) c.args.cell g.J.Aim.number (omega arith) c.requires.aim c.requires.next,
    )

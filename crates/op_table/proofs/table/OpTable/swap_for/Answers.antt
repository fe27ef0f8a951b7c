use Rattle.std.proofs.Common.{arith, ◌+◌}
use Rattle.op_table.specs.Plays.{work}
use Rattle.op_table.proofs.Moves.{swaps_at}
use Rattle.op_table.proofs.table.OpTable.swap_for.Goals as goal

pub swap-requires : goal.swap-requires
swap-requires g c =
    let z = c.args.self.now.sized in
    let i = c.requires.chunk in
    let a = c.requires.aim in
    let l = c.len.ensures in
    (c.requires.table, omega arith, swaps_at (work g.P.Plan.ops c.args.self.now.table.shared.key) c.args.self.now.table.shared.table_id.slots c.args.seat.now.id c.args.seat.now.me g.J.Aim.chunk (1 + c.len.result + c.args.chunk) g.J.Aim.number (omega arith) a.1 (omega arith) c.requires.part)

use Rattle.std.proofs.Common.{◌≡◌, ℕ, ◌<◌, true}
use Rattle.op_table.specs.Rule.{lists}
use Rattle.op_table.specs.Plays.{work}
use Rattle.op_table_tests.specs.Team.{AtEnds}
use Rattle.op_table_tests.proofs.team.with_free.Given as goal

abbrev pub invariant-loop-chunk : goal.invariant-loop-chunk
invariant-loop-chunk g l = (l.worker.seat.table_id ≡ l.initial.worker.seat.table_id) × (l.worker.seat.me.0.parts ≡ l.initial.worker.seat.me.0.parts)
    × AtEnds (work g.P.Plan.ops l.table.table.shared.key) l.worker.seat.me.0
    × (l.initial.worker.seat.me.0.parts ≡ l.table.table.shared.key.parts → (k : ℕ) → k < l.chunk → lists k l.worker.seat.me.0.held ≡ true)

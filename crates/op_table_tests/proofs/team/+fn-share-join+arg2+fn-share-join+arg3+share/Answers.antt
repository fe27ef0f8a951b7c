use Rattle.op_table.specs.Plays.{work}
use Rattle.op_table_tests.proofs.Ends.{ends_joined}
use Rattle.op_table_tests.proofs.team.+fn-share-join+arg2+fn-share-join+arg3+share.Goals as goal

pub returns-clause-ends : goal.returns-clause-ends
returns-clause-ends g t c = ends_joined (work g.P.Plan.ops c.args.table.now.table.shared.key) c.join-one.result.0.seat.me.0 c.join-one.result.1.seat.me.0 c.join.new.self.seat.me.0 c.join.ensures.1 c.join-one.ensures.first.1 c.join-one.ensures.second.1

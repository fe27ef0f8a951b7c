use Rattle.std.proofs.Common.{◌+◌, ◌*◌}
use Rattle.op_table_tests.proofs.team.+fn-share-join+arg2+fn-share-join+arg3+share.Given as goal

abbrev pub decreases-join+arg2 : goal.decreases-join+arg2
decreases-join+arg2 g l = 2 * l.left + 1

abbrev pub decreases-join+arg3 : goal.decreases-join+arg3
decreases-join+arg3 g l = 2 * l.half + 1

abbrev pub decreases-share : goal.decreases-share
decreases-share g l = 2 * l.count

use Rattle.std.proofs.Common.{length, ◌-◌}
use Rattle.outside.proofs.system.write_whole.Given as goal

abbrev pub decreases-loop-at : goal.decreases-loop-at
decreases-loop-at g l = length l.piece - l.at

use Rattle.apart_law.proofs.Ranges.{range_holds}
use Rattle.apart_law.proofs.laws.ranges_hold.Goals as goal

pub returns : goal.returns
returns c = range_holds

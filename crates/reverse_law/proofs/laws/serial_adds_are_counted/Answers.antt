use Rattle.reverse_law.proofs.Counted.{serial_adds_counted}
use Rattle.reverse_law.proofs.laws.serial_adds_are_counted.Goals as goal

pub returns : goal.returns
returns c = serial_adds_counted

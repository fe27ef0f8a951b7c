use Rattle.reverse_law.proofs.Counted.{adds_counted}
use Rattle.reverse_law.proofs.laws.adds_are_counted.Goals as goal

pub returns : goal.returns
returns c = adds_counted

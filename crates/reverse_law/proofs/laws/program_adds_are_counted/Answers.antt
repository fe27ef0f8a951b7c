use Rattle.reverse_law.proofs.Counted.{program_counted}
use Rattle.reverse_law.proofs.laws.program_adds_are_counted.Goals as goal

pub returns : goal.returns
returns c = program_counted

use Rattle.reverse_law.proofs.Reversed.{program_named}
use Rattle.reverse_law.proofs.laws.program_is_named.Goals as goal

pub returns : goal.returns
returns c = program_named

use Rattle.transposition.proofs.WholePrograms.{program_transposed}
use Rattle.transposition.proofs.laws.program_is_transposed.Goals as goal

pub returns : goal.returns
returns c = program_transposed

use Rattle.printed_again.proofs.PrintedAgain.{programs_again}
use Rattle.printed_again.proofs.laws.read_programs_are_printed_again.Goals as goal

pub returns : goal.returns
returns c = programs_again

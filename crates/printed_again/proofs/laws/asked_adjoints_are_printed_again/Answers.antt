use Rattle.printed_again.proofs.PrintedAgain.{adjoints_again}
use Rattle.printed_again.proofs.laws.asked_adjoints_are_printed_again.Goals as goal

pub returns : goal.returns
returns c = adjoints_again

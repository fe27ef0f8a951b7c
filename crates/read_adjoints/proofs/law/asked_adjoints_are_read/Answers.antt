use Rattle.read_adjoints.proofs.Small.{read}
use Rattle.read_adjoints.proofs.law.asked_adjoints_are_read.Goals as goal

pub returns : goal.returns
returns c = read

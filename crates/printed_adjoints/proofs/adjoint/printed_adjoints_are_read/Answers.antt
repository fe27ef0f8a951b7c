use Rattle.printed_adjoints.proofs.ReadAdjointUnits.{adjoints_read}
use Rattle.printed_adjoints.proofs.adjoint.printed_adjoints_are_read.Goals as goal

pub returns : goal.returns
returns c = record { adjoints = adjoints_read }

use Rattle.printed_programs.proofs.ReadUnits.{programs_read}
use Rattle.printed_programs.proofs.program.printed_programs_are_read.Goals as goal

pub returns : goal.returns
returns c = record { programs = programs_read }

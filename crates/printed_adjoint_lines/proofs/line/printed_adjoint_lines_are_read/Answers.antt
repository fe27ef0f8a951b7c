use Rattle.printed_adjoint_lines.proofs.ReadAdjointLines.{assignments_read, pushes_read, pops_read, openings_read, closings_read, loops_read, guards_read}
use Rattle.printed_adjoint_lines.proofs.line.printed_adjoint_lines_are_read.Goals as goal

pub returns : goal.returns
returns c = record {
  assignments = assignments_read;
  pushes = pushes_read;
  pops = pops_read;
  openings = openings_read;
  closings = closings_read;
  loops = loops_read;
  guards = guards_read;
}

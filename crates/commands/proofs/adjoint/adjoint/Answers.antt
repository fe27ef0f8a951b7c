use Rattle.commands.proofs.AdjointDone.{adjoint_told}
use Rattle.commands.proofs.adjoint.adjoint.Goals as goal

pub returns-clause-stage : goal.returns-clause-stage
returns-clause-stage g c = rw (c.as_slice.ensures, c.as_slice-2.ensures) at c.load_adjoint.ensures

pub returns-clause-done : goal.returns-clause-done
returns-clause-done g c = adjoint_told c.args.subject.now _ (rw (c.as_slice.ensures, c.as_slice-2.ensures) at c.load_adjoint.ensures)

use Rattle.fl_types.specs.Sharing.{has_name}
use Rattle.adjoint_unit.proofs.Whole.{of_needed}
use Rattle.adjoint_unit.proofs.unit.reverse.Goals as goal

pub returns : goal.returns
returns c =
    of_needed c.args.program.now (λ x. has_name x c.args.active.now.names) (λ x. has_name x c.in_ok-needed.needed.names) c.args.choices.now.entries c.with_needed.result c.in_ok-needed.ensures c.with_needed.ensures

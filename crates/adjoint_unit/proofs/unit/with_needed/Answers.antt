use Rattle.fl_types.specs.Sharing.{has_name}
use Rattle.adjoint_rules.specs.Adjoint.{adjoint_of}
use Rattle.reversal.specs.Places.{scope_of}
use Rattle.adjoint_unit.proofs.Whole.{whole}
use Rattle.adjoint_unit.proofs.unit.with_needed.Goals as goal

pub returns : goal.returns
unfolding adjoint_of
returns c =
    whole c.args.program.now (λ x. has_name x c.args.active.now.names) (λ x. has_name x c.args.needed.now.names) c.args.choices.now.entries (scope_of c.outside-scope.result) c.as_slice.result.now
    c.front_of.result c.forward_part.result c.backward_all.result c.clone.result c.adjoint_with.result
    c.outside-scope.ensures c.as_slice.ensures c.front_of.ensures c.forward_part.ensures c.backward_all.ensures c.clone.ensures c.adjoint_with.ensures

use Rattle.std.proofs.Common.{◌≡◌, drop}
use Rattle.fl_types.specs.Sharing.{has_name}
use Rattle.adjoint_choices.specs.Choosing.{active_names}
use Rattle.adjoint_choices.proofs.order.active_names.Given as goal

-- those of the declarations so far
abbrev pub invariant-loop-i : goal.invariant-loop-i
invariant-loop-i l = l.names.items ≡ active_names (drop l.i l.decls) (λ x. has_name x l.active.names)

use Rattle.std.proofs.Common.{◌≡◌, ◌++◌, drop}
use Rattle.fl_types.specs.Sharing.{has_name}
use Rattle.adjoint_rules.specs.Declarations.{arguments}
use Rattle.reversal.proofs.declare.arguments.Given as goal

-- the names so far and those of the rest are all
abbrev pub invariant-loop-arg : goal.invariant-loop-arg
invariant-loop-arg l = l.names ++ arguments (λ x. has_name x l.active.names) (drop l.arg-index l.args) ≡ arguments (λ x. has_name x l.active.names) l.args

use Rattle.std.proofs.Common.{◌≡◌, ◌++◌, drop}
use Rattle.std.specs.List.{flat_map}
use Rattle.fl_types.specs.Sharing.{has_name}
use Rattle.adjoint_rules.specs.Declarations.{declared_with_adjoint}
use Rattle.reversal.proofs.declare.declared.Given as goal

-- the declarations so far and those of the rest are all
abbrev pub invariant-loop-decl : goal.invariant-loop-decl
invariant-loop-decl l =
    l.all ++ flat_map (declared_with_adjoint (λ x. has_name x l.active.names)) (drop l.decl-index l.decls) ≡ flat_map (declared_with_adjoint (λ x. has_name x l.active.names)) l.decls

use Rattle.std.proofs.Common.{◌≡◌, drop}
use Rattle.adjoint_rules.specs.Declarations.{data_bytes}
use Rattle.adjoint_unit.proofs.declare.data_bytes.Given as goal

-- none so far is of the ring kind
abbrev pub invariant-loop-decl : goal.invariant-loop-decl
invariant-loop-decl l = data_bytes (drop l.decl-index l.decls) ≡ data_bytes l.decls

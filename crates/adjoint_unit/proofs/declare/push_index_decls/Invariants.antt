use Rattle.std.proofs.Common.{◌≡◌, ◌++◌, drop, map}
use Rattle.adjoint_rules.specs.Declarations.{index_decl}
use Rattle.adjoint_unit.proofs.declare.push_index_decls.Given as goal

-- the declarations so far and those of the rest are all
abbrev pub invariant-loop-name : goal.invariant-loop-name
invariant-loop-name l = l.decls ++ map (index_decl l.line) (drop l.name-index l.names) ≡ l.fn.decls ++ map (index_decl l.line) l.names

use Rattle.std.proofs.Common.{◌≡◌, ◌++◌, drop, map}
use Rattle.std.specs.List.{flat_map}
use Rattle.fl_ast.specs.AdjointTree.{astmt_tree}
use Rattle.reversal.specs.Places.{scope_of}
use Rattle.adjoint_rules.specs.Declarations as rules
use Rattle.adjoint_unit.proofs.head.head.Given as goal

-- the beginnings so far and those of the rest are all
abbrev pub invariant-loop-decl : goal.invariant-loop-decl
invariant-loop-decl l =
    map astmt_tree l.statements ++ flat_map (rules.beginning (scope_of l.scope) l.program.line l.program) (drop l.decl-index l.program.decls) ≡ rules.head (scope_of l.scope) l.program

use Rattle.std.proofs.Common.{◌≡◌, ◌++◌, drop, map}
use Rattle.fl_ast.specs.AdjointTree.{astmt_tree}
use Rattle.adjoint_rules.specs.Forward.{zeroed}
use Rattle.reversal.specs.Places.{scope_of}
use Rattle.adjoint_loops.proofs.iteration.push_all_zeroed.Given as goal

-- those so far and those of the rest are all
abbrev pub invariant-loop-name : goal.invariant-loop-name
invariant-loop-name l = map astmt_tree l.statements ++ map (zeroed (scope_of l.scope) l.line) (drop l.name-index l.names) ≡ map astmt_tree l.fn.statements ++ map (zeroed (scope_of l.scope) l.line) l.names

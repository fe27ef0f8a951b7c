use Rattle.std.proofs.Common.{◌≡◌, ◌++◌, drop, map}
use Rattle.fl_ast.specs.AdjointTree.{astmt_tree}
use Rattle.fl_ast.specs.AdjointTree.{push}
use Rattle.adjoint_rules.specs.OwnNames.{value, k_name}
use Rattle.adjoint_loops.proofs.iteration.push_all_pushed.Given as goal

-- those so far and those of the rest are all
abbrev pub invariant-loop-name : goal.invariant-loop-name
invariant-loop-name l = map astmt_tree l.statements ++ map (λ x. push l.line (value k_name) (value x)) (drop l.name-index l.names) ≡ map astmt_tree l.fn.statements ++ map (λ x. push l.line (value k_name) (value x)) l.names

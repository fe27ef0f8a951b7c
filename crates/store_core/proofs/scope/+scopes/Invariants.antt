use Rattle.std.proofs.Common.{◌≡◌, drop}
use Rattle.fl_ast.specs.Tree.{stmt_trees, arm_trees}
use Rattle.store_core.specs.Scopes.{scopes_in, scopes_in_arms}
use Rattle.store_core.proofs.scope.+scopes.Given as goal

abbrev pub invariant-any_scopes-loop-stmt : goal.invariant-any_scopes-loop-stmt
invariant-any_scopes-loop-stmt l = scopes_in l.name (stmt_trees l.stmts) ≡ scopes_in l.name (stmt_trees (drop l.stmt-index l.stmts))

abbrev pub invariant-arms_scope-loop-arm : goal.invariant-arms_scope-loop-arm
invariant-arms_scope-loop-arm l = scopes_in_arms l.name (arm_trees l.arms) ≡ scopes_in_arms l.name (arm_trees (drop l.arm-index l.arms))

use Rattle.std.proofs.Common.{◌≡◌, ◌++◌, drop}
use Rattle.std.specs.Prelude.{true, map}
use Rattle.fl_ast.specs.Tree.{stmt_tree, stmt_trees, arm_tree, arm_trees}
use Rattle.resolved.specs.ResolvedStmts.{statement_back, arm_back, are_fit, are_arms_fit, are_statements_placed, are_arms_placed}
use Rattle.resolved.proofs.resolve_stmts.+resolve_statements.Given as goal

abbrev pub invariant-resolve_statements-loop-stmt : goal.invariant-resolve_statements-loop-stmt
invariant-resolve_statements-loop-stmt l = record {
  trees : map stmt_tree l.stmts ≡ map (statement_back l.table.0) l.all ++ map stmt_tree (drop l.stmt-index l.stmts);
  fit : are_fit l.table l.all ≡ true;
  placed : are_statements_placed l.table.0 (stmt_trees l.stmts) ≡ are_statements_placed l.table.0 (stmt_trees (drop l.stmt-index l.stmts));
}

abbrev pub invariant-resolve_arms-loop-arm : goal.invariant-resolve_arms-loop-arm
invariant-resolve_arms-loop-arm l = record {
  trees : map arm_tree l.arms ≡ map (arm_back l.table.0) l.all ++ map arm_tree (drop l.arm-index l.arms);
  fit : are_arms_fit l.table l.all ≡ true;
  placed : are_arms_placed l.table.0 (arm_trees l.arms) ≡ are_arms_placed l.table.0 (arm_trees (drop l.arm-index l.arms));
}

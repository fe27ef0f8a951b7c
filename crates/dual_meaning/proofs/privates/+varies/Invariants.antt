use Rattle.std.proofs.Common.{◌≡◌, drop}
use Rattle.std.specs.Prelude.{true}
use Rattle.fl_types.specs.Sharing.{varies_in, varies_in_arms}
use Rattle.resolved.specs.ResolvedStmts.{statements_back, arms_back, are_fit, are_arms_fit}
use Rattle.dual_meaning.proofs.privates.+varies.Given as goal

abbrev pub invariant-varies_in-loop-stmt : goal.invariant-varies_in-loop-stmt
invariant-varies_in-loop-stmt l = record {
  rest : varies_in l.name (statements_back l.table.0 l.stmts) ≡ varies_in l.name (statements_back l.table.0 (drop l.stmt-index l.stmts));
  fit : are_fit l.table (drop l.stmt-index l.stmts) ≡ true;
}

abbrev pub invariant-varies_in_arms-loop-arm : goal.invariant-varies_in_arms-loop-arm
invariant-varies_in_arms-loop-arm l = record {
  rest : varies_in_arms l.name (arms_back l.table.0 l.arms) ≡ varies_in_arms l.name (arms_back l.table.0 (drop l.arm-index l.arms));
  fit : are_arms_fit l.table (drop l.arm-index l.arms) ≡ true;
}

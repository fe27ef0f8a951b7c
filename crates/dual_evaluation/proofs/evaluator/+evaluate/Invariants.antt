use Rattle.std.proofs.Common.{◌≡◌, drop, length}
use Rattle.std.specs.Prelude.{true}
use Rattle.meaning.specs.Expressions.{values_of}
use Rattle.resolved.specs.ResolvedExprs.{expressions_back, are_within}
use Rattle.dual_evaluation.specs.Answers.{with_front, numbers_of}
use Rattle.resolved.specs.SlotTables.{table_site}
use Rattle.dual_evaluation.proofs.evaluator.+evaluate.Given as goal

abbrev pub invariant-evaluate_all-loop-expr : goal.invariant-evaluate_all-loop-expr
invariant-evaluate_all-loop-expr l = record {
  rest : (values_of (expressions_back l.table.0 l.exprs) (table_site l.table) l.cells).out
      ≡ with_front l.all (values_of (expressions_back l.table.0 (drop l.expr-index l.exprs)) (table_site l.table) l.cells).out;
  within : are_within (length l.table.0) (drop l.expr-index l.exprs) ≡ true;
}

abbrev pub invariant-evaluate_subscripts-loop-expr : goal.invariant-evaluate_subscripts-loop-expr
invariant-evaluate_subscripts-loop-expr l = record {
  rest : numbers_of (values_of (expressions_back l.table.0 l.exprs) (table_site l.table) l.cells).out
      ≡ with_front l.numbers.items (numbers_of (values_of (expressions_back l.table.0 (drop l.expr-index l.exprs)) (table_site l.table) l.cells).out);
  within : are_within (length l.table.0) (drop l.expr-index l.exprs) ≡ true;
}

use Rattle.std.proofs.Common.{rules, arith}
use Rattle.std.proofs.lemmas.Grind.{common_steps}
use Rattle.std.proofs.lemmas.Bool.{lt-ltb, and_from}
use Rattle.resolved.specs.declared.resolved.ResolvedExpr.{the_lemmas as resolved_lemmas}
use Rattle.fl_ast.specs.declared.expr.Expr.{the_lemmas as expr_lemmas}
use Rattle.resolved.proofs.Slots.{slot_stands, designators, found_some, within_push}
use Rattle.resolved.proofs.resolve.+resolve_names.Goals as goal

pub resolve_all-loop-expr-preserved : goal.resolve_all-loop-expr-preserved
resolve_all-loop-expr-preserved t c = record {
  trees = grind (arith, common_steps);
  within = rw c.in_ok-push.ensures.ok (within_push _ _ _ c.loop-expr.invariant.within c.in_ok-expr.ensures.1);
  placed = grind (arith, common_steps);
}

pub resolve_place-returns-in_ok-subscripts-in-Some : goal.resolve_place-returns-in_ok-subscripts-in-Some
resolve_place-returns-in_ok-subscripts-in-Some t c = (
  search (rules, resolved_lemmas, expr_lemmas, designators, slot_stands),
  search (rules, resolved_lemmas, lt-ltb, and_from),
  search (rules, expr_lemmas, found_some, and_from),
)

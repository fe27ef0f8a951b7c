use Rattle.std.proofs.Common.{◌≡◌, ◌-◌, ◌+◌, ◌<◌, ◌≤◌, nat_lt, Some}
use Rattle.parsing.specs.declared.fault.Cause.TheVariants.{Deep}
use Rattle.parsing.specs.Reading.{turns, grouped}
use Rattle.fl_expressions.specs.Terminals.{sum_op, is_sum_op}
use Rattle.fl_expressions.specs.Trees.{binary, may_stand_left}
use Rattle.fl_expressions.specs.ExprReading as spec
use Rattle.fl_expressions.proofs.expression.Rules.terms_from.Given as goal

abbrev pub invariant-loop-turn : goal.invariant-loop-turn
invariant-loop-turn g l = record {
  reads : spec.terms_from (nat_lt 0 l.self.brackets) (spec.below l.self.brackets) (Some l.d) l.fn.left l.initial.tokens
      ≡ turns is_sum_op (may_stand_left (Some l.d)) Deep (grouped sum_op binary (spec.term (nat_lt 0 l.self.brackets) (spec.below l.self.brackets)) (Some l.d)) (l._turn-end - l._turn) l.left l.tokens;
  real : 0 < l.left.depth;
  shallow : l.left.depth ≤ l.d + 1;
}

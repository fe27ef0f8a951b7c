use Rattle.std.proofs.Common.{◌≡◌, ◌-◌, ◌+◌, ◌≤◌, nat_lt, true, Some}
use Rattle.parsing.specs.declared.symbol.Symbol.TheVariants as s
use Rattle.parsing.specs.declared.fault.Cause.TheVariants.{Expected}
use Rattle.parsing.specs.Terminal.{is}
use Rattle.parsing.specs.Reading.{turns}
use Rattle.fl_expressions.specs.ExprReading as spec
use Rattle.fl_expressions.proofs.expression.Rules.more_exprs.Given as goal

abbrev pub invariant-loop-turn : goal.invariant-loop-turn
invariant-loop-turn g l = record {
  reads : spec.more_exprs (nat_lt 0 l.self.brackets) (spec.below l.self.brackets) (Some l.d) l.fn.found l.initial.tokens
      ≡ turns (is s.Comma) (λ x. true) Expected (spec.another_expr (nat_lt 0 l.self.brackets) (spec.below l.self.brackets) (Some l.d)) (l._turn-end - l._turn) l.found l.tokens;
  shallow : l.found.depth ≤ l.d + 1;
}

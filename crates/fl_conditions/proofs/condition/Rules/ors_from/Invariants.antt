use Rattle.std.proofs.Common.{◌≡◌, ◌-◌, ◌+◌, ◌<◌, ◌≤◌, Some}
use Rattle.parsing.specs.declared.fault.Cause.TheVariants.{Deep}
use Rattle.parsing.specs.Reading.{turns, grouped}
use Rattle.fl_conditions.specs.Terminals.{or_op, is_or_op}
use Rattle.fl_conditions.specs.Trees.{one_of, may_join}
use Rattle.fl_conditions.specs.CondReading as spec
use Rattle.fl_conditions.proofs.condition.Rules.ors_from.Given as goal

abbrev pub invariant-loop-turn : goal.invariant-loop-turn
invariant-loop-turn g l = record {
  reads : spec.ors_from l.self.brackets (spec.below_mixed l.self.brackets) (Some l.d) l.fn.left l.initial.tokens
      ≡ turns is_or_op (may_join (Some l.d)) Deep (grouped or_op one_of (spec.conjunction l.self.brackets (spec.below_mixed l.self.brackets)) (Some l.d)) (l._turn-end - l._turn) l.left l.tokens;
  real : 0 < l.left.levels;
  shallow : l.left.levels ≤ l.d + 1;
}

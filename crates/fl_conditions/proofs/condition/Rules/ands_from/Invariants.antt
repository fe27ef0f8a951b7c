use Rattle.std.proofs.Common.{◌≡◌, ◌-◌, ◌+◌, ◌<◌, ◌≤◌, Some}
use Rattle.parsing.specs.declared.fault.Cause.TheVariants.{Deep}
use Rattle.parsing.specs.Reading.{turns, grouped}
use Rattle.fl_conditions.specs.Terminals.{and_op, is_and_op}
use Rattle.fl_conditions.specs.Trees.{both, may_join}
use Rattle.fl_conditions.specs.CondReading as spec
use Rattle.fl_conditions.proofs.condition.Rules.ands_from.Given as goal

abbrev pub invariant-loop-turn : goal.invariant-loop-turn
invariant-loop-turn g l = record {
  reads : spec.ands_from l.self.brackets (spec.below_mixed l.self.brackets) (Some l.d) l.fn.left l.initial.tokens
      ≡ turns is_and_op (may_join (Some l.d)) Deep (grouped and_op both (spec.negation l.self.brackets (spec.below_mixed l.self.brackets)) (Some l.d)) (l._turn-end - l._turn) l.left l.tokens;
  real : 0 < l.left.levels;
  shallow : l.left.levels ≤ l.d + 1;
}

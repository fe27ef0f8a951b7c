use Rattle.std.proofs.Common.{rules}
use Rattle.dual_evaluation.proofs.Counts.{turns_when, worded}
use Rattle.dual_evaluation.proofs.bounds.turns_between.Goals as goal

pub returns : goal.returns
returns c = record {
  value = search (rules, turns_when);
  counted = record {
    first = worded c.args.first c.ranges.first;
    last = worded c.args.last c.ranges.last;
    step = worded c.args.step c.ranges.step;
    count = search rules;
  };
}

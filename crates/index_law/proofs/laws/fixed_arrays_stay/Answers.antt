use Rattle.index_law.proofs.Fixed.{unwritten_fixed, fixed_at_start, fixed_after, fixed_inside}
use Rattle.index_law.proofs.laws.fixed_arrays_stay.Goals as goal

pub returns-clause-unwritten : goal.returns-clause-unwritten
returns-clause-unwritten c = unwritten_fixed

pub returns-clause-start : goal.returns-clause-start
returns-clause-start c = fixed_at_start

pub returns-clause-after : goal.returns-clause-after
returns-clause-after c = fixed_after

pub returns-clause-inside : goal.returns-clause-inside
returns-clause-inside c = fixed_inside

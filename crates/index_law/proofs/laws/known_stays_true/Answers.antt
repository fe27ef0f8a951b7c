use Rattle.index_law.proofs.Steps.{known_after_holds, known_inside_holds, known_less}
use Rattle.index_law.proofs.laws.known_stays_true.Goals as goal

pub returns-clause-after : goal.returns-clause-after
returns-clause-after c = known_after_holds

pub returns-clause-inside : goal.returns-clause-inside
returns-clause-inside c = known_inside_holds

pub returns-clause-less : goal.returns-clause-less
returns-clause-less c = known_less

use Rattle.index_law.proofs.Respects.{placed, respected}
use Rattle.index_law.proofs.laws.facts_are_respected.Goals as goal

pub returns-clause-places : goal.returns-clause-places
returns-clause-places c = placed

pub returns-clause-respect : goal.returns-clause-respect
returns-clause-respect c = respected

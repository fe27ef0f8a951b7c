use Rattle.index_law.proofs.Valuations.{valuations_stand}
use Rattle.index_law.proofs.Elements.{element_values}
use Rattle.index_law.proofs.laws.valuations_stand.Goals as goal

pub returns-clause-starts : goal.returns-clause-starts
returns-clause-starts c = valuations_stand

pub returns-clause-elements : goal.returns-clause-elements
returns-clause-elements c = element_values

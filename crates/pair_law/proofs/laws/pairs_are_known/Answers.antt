use Rattle.pair_law.proofs.Rights.{rights_long}
use Rattle.pair_law.proofs.Tied.{pairs_are}
use Rattle.pair_law.proofs.laws.pairs_are_known.Goals as goal

pub returns-clause-pairs : goal.returns-clause-pairs
returns-clause-pairs c = λ k x w l. pairs_are k w x l

pub returns-clause-rights : goal.returns-clause-rights
returns-clause-rights c = rights_long

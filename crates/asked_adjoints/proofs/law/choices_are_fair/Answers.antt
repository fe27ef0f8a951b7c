use Rattle.asked_adjoints.proofs.Fair.{fair}
use Rattle.asked_adjoints.proofs.law.choices_are_fair.Goals as goal

pub returns : goal.returns
returns c = fair

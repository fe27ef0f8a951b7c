use Rattle.meaning.proofs.Once.{reports_one}
use Rattle.meaning.proofs.laws.reports_are_one.Goals as goal

pub returns : goal.returns
returns c = reports_one

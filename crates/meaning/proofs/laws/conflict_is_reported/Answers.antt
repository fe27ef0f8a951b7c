use Rattle.meaning.proofs.Reported.{reported}
use Rattle.meaning.proofs.laws.conflict_is_reported.Goals as goal

pub returns : goal.returns
returns c = reported

use Rattle.index_law.proofs.Meets.{never_meet}
use Rattle.index_law.proofs.laws.facts_hold.Goals as goal

pub returns : goal.returns
returns c = never_meet

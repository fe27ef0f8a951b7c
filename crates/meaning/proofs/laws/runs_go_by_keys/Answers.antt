use Rattle.meaning.proofs.Everywhere.{runs_everywhere}
use Rattle.meaning.proofs.laws.runs_go_by_keys.Goals as goal

pub returns : goal.returns
returns c = runs_everywhere

use Rattle.meaning.proofs.ByKeys.{by_keys}
use Rattle.meaning.proofs.laws.values_go_by_keys.Goals as goal

pub returns : goal.returns
returns c = by_keys

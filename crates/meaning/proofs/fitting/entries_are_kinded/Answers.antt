use Rattle.meaning.proofs.Laying.{entries_kinded}
use Rattle.meaning.proofs.fitting.entries_are_kinded.Goals as goal

pub returns : goal.returns
returns c = entries_kinded

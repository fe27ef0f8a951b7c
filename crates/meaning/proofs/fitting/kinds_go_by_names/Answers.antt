use Rattle.meaning.proofs.NamesOfKinds.{kinds_by_names}
use Rattle.meaning.proofs.fitting.kinds_go_by_names.Goals as goal

pub returns : goal.returns
returns c = kinds_by_names

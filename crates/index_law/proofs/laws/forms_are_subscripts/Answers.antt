use Rattle.index_law.proofs.Nodes.{sound_all}
use Rattle.index_law.proofs.laws.forms_are_subscripts.Goals as goal

pub returns : goal.returns
returns c = sound_all

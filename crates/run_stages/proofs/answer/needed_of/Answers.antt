use Rattle.run_stages.proofs.Answering.{needed_names}
use Rattle.run_stages.proofs.answer.needed_of.Goals as goal

pub returns : goal.returns
returns c = needed_names _ _ _ c.needed.result c.program.ensures.program c.needed.ensures

use Rattle.meaning.proofs.GroupTouching.{runs_touch}
use Rattle.meaning.proofs.fitting.runs_touch.Goals as goal

pub returns : goal.returns
returns c = runs_touch

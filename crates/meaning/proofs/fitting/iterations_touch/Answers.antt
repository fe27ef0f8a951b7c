use Rattle.meaning.proofs.GroupTouching.{iterations_touch}
use Rattle.meaning.proofs.fitting.iterations_touch.Goals as goal

pub returns : goal.returns
returns c = iterations_touch

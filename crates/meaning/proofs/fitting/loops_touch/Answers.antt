use Rattle.meaning.proofs.GroupTouching.{loops_touch}
use Rattle.meaning.proofs.fitting.loops_touch.Goals as goal

pub returns : goal.returns
returns c = loops_touch

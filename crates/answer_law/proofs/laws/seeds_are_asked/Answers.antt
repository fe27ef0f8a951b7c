use Rattle.answer_law.proofs.Reading.{seeds_asked}
use Rattle.answer_law.proofs.laws.seeds_are_asked.Goals as goal

pub returns : goal.returns
returns c = seeds_asked

use Rattle.answer_law.proofs.Answering.{made_answered}
use Rattle.answer_law.proofs.laws.made_is_answered.Goals as goal

pub returns : goal.returns
returns c = made_answered

use Rattle.answer_law.proofs.Reading.{read_small}
use Rattle.answer_law.proofs.laws.read_words_are_small.Goals as goal

pub returns : goal.returns
returns c = read_small

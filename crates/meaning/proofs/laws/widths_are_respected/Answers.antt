use Rattle.meaning.proofs.Reducing.{widths_respected, words_are_residues}
use Rattle.meaning.proofs.laws.widths_are_respected.Goals as goal

pub returns-clause-operations : goal.returns-clause-operations
returns-clause-operations c = widths_respected

pub returns-clause-words : goal.returns-clause-words
returns-clause-words c = words_are_residues

use Rattle.std.proofs.Common.{sym, ap, ◌∙◌}
use Rattle.forward_law.specs.Forward.{tape_back}
use Rattle.reverse_state.proofs.Taken.{top_back, rest_back}
use Rattle.reverse_state.proofs.reading.word_from.Goals as goal

pub returns-clause-word : goal.returns-clause-word
returns-clause-word c = c.take_word.ensures.word ∙ sym (top_back c.args.tape.now)

pub returns-clause-rest : goal.returns-clause-rest
returns-clause-rest c = ap tape_back c.take_word.ensures.rest ∙ sym (rest_back c.args.tape.now)

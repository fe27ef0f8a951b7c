use Rattle.std.proofs.Common.{sym, ap, ◌∙◌}
use Rattle.forward_law.specs.Forward.{tape_back}
use Rattle.reverse_state.specs.Reading.{lists_back}
use Rattle.reverse_state.proofs.Taken.{rest_back, tapes_on_top}
use Rattle.reverse_state.proofs.reading.tapes_from.Goals as goal

pub returns-clause-tapes : goal.returns-clause-tapes
returns-clause-tapes c = ap lists_back c.take_any.ensures.list ∙ sym (tapes_on_top c.args.tape.now)

pub returns-clause-rest : goal.returns-clause-rest
returns-clause-rest c = ap tape_back c.take_any.ensures.rest ∙ sym (rest_back c.args.tape.now)

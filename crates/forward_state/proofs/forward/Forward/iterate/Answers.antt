use Rattle.forward_state.specs.Steps.{begun, with_next_tape}
use Rattle.forward_state.proofs.Noting.{leaves_both}
use Rattle.forward_state.proofs.forward.Forward.iterate.Goals as goal

pub returns-clause-left : goal.returns-clause-left
returns-clause-left g c = leaves_both (with_next_tape c.args.iteration) begun c.next_tape.ensures.left c.begin.ensures.left

use Rattle.adjoint_stage.proofs.Printed.{texts_are}
use Rattle.adjoint_stage.proofs.adjoint.text_for.Goals as goal

pub returns : goal.returns
returns c = λ of wrt active.
    texts_are c.args.program.now of wrt c.args.active.now.names c.in_ok-choices.choices.entries (λ text. text.items) c.text_with.result active c.in_ok-choices.ensures c.text_with.ensures

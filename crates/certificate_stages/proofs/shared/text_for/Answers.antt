use Rattle.certificate_stages.proofs.Due.{texts_are}
use Rattle.certificate_stages.proofs.shared.text_for.Goals as goal

pub returns : goal.returns
returns c = λ of wrt active.
    texts_are c.args.typed.now c.program.result.now of wrt c.args.active.now.names c.in_ok-chosen.chosen.choices.entries (λ text. text.items) c.text_with.result c.program.ensures.program active c.in_ok-chosen.ensures.choices c.text_with.ensures

use Rattle.std.proofs.Common.{ap, ◌∙◌, map}
use Rattle.meaning.specs.Sites.{word_of}
use Rattle.dual_meaning.proofs.Directions.{if_ok}
use Rattle.forward_run.proofs.Lasting.{lasting}
use Rattle.forward_run.proofs.values.final_values.Goals as goal

pub returns-clause-meant : goal.returns-clause-meant
returns-clause-meant c = λ p pushed words h.
    if_ok _ _ c.words_of.result (λ values e. lasting p c.args.layout.now pushed words c.args.cells.now c.count.result values.items h c.count.ensures.value (e ∙ ap (map word_of) c.front.ensures)) c.words_of.ensures

use Rattle.std.proofs.Common.{refl}
use Rattle.std.specs.Prelude.{option_copied}
use Rattle.index_knowledge.specs.Told.{pair_told}
use Rattle.acceptance.specs.Told.{survey_of, forms_in}
use Rattle.acceptance.proofs.LinesOf.{hyp-form}
use Rattle.acceptance.proofs.derivation.line_form.Goals as goal

pub returns-in-Hyp : goal.returns-in-Hyp
returns-in-Hyp c =
    hyp-form (survey_of c.args.knowledge.now) (pair_told c.args.pair.now) (forms_in c.args.above.now) c.args.line.now c.in-Hyp.number c.args.pair.now.differences c.as_slice.result.now c.given.result (option_copied c.numbered.result)
    c.in-Hyp.is refl c.as_slice.ensures c.given.ensures c.numbered.ensures

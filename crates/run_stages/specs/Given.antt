-- What data and weights are like that were read.
use Rattle.answer_law.specs.Answered.{AreSmall, AreAmong}
use Rattle.formad_words.specs.declared.words.Request.{Request}
use Rattle.run_stages.specs.declared.inputs.Inputs.{Inputs}

-- words are of 64 bits, and weights are for names of `of`
pub record IsGiven (request : Request) (inputs : Inputs) : Type 0 where
  pub small : AreSmall inputs.args.entries
  pub light : AreSmall inputs.weights.entries
  pub asked : AreAmong request.of inputs.weights.entries

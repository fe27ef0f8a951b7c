use Rattle.printed_conditions.proofs.ReadConditions.{conditions_read}
use Rattle.printed_conditions.proofs.condition.printed_conditions_are_read.Goals as goal

pub returns : goal.returns
returns c = record { conditions = conditions_read }

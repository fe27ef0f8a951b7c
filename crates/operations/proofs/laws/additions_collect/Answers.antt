use Rattle.operations.proofs.Collects.{additions_collect}
use Rattle.operations.proofs.laws.additions_collect.Goals as goal

pub returns : goal.returns
returns g c = λ t p x c h. additions_collect t p x c h

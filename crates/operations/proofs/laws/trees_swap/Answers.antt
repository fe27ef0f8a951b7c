use Rattle.operations.proofs.Trees.{trees_swap}
use Rattle.operations.proofs.laws.trees_swap.Goals as goal

pub returns : goal.returns
returns g c = λ t u c h k. trees_swap t u c h k

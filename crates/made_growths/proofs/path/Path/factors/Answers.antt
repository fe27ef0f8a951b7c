use Rattle.std.proofs.Common.{ap, map, []}
use Rattle.undo_steps.specs.UndoSteps.{factor_tree}
use Rattle.made_growths.proofs.Powers.{no_factors}
use Rattle.made_growths.proofs.path.Path.factors.Goals as goal

pub returns : goal.returns
returns c = c.in_ok-push_factors.ensures [] (no_factors c.args.table.now (map factor_tree c.new-factors.result) (ap (map factor_tree) c.new-factors.ensures))

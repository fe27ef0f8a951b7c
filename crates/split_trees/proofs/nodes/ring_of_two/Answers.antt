use Rattle.sweep_trees.specs.Split.{ring_tree}
use Rattle.sweep_trees.specs.Standing.{is_widened}
use Rattle.split_trees.proofs.Standing.{neither_widened, larger_is, smaller_is}
use Rattle.split_trees.proofs.nodes.ring_of_two.Goals as goal

pub returns-in-Max-clause-fit : goal.returns-in-Max-clause-fit
returns-in-Max-clause-fit c names flags = rw (larger_is c.args.left c.args.right) (neither_widened (is_widened (ring_tree c.args.left)) (is_widened (ring_tree c.args.right)) _ _)

pub returns-in-Min-clause-fit : goal.returns-in-Min-clause-fit
returns-in-Min-clause-fit c names flags = rw (smaller_is c.args.left c.args.right) (neither_widened (is_widened (ring_tree c.args.left)) (is_widened (ring_tree c.args.right)) _ _)

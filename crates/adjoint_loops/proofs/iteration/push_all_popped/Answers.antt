use Rattle.std.proofs.Common.{map}
use Rattle.fl_ast.specs.AdjointTree.{astmt_tree}
use Rattle.adjoint_loops.proofs.Grown.{all_popped}
use Rattle.adjoint_loops.proofs.iteration.push_all_popped.Goals as goal

pub returns : goal.returns
returns c = all_popped c.args.line c.loop-i.i c.args.names.now (map astmt_tree c.args.statements.now) (map astmt_tree c.loop-i.statements) c.loop-i-test.false c.loop-i.invariant

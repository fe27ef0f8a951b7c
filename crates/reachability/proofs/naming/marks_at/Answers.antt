use Rattle.std.proofs.Common.{◌+◌, take, subst, sym}
use Rattle.reachability.proofs.Listed.{Marked, marked_more}
use Rattle.reachability.proofs.naming.marks_at.Goals as goal

pub loop-node-preserved : goal.loop-node-preserved
loop-node-preserved c =
    subst (λ m. Marked c.args.count (take (c.loop-node.node-index + 1) c.args.nodes.now) m) (sym c.set.ensures)
    (marked_more c.args.count c.args.nodes.now c.loop-node.marks c.loop-node.node-index c.loop-node-test.true (c.requires c.loop-node.node-index 0 c.loop-node-test.true) c.loop-node.invariant)

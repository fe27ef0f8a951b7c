use Rattle.std.proofs.Common.{◌≡◌, ◌++◌, drop, map}
use Rattle.needed_names.specs.Terms.{link_to}
use Rattle.needed_names.proofs.walk.push_links_to.Given as goal

-- the edges so far and those of the rest are all
abbrev pub invariant-loop-node : goal.invariant-loop-node
invariant-loop-node l = l.links ++ map (link_to l.tail) (drop l.node-index l.nodes) ≡ l.fn.links ++ map (link_to l.tail) l.nodes

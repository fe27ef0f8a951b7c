use Rattle.std.proofs.Common.{◌≡◌, ◌++◌, drop}
use Rattle.reachability.specs.Named.{indexes_of}
use Rattle.reachability.proofs.naming.indexes.Given as goal

-- the positions so far and those of the rest are all
abbrev pub invariant-loop-name : goal.invariant-loop-name
invariant-loop-name l = l.nodes ++ indexes_of l.decls (drop l.name-index l.names) ≡ indexes_of l.decls l.names

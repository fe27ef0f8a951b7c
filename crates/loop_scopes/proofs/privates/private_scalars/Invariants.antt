use Rattle.std.proofs.Common.{◌≡◌, ◌++◌, drop}
use Rattle.loop_scopes.specs.Loops.{privates_of}
use Rattle.loop_scopes.proofs.privates.private_scalars.Given as goal

abbrev pub invariant-loop-name : goal.invariant-loop-name
invariant-loop-name l = privates_of l.table l.pushed l.names l.table.3 ≡ l.privates ++ privates_of l.table l.pushed l.names (drop l.name-index l.table.3)

use Rattle.std.proofs.Common.{◌≡◌, drop}
use Rattle.fl_types.specs.Sharing.{has_name}
use Rattle.forward_run.proofs.entry.has_name.Given as goal

abbrev pub invariant-loop-other : goal.invariant-loop-other
invariant-loop-other l = has_name l.name l.names ≡ has_name l.name (drop l.other-index l.names)

use Rattle.std.proofs.Common.{◌≡◌, take, map}
use Rattle.fl_types.specs.Sharing.{has_name}
use Rattle.answers.specs.Sweeps.{quiet_entry}
use Rattle.run_stages.proofs.quiet.quieted.Given as goal

abbrev pub invariant-loop-entry : goal.invariant-loop-entry
invariant-loop-entry l = l.entries ≡ map (quiet_entry (λ x. has_name x l.active.names)) (take l.entry-index l.weights.entries)

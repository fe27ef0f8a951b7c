use Rattle.std.proofs.Common.{refl}
use Rattle.ending.proofs.Follow.{goes_on, ends_at, stands, says_part}
use Rattle.commands.proofs.unbuilt.replay_forced.Goals as goal

pub returns-in_err-_typed : goal.returns-in_err-_typed
unfolding Rattle.commands.specs.Unbuilt.force_stage
returns-in_err-_typed g c = ends_at (rw (c.as_slice.ensures, c.as_slice-2.ensures) at c.in_err-_typed.ensures) c.from_residual.ensures

pub returns : goal.returns
unfolding Rattle.commands.specs.Unbuilt.force_stage
returns g c = goes_on (rw (c.as_slice.ensures, c.as_slice-2.ensures) at c.in_ok-_typed.ensures) (stands (says_part c.not_built.ensures (λ rest. refl)))

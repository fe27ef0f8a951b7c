use Rattle.std.proofs.Common.{refl}
use Rattle.ending.proofs.Follow.{goes_on, ends_at, stands, says_part}
use Rattle.commands.proofs.unbuilt.replay_files.Goals as goal

pub returns-in_err-typed : goal.returns-in_err-typed
unfolding Rattle.commands.specs.Unbuilt.steps_stage
returns-in_err-typed g c = ends_at (rw (c.as_slice-of.ensures, c.as_slice.ensures) at c.in_err-typed.ensures) c.from_residual.ensures

pub returns-in_err-args : goal.returns-in_err-args
unfolding Rattle.commands.specs.Unbuilt.steps_stage
returns-in_err-args g c =
    goes_on (rw (c.as_slice-of.ensures, c.as_slice.ensures) at c.in_ok-typed.ensures) (ends_at c.in_err-args.ensures.stage c.from_residual-in_err-args.ensures)

pub returns-in_err-_weights : goal.returns-in_err-_weights
unfolding Rattle.commands.specs.Unbuilt.steps_stage
returns-in_err-_weights g c =
    goes_on (rw (c.as_slice-of.ensures, c.as_slice.ensures) at c.in_ok-typed.ensures) (goes_on c.in_ok-args.ensures.stage
    (ends_at (rw c.as_slice-of.ensures at c.in_err-_weights.ensures.stage) c.from_residual-in_err-_weights.ensures))

pub returns-in_err-load_unread : goal.returns-in_err-load_unread
unfolding Rattle.commands.specs.Unbuilt.steps_stage
returns-in_err-load_unread g c =
    goes_on (rw (c.as_slice-of.ensures, c.as_slice.ensures) at c.in_ok-typed.ensures) (goes_on c.in_ok-args.ensures.stage
    (goes_on (rw c.as_slice-of.ensures at c.in_ok-_weights.ensures.stage) (ends_at c.in_err-load_unread.ensures c.from_residual-in_err-load_unread.ensures)))

pub returns : goal.returns
unfolding Rattle.commands.specs.Unbuilt.steps_stage
returns g c =
    goes_on (rw (c.as_slice-of.ensures, c.as_slice.ensures) at c.in_ok-typed.ensures) (goes_on c.in_ok-args.ensures.stage
    (goes_on (rw c.as_slice-of.ensures at c.in_ok-_weights.ensures.stage) (goes_on c.in_ok-load_unread.ensures
    (stands (says_part c.not_built.ensures (λ rest. refl))))))

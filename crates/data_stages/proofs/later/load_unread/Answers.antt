use Rattle.std.proofs.Common.{refl}
use Rattle.ending.proofs.Follow.{goes_on, ends_at, stands, says_part}
use Rattle.data_stages.proofs.later.load_unread.Goals as goal

pub returns-in_err-_bytes : goal.returns-in_err-_bytes
unfolding Rattle.data_stages.specs.Later.unread_stage
returns-in_err-_bytes g c = ends_at c.in_err-_bytes.ensures.stage c.from_residual.ensures

pub returns : goal.returns
unfolding Rattle.data_stages.specs.Later.unread_stage
returns g c = goes_on c.in_ok-_bytes.ensures.stage (stands (says_part c.not_built.ensures (λ rest. refl)))

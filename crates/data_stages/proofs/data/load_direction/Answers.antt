use Rattle.ending.proofs.Follow.{goes_on, ends_at, stands}
use Rattle.data_stages.proofs.data.load_direction.Goals as goal

pub returns-in_err-bytes : goal.returns-in_err-bytes
unfolding Rattle.data_stages.specs.Files.direction_stage
returns-in_err-bytes g c = ends_at c.in_err-bytes.ensures.stage c.from_residual.ensures

pub returns : goal.returns
unfolding Rattle.data_stages.specs.Files.direction_stage
returns g c = goes_on c.in_ok-bytes.ensures.stage (stands (rw c.deref.ensures.value at c.direction_of.ensures))

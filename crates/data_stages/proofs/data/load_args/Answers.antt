use Rattle.data_stages.specs.Files.{args_in}
use Rattle.ending.proofs.Follow.{goes_on, ends_at, stands}
use Rattle.data_stages.proofs.Found.{some_bytes}
use Rattle.data_stages.proofs.data.load_args.Goals as goal

pub returns-in_err-bytes-clause-stage : goal.returns-in_err-bytes-clause-stage
unfolding Rattle.data_stages.specs.Files.args_stage
returns-in_err-bytes-clause-stage g c = ends_at c.in_err-bytes.ensures.stage c.from_residual.ensures

pub returns-clause-stage : goal.returns-clause-stage
unfolding Rattle.data_stages.specs.Files.args_stage
returns-clause-stage g c = goes_on c.in_ok-bytes.ensures.stage (stands (rw c.deref.ensures.value at c.args_of.ensures.part))

pub returns-clause-read : goal.returns-clause-read
returns-clause-read g c = some_bytes c.args_of.result (args_in c.args.typed.now) _ c.args_of.ensures.read

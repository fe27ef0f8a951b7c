use Rattle.std.proofs.Common.{refl}
use Rattle.ending.proofs.Follow.{goes_on, ends_at, ends_part, stands, gives}
use Rattle.run_stages.proofs.Giving.{args_small, seed_small, seed_asked}
use Rattle.run_stages.proofs.inputs.prepare.Goals as goal

pub returns-in_err-typed-clause-stage : goal.returns-in_err-typed-clause-stage
unfolding Rattle.run_stages.specs.Runs.inputs_stage Rattle.program_stage.specs.Programs.subject_stage
returns-in_err-typed-clause-stage g c = ends_at c.in_err-typed.ensures.stage c.from_residual.ensures

pub returns-in_err-active-clause-stage : goal.returns-in_err-active-clause-stage
unfolding Rattle.run_stages.specs.Runs.inputs_stage Rattle.program_stage.specs.Programs.subject_stage
returns-in_err-active-clause-stage g c =
    goes_on c.in_ok-typed.ensures.stage (ends_part (rw (c.as_slice-of.ensures, c.as_slice.ensures) at c.in_err-active.ensures.part) c.from_residual-in_err-active.ensures)

pub returns-in_err-args-clause-stage : goal.returns-in_err-args-clause-stage
unfolding Rattle.run_stages.specs.Runs.inputs_stage Rattle.program_stage.specs.Programs.subject_stage
returns-in_err-args-clause-stage g c =
    goes_on c.in_ok-typed.ensures.stage (goes_on (stands (rw (c.as_slice-of.ensures, c.as_slice.ensures) at c.in_ok-active.ensures.part))
    (ends_at c.in_err-args.ensures.stage c.from_residual-in_err-args.ensures))

pub returns-in_err-weights-clause-stage : goal.returns-in_err-weights-clause-stage
unfolding Rattle.run_stages.specs.Runs.inputs_stage Rattle.program_stage.specs.Programs.subject_stage
returns-in_err-weights-clause-stage g c =
    goes_on c.in_ok-typed.ensures.stage (goes_on (stands (rw (c.as_slice-of.ensures, c.as_slice.ensures) at c.in_ok-active.ensures.part))
    (goes_on c.in_ok-args.ensures.stage (ends_at (rw c.as_slice-of.ensures at c.in_err-weights.ensures.stage) c.from_residual-in_err-weights.ensures)))

pub returns-in_err-layout-clause-stage : goal.returns-in_err-layout-clause-stage
unfolding Rattle.run_stages.specs.Runs.inputs_stage Rattle.program_stage.specs.Programs.subject_stage
returns-in_err-layout-clause-stage g c =
    goes_on c.in_ok-typed.ensures.stage (goes_on (stands (rw (c.as_slice-of.ensures, c.as_slice.ensures) at c.in_ok-active.ensures.part))
    (goes_on c.in_ok-args.ensures.stage (goes_on (rw c.as_slice-of.ensures at c.in_ok-weights.ensures.stage)
    (ends_at c.in_err-layout.ensures.stage c.from_residual-in_err-layout.ensures))))

pub returns-clause-stage : goal.returns-clause-stage
unfolding Rattle.run_stages.specs.Runs.inputs_stage Rattle.program_stage.specs.Programs.subject_stage
returns-clause-stage g c =
    goes_on c.in_ok-typed.ensures.stage (goes_on (stands (rw (c.as_slice-of.ensures, c.as_slice.ensures) at c.in_ok-active.ensures.part))
    (goes_on c.in_ok-args.ensures.stage (goes_on (rw c.as_slice-of.ensures at c.in_ok-weights.ensures.stage)
    (goes_on c.in_ok-layout.ensures.stage (stands (gives _ refl))))))

pub returns-clause-given : goal.returns-clause-given
returns-clause-given g c = record {
  small = args_small c.in_ok-typed.typed c.in_ok-args.args _ c.in_ok-args.ensures.read.1;
  light = seed_small c.in_ok-typed.typed c.in_ok-args.args c.as_slice-of.result.now c.in_ok-weights.weights _ c.in_ok-weights.ensures.read.1;
  asked = rw c.as_slice-of.ensures at
      (seed_asked c.in_ok-typed.typed c.in_ok-args.args c.as_slice-of.result.now c.in_ok-weights.weights _ c.in_ok-weights.ensures.read.1);
}

pub returns-clause-active : goal.returns-clause-active
returns-clause-active g c = rw (c.as_slice-of.ensures, c.as_slice.ensures) at c.in_ok-active.ensures.active

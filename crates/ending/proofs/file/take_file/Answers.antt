use Rattle.std.proofs.Common.{rules, refl}
use Rattle.ending.proofs.Follow.{unfaulted}
use Rattle.ending.proofs.Takes.{took, too_long, not_there, failed, missing_clear}
use Rattle.ending.proofs.file.take_file.Goals as goal

pub returns-in-Ok-clause-stage : goal.returns-in-Ok-clause-stage
returns-in-Ok-clause-stage g c = record {
  same = c.in-Ok.ensures.same;
  counted = c.in-Ok.ensures.cause.later;
  rose = λ h. absurd h;
  told = took _ c.in-Ok.bytes c.in-Ok.ensures.told;
}

pub returns-in-Err-Missing-clause-stage : goal.returns-in-Err-Missing-clause-stage
returns-in-Err-Missing-clause-stage g c = record {
  same = c.in-Err-Missing.ensures.same;
  counted = c.in-Err-Missing.ensures.cause.later;
  rose = λ h. absurd (missing_clear _ _ c.missing.ensures h);
  told = not_there _ _ _ _ (rw c.in-Err-Missing.field-0-is at c.in-Err-Missing.ensures.told) c.missing.ensures;
}

pub returns-in-Err-TooLong-clause-stage : goal.returns-in-Err-TooLong-clause-stage
returns-in-Err-TooLong-clause-stage g c = record {
  same = c.in-Err-TooLong.ensures.same;
  counted = c.in-Err-TooLong.ensures.cause.later;
  rose = λ h. absurd (unfaulted _ _ _ c.said.ensures h);
  told = too_long _ _ _ _ (rw c.in-Err-TooLong.field-0-is at c.in-Err-TooLong.ensures.told) c.said.ensures;
}

pub returns-in-Err-Failed-clause-stage : goal.returns-in-Err-Failed-clause-stage
returns-in-Err-Failed-clause-stage g c = record {
  same = c.in-Err-Failed.ensures.same;
  counted = c.in-Err-Failed.ensures.cause.later;
  rose = λ h. c.in-Err-Failed.ensures.cause.rose (search rules);
  told = λ files e. failed _ _ _ _ c.fault.ensures files;
}

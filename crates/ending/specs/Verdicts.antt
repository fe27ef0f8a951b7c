-- The status of a verdict.
use Rattle.ending.specs.declared.status.Status.{Status}
use Rattle.ending.specs.declared.status.Status.TheVariants as status
use Rattle.ending.specs.declared.verdict.Verdict.{Verdict}
use Rattle.ending.specs.declared.verdict.Verdict.TheVariants as verdict

abbrev pub status_of : Verdict → Status
status_of verdict.Refused = status.Refused
status_of verdict.BadData = status.BadData
status_of verdict.Conflicted = status.Conflicted
status_of verdict.Trapped = status.Trapped
status_of verdict.BadCertificate = status.BadCertificate
status_of verdict.OverLimit = status.OverLimit

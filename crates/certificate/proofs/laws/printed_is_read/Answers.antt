use Rattle.certificate.proofs.PrintedBack.{printed-is-read}
use Rattle.certificate.proofs.laws.printed_is_read.Goals as goal

pub returns : goal.returns
returns c = printed-is-read

use Rattle.std.proofs.Common.{refl}
use Rattle.ending.proofs.Follow.{stands, gives}
use Rattle.data_stages.proofs.later.load_certificate.Goals as goal

pub returns-in-Some : goal.returns-in-Some
unfolding Rattle.data_stages.specs.Later.certificate_stage
returns-in-Some g c = rw c.in-Some.is c.load_unread.ensures

pub returns-in-None : goal.returns-in-None
unfolding Rattle.data_stages.specs.Later.certificate_stage
returns-in-None g c = rw c.in-None.is (stands (gives tt refl))

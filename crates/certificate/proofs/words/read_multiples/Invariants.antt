use Rattle.std.proofs.Common.{◌≡◌, length}
use Rattle.certificate.specs.Reading.{texts, multiples_in}
use Rattle.certificate.proofs.Items.{behind}
use Rattle.certificate.proofs.words.read_multiples.Given as goal

abbrev pub invariant-loop-rest : goal.invariant-loop-rest
invariant-loop-rest l = multiples_in (texts l.words) ≡ behind l.all (multiples_in (texts l.rest))

abbrev pub decreases-loop-rest : goal.decreases-loop-rest
decreases-loop-rest l = length l.rest

use Rattle.std.proofs.Common.{◌≡◌, drop}
use Rattle.certificate.specs.Reading.{texts, numbers_in}
use Rattle.certificate.proofs.Items.{behind}
use Rattle.certificate.proofs.words.read_numbers.Given as goal

abbrev pub invariant-loop-word : goal.invariant-loop-word
invariant-loop-word l = numbers_in (texts l.words) ≡ behind l.all (numbers_in (texts (drop l.word-index l.words)))

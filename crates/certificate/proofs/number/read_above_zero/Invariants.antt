use Rattle.std.proofs.Common.{◌≡◌, ◌≤◌, drop}
use Rattle.certificate.specs.Numbers.{number_from}
use Rattle.certificate.proofs.number.read_above_zero.Given as goal

-- the number so far, with the digits that are left, is the whole
abbrev pub invariant-loop-byte : goal.invariant-loop-byte
invariant-loop-byte l = record {
  whole : number_from l.number (drop l.byte-index l.text) ≡ number_from 0 l.text;
  small : l.number ≤ l.most;
}

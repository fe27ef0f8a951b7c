use Rattle.std.proofs.Common.{◌≡◌, ◌++◌, drop}
use Rattle.certificate.specs.Text.{multiples_text}
use Rattle.certificate.proofs.printing.push_multiples.Given as goal

abbrev pub invariant-loop-multiple : goal.invariant-loop-multiple
invariant-loop-multiple l = l.text.items ++ multiples_text (drop l.multiple-index l.multiples) ≡ l.fn.text.items ++ multiples_text l.multiples

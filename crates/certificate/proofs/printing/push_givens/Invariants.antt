use Rattle.std.proofs.Common.{◌≡◌, ◌++◌, drop}
use Rattle.certificate.specs.Text.{givens_text}
use Rattle.certificate.proofs.printing.push_givens.Given as goal

abbrev pub invariant-loop-given : goal.invariant-loop-given
invariant-loop-given l = l.text.items ++ givens_text (drop l.given-index l.list) ≡ l.fn.text.items ++ givens_text l.list

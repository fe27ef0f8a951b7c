use Rattle.std.proofs.Common.{◌≡◌, ◌+◌, [], drop}
use Rattle.certificate.specs.declared.stage.Stage.TheVariants.{Opening}
use Rattle.certificate.specs.Reading.{texts, read_from}
use Rattle.certificate.proofs.reading.read_lines.Given as goal

abbrev pub invariant-loop-i : goal.invariant-loop-i
invariant-loop-i l = read_from (l.i + 1) (texts (drop l.i l.lines)) l.stage l.done ≡ read_from 1 (texts l.lines) Opening []

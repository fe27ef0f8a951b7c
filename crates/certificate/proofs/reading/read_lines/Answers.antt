use Rattle.std.proofs.Common.{ap, sym, ◌∙◌}
use Rattle.certificate.specs.Reading.{with_done}
use Rattle.certificate.proofs.ReadLines.{refused, accepted}
use Rattle.certificate.proofs.reading.read_lines.Goals as goal

pub returns-in-Ok-None : goal.returns-in-Ok-None
returns-in-Ok-None c =
    let h = c.in-Ok-None.ensures in
    refused c.args.lines.now c.loop-i.i _ c.loop-i.stage c.loop-i.done _ c.loop-i-test.true c.if-i-lines.false c.loop-i.invariant
    (sym (ap (with_done c.step.new.done) c.in-Ok-None.field-0-is) ∙ h)

pub loop-i-preserved : goal.loop-i-preserved
loop-i-preserved c =
    let h = c.in-Ok-Some.ensures in
    accepted c.args.lines.now c.loop-i.i _ c.loop-i.stage c.loop-i.done _ c.in-Ok-Some.next c.step.new.done c.loop-i-test.true c.if-i-lines.false c.loop-i.invariant
    (sym (ap (with_done c.step.new.done) c.in-Ok-Some.field-0-is) ∙ h)

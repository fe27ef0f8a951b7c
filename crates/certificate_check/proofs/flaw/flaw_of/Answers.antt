use Rattle.std.proofs.Common.{◌≡◌, Some, None, sym, ap, ◌∙◌}
use Rattle.std.specs.Prelude.{option_copied}
use Rattle.certificate_rules.specs.Surveys.{numbered}
use Rattle.certificate_check.proofs.FirstFlaws.{loop-there, loop-none}
use Rattle.certificate_check.proofs.flaw.flaw_of.Goals as goal

pub returns-in_ok-flaw_at-in-Some : goal.returns-in_ok-flaw_at-in-Some
returns-in_ok-flaw_at-in-Some c =
    let e : Some c.in-Some.entry.now ≡ numbered c.args.loops.now c.args.given.now.heading.loop_number = sym (ap option_copied c.in-Some.is) ∙ c.numbered.ensures in
    c.in_ok-flaw_at-in-Some.ensures ∙ loop-there c.args.active.now c.args.loops.now c.args.given.now c.in-Some.entry.now e

pub returns-in-None : goal.returns-in-None
returns-in-None c =
    let e : None ≡ numbered c.args.loops.now c.args.given.now.heading.loop_number = sym (ap option_copied c.in-None.is) ∙ c.numbered.ensures in
    loop-none c.args.active.now c.args.loops.now c.args.given.now e

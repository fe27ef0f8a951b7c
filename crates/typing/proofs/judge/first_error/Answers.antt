use Rattle.std.proofs.Common.{◌≡◌, rules, Some, None, ap, sym, ◌∙◌}
use Rattle.typing.specs.Firsts.{first_in_program}
use Rattle.typing.specs.Views.{Told}
use Rattle.typing.proofs.Judged.{faultless, faulty}
use Rattle.typing.proofs.judge.first_error.Goals as goal

pub returns-in-None : goal.returns-in-None
returns-in-None c =
    let h : None ≡ first_in_program c.args.program.now = search rules in
    faultless c.args.program.now h

pub returns : goal.returns
returns c =
    let t : Told = record { rule = c.in-Some.fault.rule; line = c.in-Some.fault.line; name = c.in-Some.fault.name.now } in
    let h : Some t ≡ first_in_program c.args.program.now = search rules in
    ap Some c.in_ok-error_of-in-Some.ensures ∙ faulty c.args.program.now t h

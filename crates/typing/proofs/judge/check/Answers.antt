use Rattle.std.proofs.Common.{◌≡◌, rules, Some, None, Ok, Err, ap, ◌∙◌, sym}
use Rattle.fl_types.specs.Rows.{first_fault}
use Rattle.typing.proofs.Judged.{judged_ok, judged_err}
use Rattle.typing.proofs.TypedLaws.{typed}
use Rattle.typing.proofs.judge.check.Goals as goal

pub of-requires : goal.of-requires
of-requires c =
    let h : None ≡ first_fault c.args.program = search rules in
    typed c.args.program c.requires (sym h)

pub returns-in-Ok-None : goal.returns-in-Ok-None
returns-in-Ok-None c =
    let h : None ≡ first_fault c.args.program = search rules in
    judged_ok c.args.program h ∙ ap Ok (sym c.of.ensures)

pub returns-in-Ok-Some : goal.returns-in-Ok-Some
returns-in-Ok-Some c =
    let h : Some c.in-Ok-Some.error ≡ first_fault c.args.program = search rules in
    λ _. judged_err c.args.program c.in-Ok-Some.error h

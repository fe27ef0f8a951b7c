use Rattle.std.proofs.Common.{◌≡◌, [], take, drop}
use Rattle.typing.specs.Firsts.{first_in_args}
use Rattle.typing.proofs.whole.in_args.Given as goal

-- those that are left answer as all do
abbrev pub invariant-loop-i : goal.invariant-loop-i
invariant-loop-i l = first_in_args l.program l.line (take l.i l.args) (drop l.i l.args) ≡ first_in_args l.program l.line [] l.args

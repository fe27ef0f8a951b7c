use Rattle.std.proofs.Common.{◌≡◌, [], take, drop}
use Rattle.typing.specs.Firsts.{first_in_decls}
use Rattle.typing.proofs.whole.in_decls.Given as goal

-- those that are left answer as all do
abbrev pub invariant-loop-i : goal.invariant-loop-i
invariant-loop-i l = first_in_decls l.program (take l.i l.decls) (drop l.i l.decls) ≡ first_in_decls l.program [] l.decls

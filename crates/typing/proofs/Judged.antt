-- The judgement of a program by what the walk tells.
use Rattle.std.proofs.Common.{◌≡◌, Some, None, Ok, Err, sym, ap, ◌∙◌}
use Rattle.fl_ast.specs.declared.stmt.Program.{Program}
use Rattle.fl_types.specs.declared.typed.TypeError.{TypeError}
use Rattle.fl_types.specs.Rows.{first_fault, refused_by, judged}
use Rattle.typing.specs.Errors.{error_of}
use Rattle.typing.specs.Firsts.{first_in_program}
use Rattle.typing.specs.Views.{Told}
use Rattle.typing.proofs.Heads.{error, error_none, error_some}
use Rattle.typing.proofs.Along.{walk_finds}

-- where nothing is told there is no fault
pub faultless : (p : Program) → None ≡ first_in_program p → None ≡ first_fault p
faultless p h = sym (sym (walk_finds p) ∙ (ap error (sym h) ∙ error_none))

-- what is told is the first fault
pub faulty : (p : Program) (t : Told) → Some t ≡ first_in_program p → Some (error_of t) ≡ first_fault p
faulty p t h = sym (sym (walk_finds p) ∙ (ap error (sym h) ∙ error_some t))

pub judged_ok : (p : Program) → None ≡ first_fault p → judged p ≡ Ok p
unfolding judged
judged_ok p h = ap (refused_by p) (sym h)

pub judged_err : (p : Program) (e : TypeError) → Some e ≡ first_fault p → judged p ≡ Err e
unfolding judged
judged_err p e h = ap (refused_by p) (sym h)

-- A program that is typed is found to be typed again.
use Rattle.std.proofs.Common.{◌≡◌, Option, Some, None, Ok, refl, sym, subst, ◌∙◌}
use Rattle.fl_ast.specs.declared.stmt.Program.{Program}
use Rattle.fl_types.specs.declared.typed.TypeError.{TypeError}
use Rattle.fl_types.specs.Rows.{first_fault, refused_by, judged}

same_program : (p q : Program) (fault : Option TypeError) → refused_by p fault ≡ Ok q → p ≡ q
same_program p q None h = cc
same_program p q (Some error) h = absurd (cc)

pub judged_again : (p q : Program) → judged p ≡ Ok q → judged q ≡ Ok q
unfolding judged
judged_again p q h =
    let e : p ≡ q = same_program p q (first_fault p) h in
    subst (λ (r : Program). judged r ≡ Ok q) e h

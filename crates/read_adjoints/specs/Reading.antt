-- Printed adjoints of typed programs.
use Rattle.std.specs.Prelude.{◌≡◌, ℕ, Bool, true, List}
use Rattle.fl_ast.specs.declared.adjoint.Adjoint.{Adjoint}
use Rattle.fl_ast.specs.declared.stmt.Program.{Program}
use Rattle.fl_ast.specs.AdjointTree.{adjoint_tree}
use Rattle.fl_types.specs.WellTyped.{IsTyped}
use Rattle.fl_printer.specs.Small.{are_small}
use Rattle.fl_printer.specs.Text.{adjoint_text}
use Rattle.adjoint_rules.specs.Adjoint.{adjoint_of}
use Rattle.adjoint_choices.specs.Choosing.{choices_of}
use Rattle.adjoint_sets.specs.Names.{is_active}
use Rattle.printed_adjoints.specs.Adjoints.{IsReadBack}

-- of any names by any names, whatever names are needed
abbrev pub AskedAdjointsAreRead : Type 0
AskedAdjointsAreRead =
    (p : Program) (of wrt : List (List ℕ)) (needed : List ℕ → Bool) (a : Adjoint) (text : List ℕ) → IsTyped p → are_small p.decls ≡ true
    → adjoint_tree a ≡ adjoint_of p (is_active p of wrt) needed (choices_of p (is_active p of wrt)) → text ≡ adjoint_text (adjoint_tree a)
    → IsReadBack text (adjoint_tree a)

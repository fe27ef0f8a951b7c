-- Adjoints as they are made: of names by names, with the choices where nothing is known of which iterations meet.
use Rattle.std.specs.Prelude.{◌≡◌, ℕ, Bool, true, List, map}
use Rattle.fl_ast.specs.declared.decl.Decl.{Decl}
use Rattle.fl_ast.specs.declared.adjoint.Adjoint.{Adjoint}
use Rattle.fl_ast.specs.declared.stmt.Program.{Program}
use Rattle.fl_ast.specs.Tree.{stmt_trees}
use Rattle.fl_ast.specs.AdjointTree.{adjoint_tree}
use Rattle.fl_ast.specs.Readable.{IsReadable}
use Rattle.fl_types.specs.WellTyped.{IsTyped}
use Rattle.adjoint_rules.specs.Adjoint.{adjoint_of}
use Rattle.adjoint_sets.specs.Names.{is_active}
use Rattle.readable_adjoints.specs.Fitting.{are_fair, IsReadableWithRoom}
use Rattle.adjoint_choices.specs.Choosing.{choices_of}

abbrev pub ChoicesAreFair : Type 0
ChoicesAreFair = (p : Program) (active : List ℕ → Bool) → IsReadable p → are_fair (choices_of p active) (map (λ (d : Decl). d.name) p.decls) (stmt_trees p.body) ≡ true

-- of any names by any names, whatever names are needed
abbrev pub AskedAdjointsAreReadable : Type 0
AskedAdjointsAreReadable =
    (p : Program) (of wrt : List (List ℕ)) (needed : List ℕ → Bool) (a : Adjoint) → IsTyped p
    → adjoint_tree a ≡ adjoint_of p (is_active p of wrt) needed (choices_of p (is_active p of wrt)) → IsReadableWithRoom a

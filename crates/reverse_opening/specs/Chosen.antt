-- How adjoints are incremented in each parallel loop, by name and by slot.
use Rattle.std.specs.Prelude.{◌≡◌, ℕ, zero, suc, ◌+◌, max, ◌&&◌, nat_eq, Bool, if◌then◌else◌, List, [], ◌∷◌, ◌++◌, map}
use Rattle.fl_ast.specs.Tree.{Subroutine}
use Rattle.fl_types.specs.declared.choice.Choice.{Choice}
use Rattle.fl_types.specs.declared.choice.Chosen.{Chosen}
use Rattle.fl_types.specs.Sharing.{has_name}
use Rattle.store_core.specs.declared.layout.Shape.{Shape}
use Rattle.adjoint_rules.specs.Scopes.{is_reduction}
use Rattle.loop_choices.specs.Choosing.{is_shared, choice_by, choice_in}
use Rattle.resolved.specs.SlotTables.{Names, names_of}
use Rattle.transposition.specs.Worlds.{World}
use Rattle.transposition.specs.Programs.{program_world}
use Rattle.undo_steps.specs.UndoSteps.{UndoTrees}
use Rattle.undo_steps.specs.UndosStand.{AllUndoStand}

-- the world of a program for these choices
abbrev pub chosen_world : Subroutine → List Shape → (pushed active : List ℕ → Bool) → List Chosen → World
chosen_world p shapes pushed active choices = program_world p shapes pushed active (choice_in choices)

-- the names of a program, and statements that undo the program's in its world
pub record IsUndone (p : Subroutine) (shapes : List Shape) (pushed active : List ℕ → Bool) (choices : List Chosen) (names : Names) (us : UndoTrees) : Type 0 where
  pub named : names ≡ names_of shapes p.decls
  pub stands : AllUndoStand names (chosen_world p shapes pushed active choices) us p.body

-- ---- by slot

abbrev pub names_if : Bool → List ℕ → List (List ℕ) → List (List ℕ)
names_if b x xs = if b then x ∷ xs else xs

-- the names whose choice passes in the loop with a number
abbrev pub names_in : (Choice → Bool) → List Chosen → ℕ → List (List ℕ)
names_in passes [] number = []
names_in passes (c ∷ cs) number = names_if (nat_eq c.loop_number number && passes c.choice) c.name (names_in passes cs number)

abbrev pub row_in : List Shape → (collected shared : List (List ℕ)) → List Choice
row_in shapes collected shared = map (λ (s : Shape). choice_by (has_name s.name collected) (has_name s.name shared)) shapes

-- more than the number of any loop for which there is a choice
abbrev pub count_in : List Chosen → ℕ
count_in [] = 0
count_in (c ∷ cs) = max (c.loop_number + 1) (count_in cs)

-- the choices in the loops whose numbers are below n
abbrev pub rows_below : List Shape → List Chosen → ℕ → List (List Choice)
rows_below shapes choices zero = []
rows_below shapes choices (suc n) = rows_below shapes choices n ++ row_in shapes (names_in is_reduction choices n) (names_in is_shared choices n) ∷ []

-- How the adjoint of a name is incremented in a parallel loop.
use Rattle.std.specs.Prelude.{ℕ, Bool, true, false, if◌then◌else◌, List}
use Rattle.fl_types.specs.declared.choice.Choice.{Choice}
use Rattle.fl_types.specs.declared.choice.Choice.TheVariants.{Shared, Atomic, Reduction}
use Rattle.fl_types.specs.declared.choice.Chosen.{Chosen}
use Rattle.adjoint_rules.specs.Scopes.{is_reduction, has_choice}

abbrev pub is_shared : Choice → Bool
is_shared Shared = true
is_shared Atomic = false
is_shared Reduction = false

abbrev pub choice_by : (collected shared : Bool) → Choice
choice_by collected shared = if collected then Reduction else if shared then Shared else Atomic

-- The choice for a name in the loop with the number. Where none is made, none of the increments of the name's adjoint is on a cell that
-- iterations share, so that one step is as good as two.
abbrev pub choice_in : List Chosen → ℕ → List ℕ → Choice
choice_in choices number x = choice_by (has_choice is_reduction choices number x) (has_choice is_shared choices number x)

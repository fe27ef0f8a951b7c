-- How the adjoints of names are incremented in the reverses of parallel loops, where nothing is known of which iterations meet.
use Rattle.std.specs.Prelude.{ℕ, Bool, true, false, not, ◌&&◌, ◌||◌, if◌then◌else◌, bytes_eq, List, [], ◌∷◌, filter, map}
use Rattle.std.specs.List.{list_any, flat_map}
use Rattle.std.specs.Cmp.Lexicographic.{slice_cmp}
use Rattle.std.specs.Ordering.{nat_cmp, is_lt}
use Rattle.fl_ast.specs.declared.decl.Decl.{Decl}
use Rattle.fl_ast.specs.declared.stmt.Program.{Program}
use Rattle.fl_ast.specs.Tree.{Expression, Designator, Statement, assignment, branch, loop, Statements, no_statements, statement, Arms, no_arms, arm, stmt_trees}
use Rattle.fl_types.specs.declared.choice.Choice.{Choice}
use Rattle.fl_types.specs.declared.choice.Choice.TheVariants.{Atomic, Reduction}
use Rattle.fl_types.specs.declared.choice.Chosen.{Chosen}
use Rattle.fl_types.specs.declared.sharing.Sharing.{Sharing}
use Rattle.fl_types.specs.declared.sharing.Sharing.TheVariants.{Shared, Private, First, Plus, LoopVar}
use Rattle.fl_types.specs.Increment.{increment_terms}
use Rattle.fl_types.specs.Sharing.{sharing_in, assigns_in, ParallelLoop, loops_of_all}
use Rattle.fl_types.specs.Declarations.{is_scalar}
use Rattle.adjoint_rules.specs.Needed.{Kinds, kinds_of}
use Rattle.adjoint_rules.specs.Occurrences.{Occurrence, assignment_occurrences}

-- ---- names whose adjoints are incremented

abbrev pub is_of : List ℕ → Occurrence → Bool
is_of x o = bytes_eq x o.place.name

-- the reverse of an assignment to an active target has one increment for each occurrence
abbrev pub grows_by : Kinds → List ℕ → Designator → Expression → Bool
grows_by k x p e = k.active p.name && list_any (is_of x) (assignment_occurrences k.active e (increment_terms k.ring p e))

-- the adjoint of a name is incremented in the reverse of a tree
abbrev mutual
  pub grows : Kinds → List ℕ → Statement → Bool
  grows k x (assignment line atomic p e) = grows_by k x p e
  grows k x (branch line arms other) = grows_in_arms k x arms || grows_in k x other
  grows k x (loop line number directive var first last step body) = grows_in k x body

  pub grows_in : Kinds → List ℕ → Statements → Bool
  grows_in k x no_statements = false
  grows_in k x (statement s ss) = grows k x s || grows_in k x ss

  pub grows_in_arms : Kinds → List ℕ → Arms → Bool
  grows_in_arms k x no_arms = false
  grows_in_arms k x (arm test body arms) = grows_in k x body || grows_in_arms k x arms

-- ---- choices

abbrev pub is_scalar_name : List Decl → List ℕ → Bool
is_scalar_name decls x = list_any (λ (d : Decl). bytes_eq x d.name && is_scalar d.dims) decls

-- iterations share the place, or begin with its value
abbrev pub has_a_choice : Sharing → Bool
has_a_choice Shared = true
has_a_choice First = true
has_a_choice Private = false
has_a_choice Plus = false
has_a_choice LoopVar = false

-- a scalar that the loop only reads is collected by iteration
abbrev pub choice_of : Bool → Choice
choice_of collected = if collected then Reduction else Atomic

abbrev pub chosen_for : List Decl → ℕ → Statements → List ℕ → Chosen
chosen_for decls number body x = record { loop_number = number; name = x; choice = choice_of (is_scalar_name decls x && not (assigns_in x body)) }

abbrev pub choices_for : List Decl → Kinds → ParallelLoop → List ℕ → List Chosen
choices_for decls k l x =
    if has_a_choice (sharing_in l.var l.directive l.body x) && grows_in k x l.body then chosen_for decls l.number l.body x ∷ [] else []

-- ---- the order of names

abbrev pub is_before : List ℕ → List ℕ → Bool
is_before x y = is_lt (slice_cmp nat_cmp x y)

-- a name among names that are in the order of their bytes
abbrev pub put_in : List ℕ → List (List ℕ) → List (List ℕ)
put_in x [] = x ∷ []
put_in x (y ∷ ys) = if is_before x y then x ∷ y ∷ ys else y ∷ put_in x ys

abbrev pub in_order : List (List ℕ) → List (List ℕ)
in_order [] = []
in_order (x ∷ xs) = put_in x (in_order xs)

abbrev pub active_names : List Decl → (List ℕ → Bool) → List (List ℕ)
active_names decls active = in_order (filter active (map (λ (d : Decl). d.name) decls))

-- by loop, which are numbered in textual order, and then by name
unfoldable pub choices_of : Program → (List ℕ → Bool) → List Chosen
choices_of p active =
    flat_map (λ l. flat_map (choices_for p.decls (kinds_of p active) l) (active_names p.decls active)) (loops_of_all [] (stmt_trees p.body))

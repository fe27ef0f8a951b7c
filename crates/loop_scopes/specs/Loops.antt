-- The names of a parallel loop, by sets.
use Rattle.std.specs.Prelude.{◌≡◌, ◌||◌, ◌&&◌, not, ℕ, Bool, if◌then◌else◌, bytes_eq, List, [], ◌∷◌, ◌++◌, Option, Some, None}
use Rattle.fl_ast.specs.declared.directive.Directive.{Directive}
use Rattle.fl_ast.specs.Tree.{Statements}
use Rattle.fl_types.specs.declared.sharing.Sharing.{Sharing}
use Rattle.fl_types.specs.declared.sharing.Sharing.TheVariants.{Shared, Private, First, Plus, LoopVar}
use Rattle.fl_types.specs.Sharing.{has_name, varies_in, assigns_in, is_accessed, is_private}
use Rattle.store_core.specs.Keys.{slot_of, place_in_slot}
use Rattle.resolved.specs.SlotTables.{Names}
use Rattle.sweep_trees.specs.Standing.{is_accessed_at}
use Rattle.sweep_steps.specs.declared.step.PrivateScalar.{PrivateScalar}
use Rattle.loop_scopes.specs.declared.loops.Loops.{Loops, fold-Loops}
use Rattle.loop_scopes.specs.declared.loops.Loops.TheOpen.{Loops-F}
use Rattle.loop_scopes.specs.declared.loops.LoopNames.{LoopNames}
use Rattle.loop_scopes.specs.declared.loops.ClauseNames.{ClauseNames}

abbrev pub names_level : Loops-F (List (List ℕ)) → List (List ℕ)
names_level Loops-F.Outside = []
names_level (Loops-F.Inside var outer) = var.now ∷ outer.now

-- the variables of loops, the innermost first
abbrev pub names_in : Loops → List (List ℕ)
names_in = fold-Loops (List (List ℕ)) names_level

abbrev pub class_by : LoopNames → List ℕ → Sharing
class_by l x =
    if has_name x l.variables then LoopVar
    else if has_name x l.privates then Private
    else if has_name x l.firsts then First
    else if has_name x l.pluses then Plus
    else Shared

abbrev pub accessed_by : LoopNames → List ℕ → Bool
accessed_by l x = not (has_name x l.outer) && is_accessed (class_by l x)

pub record AreClauseNames (c : ClauseNames) (directive : Directive) : Type 0 where
  pub is_privates : (x : List ℕ) → has_name x c.privates ≡ has_name x directive.privates
  pub is_firsts : (x : List ℕ) → has_name x c.firsts ≡ has_name x directive.firsts
  pub is_pluses : (x : List ℕ) → has_name x c.pluses ≡ has_name x directive.pluses

-- the sets are those of the loop
pub record IsLoopNames (l : LoopNames) (outer : List (List ℕ)) (var : List ℕ) (directive : Directive) (body : Statements) : Type 0 where
  pub is_outer : (x : List ℕ) → has_name x l.outer ≡ has_name x outer
  pub is_variables : (x : List ℕ) → has_name x l.variables ≡ (bytes_eq x var || varies_in x body)
  pub is_privates : (x : List ℕ) → has_name x l.privates ≡ has_name x directive.privates
  pub is_firsts : (x : List ℕ) → has_name x l.firsts ≡ has_name x directive.firsts
  pub is_pluses : (x : List ℕ) → has_name x l.pluses ≡ has_name x directive.pluses
  pub is_assigned : (x : List ℕ) → has_name x l.assigned ≡ assigns_in x body

-- ---- private scalars, in the order of the declarations

abbrev pub private_by : Names → List Bool → LoopNames → List ℕ → Option ℕ → List PrivateScalar
private_by names pushed l x None = []
private_by names pushed l x (Some slot) =
    record { slot = slot; place = place_in_slot names.0 slot []; pushes = has_name x l.assigned && is_accessed_at pushed slot } ∷ []

abbrev pub private_of : Names → List Bool → LoopNames → List ℕ → List PrivateScalar
private_of names pushed l x = if is_private (class_by l x) then private_by names pushed l x (slot_of names.0 x) else []

abbrev pub privates_of : Names → List Bool → LoopNames → List (List ℕ) → List PrivateScalar
privates_of names pushed l [] = []
privates_of names pushed l (x ∷ xs) = private_of names pushed l x ++ privates_of names pushed l xs

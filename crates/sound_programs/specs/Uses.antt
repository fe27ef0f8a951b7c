-- The names of a program as the law of transposition speaks of them, and what it asks of clauses and choices.
use Rattle.std.specs.Prelude.{◌≡◌, ℕ, Bool, true, false, not, ◌&&◌, List, [], map, None}
use Rattle.fl_ast.specs.declared.stmt.Program.{Program}
use Rattle.fl_ast.specs.Tree.{stmt_trees}
use Rattle.fl_types.specs.declared.choice.Choice.{Choice}
use Rattle.fl_types.specs.Sharing.{assigns_in, ParallelLoop, loops_of_all}
use Rattle.store_core.specs.Scopes.{scopes_in}
use Rattle.reachability.specs.Reached.{IsAmong}
use Rattle.activity.specs.Active.{program_flows, turned}
use Rattle.adjoint_rules.specs.Scopes.{is_reduction}
use Rattle.adjoint_choices.specs.Choosing.{is_scalar_name}
use Rattle.adjoint_sets.specs.Reach.{is_reached_name}
use Rattle.adjoint_sets.specs.Names.{is_active, is_needed}
use Rattle.transposition.specs.Law.{Use}

-- data flows to the name from one of `wrt`
abbrev pub is_varied : Program → (wrt : List (List ℕ)) → List ℕ → Bool
is_varied p wrt x = is_reached_name p.decls wrt (program_flows p) x

-- data flows from the name to one of `of`
abbrev pub is_useful : Program → (of : List (List ℕ)) → List ℕ → Bool
is_useful p of x = is_reached_name p.decls of (map turned (program_flows p)) x

-- a loop's own name: the variable of a loop, or listed as private in one; all others have places
abbrev pub is_own : Program → List ℕ → Bool
is_own p x = scopes_in x (stmt_trees p.body)

-- outside every loop: a loop's own names are out of scope
abbrev pub outer_use : Program → (of wrt : List (List ℕ)) → Use
outer_use p of wrt = record {
  needed = λ x. is_needed p (is_active p of wrt) x && not (is_own p x);
  live = λ x. is_active p of wrt x && not (is_own p x);
  moved = is_varied p wrt;
  held = λ x. None;
}

-- an adjoint that is collected is that of a scalar with a place, which the loop doesn't assign
pub record IsCollectable (p : Program) (l : ParallelLoop) (x : List ℕ) : Type 0 where
  pub scalar : is_scalar_name p.decls x ≡ true
  pub placed : is_own p x ≡ false
  pub kept : assigns_in x l.body ≡ false

abbrev pub AreFitting : Program → (active : List ℕ → Bool) → (ℕ → List ℕ → Choice) → Type 0
AreFitting p active choices =
    (l : ParallelLoop) → IsAmong (loops_of_all [] (stmt_trees p.body)) l → (x : List ℕ) → active x ≡ true
    → is_reduction (choices l.number x) ≡ true → IsCollectable p l x

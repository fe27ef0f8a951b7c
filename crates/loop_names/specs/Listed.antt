-- The classes that clauses list.
use Rattle.std.specs.Prelude.{ℕ, Bool, ◌&&◌, List, filter, map}
use Rattle.fl_ast.specs.declared.directive.Directive.{Directive}
use Rattle.fl_ast.specs.Tree.{Statements}
use Rattle.fl_types.specs.declared.sharing.Sharing.{Sharing}
use Rattle.fl_types.specs.Sharing.{sharing_in, is_private, is_plus}
use Rattle.adjoint_rules.specs.Scopes.{Scope, has_choice, is_reduction}
use Rattle.adjoint_rules.specs.OwnNames.{adjoint_name}
use Rattle.adjoint_rules.specs.Clauses.{is_first}
use Rattle.loop_names.specs.declared.privates.Listed.{Listed}
use Rattle.loop_names.specs.declared.privates.Listed.TheVariants.{Private, First, Plus}

abbrev pub is_listed : Listed → Sharing → Bool
is_listed Private s = is_private s
is_listed First s = is_first s
is_listed Plus s = is_plus s

abbrev pub listed_names : Scope → List ℕ → Directive → Statements → Listed → List (List ℕ)
listed_names scope var directive body listed = filter (λ x. is_listed listed (sharing_in var directive body x)) scope.declared

-- the adjoints whose choice in the loop with a number is Reduction
abbrev pub reductions : Scope → ℕ → List (List ℕ)
reductions scope number = map adjoint_name (filter (λ x. scope.active x && has_choice is_reduction scope.choices number x) scope.declared)

-- The clauses of a parallel loop in an adjoint: what an iteration has of its own is private, and further names are shared by default.
use Rattle.std.specs.Prelude.{ℕ, Bool, true, false, ◌&&◌, if◌then◌else◌, List, [], ◌∷◌, ◌++◌, filter, flat_map, map}
use Rattle.fl_ast.specs.declared.directive.Directive.{Directive}
use Rattle.fl_ast.specs.Tree.{Statement, assignment, branch, loop, Statements, no_statements, statement, Arms, no_arms, arm}
use Rattle.fl_types.specs.declared.sharing.Sharing.{Sharing}
use Rattle.fl_types.specs.declared.sharing.Sharing.TheVariants.{Shared, Private, First, Plus, LoopVar}
use Rattle.fl_types.specs.Nests.{iteration_body}
use Rattle.fl_types.specs.Sharing.{sharing_in, is_private, is_plus, varies_in}
use Rattle.adjoint_rules.specs.OwnNames.{adjoint_name, lo_name, hi_name, by_name, k_name, w_name, t_name}
use Rattle.adjoint_rules.specs.Scopes.{Scope, has_choice, is_reduction}

-- the numbers of the loops in a tree, in textual order
abbrev mutual
  pub loop_numbers : Statement → List ℕ
  loop_numbers (assignment line atomic target value) = []
  loop_numbers (branch line arms other) = loop_numbers_in_arms arms ++ loop_numbers_in other
  loop_numbers (loop line number directive var first last step body) = number ∷ loop_numbers_in body

  pub loop_numbers_in : Statements → List ℕ
  loop_numbers_in no_statements = []
  loop_numbers_in (statement s ss) = loop_numbers s ++ loop_numbers_in ss

  pub loop_numbers_in_arms : Arms → List ℕ
  loop_numbers_in_arms no_arms = []
  loop_numbers_in_arms (arm test body arms) = loop_numbers_in body ++ loop_numbers_in_arms arms

abbrev pub bound_names : ℕ → List (List ℕ)
bound_names n = lo_name n ∷ hi_name n ∷ by_name n ∷ []

-- the adjoint's own scalars
abbrev pub scratch_names : List (List ℕ)
scratch_names = k_name ∷ w_name ∷ t_name ∷ []

-- a name, and its adjoint where it is active
abbrev pub with_adjoint : (List ℕ → Bool) → List ℕ → List (List ℕ)
with_adjoint active x = if active x then x ∷ adjoint_name x ∷ [] else x ∷ []

-- a private scalar with its adjoint, or the variable of a loop in an iteration
abbrev pub private_names : Scope → List ℕ → Directive → Statements → List ℕ → List (List ℕ)
private_names scope var directive body x =
    if is_private (sharing_in var directive body x) then with_adjoint scope.active x
    else if varies_in x (iteration_body directive body) then x ∷ []
    else []

abbrev pub is_first : Sharing → Bool
is_first First = true
is_first Shared = false
is_first Private = false
is_first Plus = false
is_first LoopVar = false

-- all lists are in the order of the declarations
abbrev pub privates_of : Scope → List ℕ → Directive → Statements → List (List ℕ)
privates_of scope var directive body =
    flat_map (private_names scope var directive body) scope.declared
    ++ (flat_map bound_names (loop_numbers_in (iteration_body directive body)) ++ scratch_names)

abbrev pub firsts_of : Scope → List ℕ → Directive → Statements → List (List ℕ)
firsts_of scope var directive body = filter (λ x. is_first (sharing_in var directive body x)) scope.declared

abbrev pub clauses_with : List (List ℕ) → Scope → List ℕ → Directive → Statements → Directive
clauses_with pluses scope var directive body = record {
  line = directive.line;
  privates = privates_of scope var directive body;
  firsts = firsts_of scope var directive body;
  shareds = [];
  pluses = pluses;
  none = false;
  schedule = directive.schedule;
  collapse = directive.collapse;
}

-- forward with the program's reductions
abbrev pub forward_clauses : Scope → List ℕ → Directive → Statements → Directive
forward_clauses scope var directive body =
    clauses_with (filter (λ x. is_plus (sharing_in var directive body x)) scope.declared) scope var directive body

-- backward with the adjoints whose choice in the loop is Reduction
abbrev pub backward_clauses : Scope → ℕ → List ℕ → Directive → Statements → Directive
backward_clauses scope number var directive body =
    clauses_with (map adjoint_name (filter (λ x. scope.active x && has_choice is_reduction scope.choices number x) scope.declared)) scope var directive body

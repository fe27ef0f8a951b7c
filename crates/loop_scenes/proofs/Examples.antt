-- The right sides and scenes of small loops compute.
use Rattle.std.proofs.Common.{◌≡◌, ℕ, Bool, true, false, pos, negsuc, List, [], ◌∷◌, Option, Some, None, refl}
use Rattle.std.specs.Prelude.{codes}
use Rattle.fl_ast.specs.declared.kind.Kind.TheVariants as kind
use Rattle.fl_ast.specs.declared.kind.BinOp.TheVariants.{Add, Mul}
use Rattle.fl_ast.specs.declared.kind.RelOp.TheVariants.{Gt}
use Rattle.fl_ast.specs.Tree.{Expression, literal, get, minus, binary, no_expressions, expression, Designator, relation, Statement, assignment, branch, loop, Statements, no_statements, statement, no_arms, arm}
use Rattle.fl_types.specs.Sharing.{has_name}
use Rattle.fl_types.specs.Accesses.{Scope}
use Rattle.loop_scenes.specs.Rights.{rights_in}
use Rattle.loop_scenes.specs.Turns.{last_turn_of}

abbrev i : List ℕ
i = codes "i"

abbrev c : List ℕ
c = codes "c"

abbrev x : List ℕ
x = codes "x"

abbrev y : List ℕ
y = codes "y"

-- all names but i make accesses, and x and y are data
abbrev scope : Scope
scope = record { accessed = λ v. has_name v (c ∷ x ∷ y ∷ []); pluses = λ v. false; ring = λ v. has_name v (x ∷ y ∷ []) }

abbrev at : List ℕ → Expression → Expression
at v e = get v (expression e no_expressions)

abbrev named : List ℕ → Expression
named v = get v no_expressions

abbrev into : List ℕ → Expression → Designator
into v e = record { name = v; subscripts = expression e no_expressions }

abbrev only : Statement → Statements
only s = statement s no_statements

abbrev rights : List (List ℕ) → Statements → List Bool
rights active ss = rights_in scope (λ v. has_name v active) ss

-- y(c(i)) = x(c(i)): c and x are read on the right, c again and y written are not on it
scatter : rights (x ∷ y ∷ []) (only (assignment 1 false (into y (at c (named i))) (at x (at c (named i))))) ≡ true ∷ true ∷ false ∷ false ∷ []
scatter = refl

-- the same into a name that isn't active
inactive : rights (x ∷ []) (only (assignment 1 false (into y (named i)) (at x (named i)))) ≡ false ∷ false ∷ []
inactive = refl

-- y(i) = y(i) + x(i): the target's own occurrence is no access
increment : rights (x ∷ y ∷ []) (only (assignment 1 false (into y (named i)) (binary Add (at y (named i)) (at x (named i))))) ≡ true ∷ false ∷ []
increment = refl

-- if (x(i) > 0) y(i) = x(i): a condition is on no right side
tested : rights (x ∷ y ∷ []) (only (branch 1 (arm (relation Gt (at x (named i)) (literal 0 kind.Index)) (only (assignment 1 false (into y (named i)) (at x (named i)))) no_arms) no_statements)) ≡ false ∷ true ∷ false ∷ []
tested = refl

-- do i = -1, 6, 3: three turns
three_turns : last_turn_of (Some (record { line = 1; var = i; first = minus (literal 1 kind.Index); last = literal 6 kind.Index; step = Some (literal 3 kind.Index) })) ≡ Some 2
three_turns = refl

no_turn : last_turn_of (Some (record { line = 1; var = i; first = literal 2 kind.Index; last = literal 1 kind.Index; step = None })) ≡ None
no_turn = refl

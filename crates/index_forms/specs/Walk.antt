-- The forms of a loop's accesses: a walk over the statements in textual order, with what is known of scalars.
use Rattle.std.specs.Prelude.{ℕ, suc, ◌+◌, Bool, if◌then◌else◌, bytes_eq, List, [], ◌∷◌, ◌++◌, length, Option, Some, None}
use Rattle.fl_ast.specs.declared.decl.Decl.{Decl}
use Rattle.fl_ast.specs.Tree.{Expression, Expressions, no_expressions, expression, Designator, Statement, assignment, branch, loop, Statements, no_statements, statement, Arms, no_arms, arm}
use Rattle.fl_types.specs.Sharing.{has_name}
use Rattle.fl_types.specs.Increment.{increment_terms}
use Rattle.fl_types.specs.Accesses.{Scope, Occurrence, reads, step_reads, condition_reads, assignment_accesses, statement_count, statements_count}
use Rattle.index_forms.specs.declared.form.Side.{Side}
use Rattle.index_forms.specs.Form.{Form, Forms, inner, version}
use Rattle.index_forms.specs.Formed.{Known, Viewed, atom_form, subscript_forms}
use Rattle.index_forms.specs.Loops.{HeadedLoop, inside, known_at_start, forms_scope, is_fixed, written_in, written_in_arms}

-- what a walk goes by: the side, which names make accesses, and which index arrays the loop doesn't assign
pub record Setting : Type 0 where
  pub side : Side
  pub scope : Scope
  pub fixed : List ℕ → Bool

abbrev pub setting_of : List Decl → HeadedLoop → Side → Setting
setting_of decls l side = record { side = side; scope = forms_scope decls l; fixed = is_fixed decls l }

-- ---- what is known

abbrev pub without : List (List ℕ) → Known → Known
without names k = λ x. if has_name x names then None else k x

-- an array has no form of its own
abbrev pub version_form : Side → ℕ → List ℕ → Expressions → Option Form
version_form side n x no_expressions = Some (atom_form (version side n x))
version_form side n x (expression e es) = None

-- what an assignment with number n says of its target
abbrev pub assigned_at : Side → ℕ → Designator → Known → Known
assigned_at side n p k = λ x. if bytes_eq x p.name then version_form side n x p.subscripts else k x

-- in a turn of the sequential loop with this number and variable
abbrev pub in_turn_of : Side → ℕ → List ℕ → Known → Known
in_turn_of side number var k = λ x. if bytes_eq x var then Some (atom_form (inner side number)) else k x

-- behind the statement with number n: a scalar that it assigns is known by it; what an `if` or a loop may have written isn't known
abbrev pub known_after : Side → ℕ → Statement → Known → Known
known_after side n (assignment line atomic p e) k = assigned_at side n p k
known_after side n (branch line arms other) k = without (written_in_arms arms ++ written_in other) k
known_after side n (loop line number directive var first last step body) k = without (var ∷ written_in body) k

-- at the start of a sequential loop's turns: what its body writes isn't known
abbrev pub known_inside : Side → ℕ → List ℕ → Statements → Known → Known
known_inside side number var body k = without (written_in body) (in_turn_of side number var k)

-- ---- the walk: each part adds the forms of its accesses to those so far, so that the next access has the next number. Lines and paths play no part in forms

abbrev pub viewed : Setting → Known → ℕ → Viewed
viewed c k a = record { side = c.side; access = a; known = k; fixed = c.fixed }

-- accesses that are evaluated together
abbrev pub with_group : Setting → Known → List Occurrence → List Forms → List Forms
with_group c k [] fs = fs
with_group c k (o ∷ os) fs = with_group c k os (fs ++ subscript_forms (viewed c k (suc (length fs))) o.place.subscripts ∷ [])

-- of a loop's bounds and step
abbrev pub bounds_reads : Scope → Expression → Expression → Option Expression → List Occurrence
bounds_reads scope low high step = reads scope 0 [] low ++ (reads scope 0 [] high ++ step_reads scope 0 [] step)

-- what follows an `if`'s arms: the number of the next statement, what is known, and the forms so far
abbrev pub Rest : Type 0
Rest = ℕ → Known → List Forms → List Forms

-- n numbers the statements
abbrev mutual
  pub with_statement : Setting → ℕ → Known → Statement → List Forms → List Forms
  with_statement c n k (assignment line atomic p e) fs = with_group c k (assignment_accesses c.scope 0 [] atomic p e (increment_terms c.scope.ring p e)) fs
  with_statement c n k (branch line arms other) fs = with_arms c (n + 1) k arms (λ j h. with_statements c j h other) fs
  with_statement c n k (loop line number directive var low high step body) fs =
      with_statements c (n + 1) (known_inside c.side number var body k) body (with_group c k (bounds_reads c.scope low high step) fs)

  pub with_statements : Setting → ℕ → Known → Statements → List Forms → List Forms
  with_statements c n k no_statements fs = fs
  with_statements c n k (statement s ss) fs = with_statements c (n + statement_count s) (known_after c.side n s k) ss (with_statement c n k s fs)

  -- what earlier arms may have written isn't known in later ones, nor in their conditions
  pub with_arms : Setting → ℕ → Known → Arms → Rest → List Forms → List Forms
  with_arms c j k no_arms other fs = other j k fs
  with_arms c j k (arm test body arms) other fs =
      with_arms c (j + statements_count body) (without (written_in body) k) arms other
      (with_statements c j k body (with_group c k (condition_reads c.scope 0 [] test) fs))

-- the forms of all accesses of a parallel loop on a side, in the order of the accesses
abbrev pub loop_forms : List Decl → HeadedLoop → Side → List Forms
loop_forms decls l side = with_statements (setting_of decls l side) 1 (known_at_start side l) (inside l) []

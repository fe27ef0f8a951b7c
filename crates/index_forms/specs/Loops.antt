-- Parallel loops with their heads, and what is known of scalars at the start of an iteration.
use Rattle.std.specs.Prelude.{ℕ, Bool, true, false, not, ◌&&◌, ◌||◌, if◌then◌else◌, nat_lt, nat_eq, bytes_eq, ℤ, pos, neg_ℤ, List, [], ◌∷◌, ◌++◌, find, option_map, Option, Some, None}
use Rattle.fl_ast.specs.declared.kind.Kind.TheVariants as kind
use Rattle.fl_ast.specs.declared.decl.Decl.{Decl}
use Rattle.fl_ast.specs.Tree.{Expression, literal, minus, Statement, assignment, branch, loop, Statements, no_statements, statement, Arms, no_arms, arm}
use Rattle.fl_types.specs.Nests.{Head, further_head, iteration_body}
use Rattle.fl_types.specs.Sharing.{has_name, is_ring_name, makes_accesses, ParallelLoop}
use Rattle.fl_types.specs.Accesses.{Scope}
use Rattle.index_forms.specs.declared.form.Side.{Side}
use Rattle.index_forms.specs.Form.{Atom, Form, form, no_terms, start, iter, inv, start2, iter2}
use Rattle.index_forms.specs.Sums.{plus_scaled}
use Rattle.index_forms.specs.Formed.{Known, atom_form}

-- ---- names that a tree writes: the variables of its loops and, where asked for, the targets of its assignments, in textual order
abbrev mutual
  pub names_by : (targets : Bool) → Statement → List (List ℕ)
  names_by targets (assignment line atomic p e) = if targets then p.name ∷ [] else []
  names_by targets (branch line arms other) = names_in_arms targets arms ++ names_in targets other
  names_by targets (loop line number directive var first last step body) = var ∷ names_in targets body

  pub names_in : (targets : Bool) → Statements → List (List ℕ)
  names_in targets no_statements = []
  names_in targets (statement s ss) = names_by targets s ++ names_in targets ss

  pub names_in_arms : (targets : Bool) → Arms → List (List ℕ)
  names_in_arms targets no_arms = []
  names_in_arms targets (arm test body arms) = names_in targets body ++ names_in_arms targets arms

abbrev pub written_by : Statement → List (List ℕ)
written_by s = names_by true s

abbrev pub written_in : Statements → List (List ℕ)
written_in ss = names_in true ss

abbrev pub written_in_arms : Arms → List (List ℕ)
written_in_arms arms = names_in_arms true arms

-- ---- parallel loops

-- with its head; `loop` has the variables around it, its directive and its body
pub record HeadedLoop : Type 0 where
  pub head : Head
  pub loop : ParallelLoop

-- the parallel loops of a tree, in textual order
abbrev mutual
  pub headed_loops : List (List ℕ) → Statement → List HeadedLoop
  headed_loops outer (assignment line atomic target value) = []
  headed_loops outer (branch line arms other) = headed_loops_of_arms outer arms ++ headed_loops_of_all outer other
  headed_loops outer (loop line number None var first last step body) = headed_loops_of_all (var ∷ outer) body
  headed_loops outer (loop line number (Some directive) var first last step body) =
      record {
        head = record { line = line; var = var; first = first; last = last; step = step };
        loop = record { line = line; number = number; outer = outer; directive = directive; var = var; body = body };
      }
      ∷ headed_loops_of_all (var ∷ outer) body

  pub headed_loops_of_all : List (List ℕ) → Statements → List HeadedLoop
  headed_loops_of_all outer no_statements = []
  headed_loops_of_all outer (statement s ss) = headed_loops outer s ++ headed_loops_of_all outer ss

  pub headed_loops_of_arms : List (List ℕ) → Arms → List HeadedLoop
  headed_loops_of_arms outer no_arms = []
  headed_loops_of_arms outer (arm test body arms) = headed_loops_of_all outer body ++ headed_loops_of_arms outer arms

-- the parallel loop with a number
abbrev pub headed_loop : Statements → ℕ → Option HeadedLoop
headed_loop body number = find (λ (l : HeadedLoop). nat_eq l.loop.number number) (headed_loops_of_all [] body)

-- the statements of an iteration, and the head of the loop that is collapsed with it
abbrev pub inside : HeadedLoop → Statements
inside l = iteration_body l.loop.directive l.loop.body

abbrev pub further : HeadedLoop → Option Head
further l = further_head l.loop.directive l.loop.body

-- ---- the forms of the loops' variables

abbrev pub literal_number : Expression → Option ℤ
literal_number (literal n kind.Index) = if nat_lt n 2147483648 then Some (pos n) else None
literal_number e = None

-- with or without sign
abbrev pub signed_number : Expression → Option ℤ
signed_number (minus e) = option_map neg_ℤ (literal_number e)
signed_number e = literal_number e

abbrev pub step_number : Option Expression → Option ℤ
step_number None = Some (pos 1)
step_number (Some e) = literal_number e

-- from its first value, an atom where that isn't a literal
abbrev pub base_form : Atom → Option ℤ → Form
base_form a None = atom_form a
base_form a (Some z) = form z no_terms

-- first + step*iteration where the step is a literal or absent, else the variable itself
abbrev pub variable_by : (base counter : Atom) → (first step : Option ℤ) → Form
variable_by base counter first None = atom_form counter
variable_by base counter first (Some c) = plus_scaled c (atom_form counter) (base_form base first)

abbrev pub variable_form : (base counter : Atom) → Head → Form
variable_form base counter h = variable_by base counter (signed_number h.first) (step_number h.step)

-- ---- what is known at the start of an iteration

abbrev pub known_of_further : Side → List ℕ → Option Head → Option Form
known_of_further side x None = Some (atom_form (inv x))
known_of_further side x (Some h) = if bytes_eq x h.var then Some (variable_form start2 (iter2 side) h) else Some (atom_form (inv x))

-- what the iterations write isn't known; other scalars hold what they held before the loop
abbrev pub known_at_start : Side → HeadedLoop → Known
known_at_start side l = λ x.
    if has_name x (written_in (inside l)) then None
    else if bytes_eq x l.head.var then Some (variable_form start (iter side) l.head)
    else known_of_further side x (further l)

-- which of the names make accesses; which are reductions plays no part in forms
abbrev pub forms_scope : List Decl → HeadedLoop → Scope
forms_scope decls l = record { accessed = makes_accesses l.loop.outer l.loop.var l.loop.directive l.loop.body; pluses = λ x. false; ring = is_ring_name decls }

-- a name whose elements are the same throughout the loop: of the index kind, and not written
abbrev pub is_fixed : List Decl → HeadedLoop → List ℕ → Bool
is_fixed decls l x = makes_accesses l.loop.outer l.loop.var l.loop.directive l.loop.body x && not (has_name x (written_in (inside l)) || is_ring_name decls x)

-- How many atomic additions to adjoints the reverse part of statements makes, by what its trees of operations play.
use Rattle.std.specs.Prelude.{◌≡◌, ℕ, zero, suc, ◌+◌, ◌-◌, Bool, true, false, not, ◌&&◌, cond, nat_lt, if◌then◌else◌, List, [], ◌∷◌, Option, Some, None}
use Rattle.fl_ast.specs.declared.directive.Directive.{Directive}
use Rattle.fl_ast.specs.Tree.{Statement, assignment, branch, loop, Statements, no_statements, statement, Arms, no_arms, arm}
use Rattle.fl_types.specs.Nests.{is_nest}
use Rattle.fl_types.specs.declared.choice.Choice.{Choice}
use Rattle.fl_types.specs.declared.choice.Choice.TheVariants.{Shared, Atomic, Reduction}
use Rattle.operations.specs.declared.op.Op.{Op}
use Rattle.operations.specs.declared.op.Op.TheVariants.{Load, Store, Bump, Add}
use Rattle.operations.specs.Order.{rounds}
use Rattle.operations.specs.Tree.{Tree, play}
use Rattle.meaning.specs.Statements.{iterations}
use Rattle.transposition.specs.Tapes.{top}
use Rattle.transposition.specs.Worlds.{World, Local, in_iteration, in_turn, name_at}
use Rattle.transposition.specs.Back.{after_pop, turns_on, with_variable_word, below_bounds, one_turn_back, loop_heads, loop_iterations, back, back_all, back_inner}

-- ---- atomic additions among operations

abbrev pub is_atomic : Choice → Bool
is_atomic Shared = false
is_atomic Atomic = true
is_atomic Reduction = false

-- the cells of adjoints that are incremented atomically
abbrev pub is_atomic_cell : World → ℕ → Bool
is_atomic_cell w q = not (nat_lt q w.shared) && is_atomic (w.choice (name_at w.site.keys (q - w.shared)))

-- the additions in one step to these cells
abbrev pub adds_on : (ℕ → Bool) → List Op → ℕ
adds_on cells [] = 0
adds_on cells (Load p ∷ os) = adds_on cells os
adds_on cells (Store p x ∷ os) = adds_on cells os
adds_on cells (Bump p a ∷ os) = adds_on cells os
adds_on cells (Add p a ∷ os) = cond (cells p) 1 0 + adds_on cells os

-- ---- of statements

-- of the iterations below n
abbrev pub round_adds : {A : Type 0} → (ℕ → Bool) → (ℕ → Tree A) → ℕ → List ℕ → ℕ
round_adds cells t zero c = 0
round_adds cells t (suc n) c = round_adds cells t n c + adds_on cells (play (t n) (play (rounds t n) c).cells).ops

-- of the turns below n, the last one first
abbrev pub turn_adds : (ℕ → Local → Tree Local) → (ℕ → Local → List ℕ → ℕ) → ℕ → Local → List ℕ → ℕ
turn_adds f adds zero l c = 0
turn_adds f adds (suc n) l c = adds n l c + turn_adds f adds n (play (f n l) c).out (play (f n l) c).cells

abbrev pub loop_adds : World → List ℕ → (World → Local → Tree Local) → (World → Local → List ℕ → ℕ) → Local → List ℕ → ℕ
loop_adds w var body adds l c =
    let t = turns_on l.tape in
    turn_adds (one_turn_back w var t body) (λ k m. adds (in_turn w var) (with_variable_word w var t k m)) t.count (record l { tape = below_bounds (var ∷ []) l.tape }) c

-- a parallel loop's, by the choices for it
abbrev pub parallel_adds : World → ℕ → Directive → List ℕ → Statements → (World → Local → Tree Local) → Local → List ℕ → ℕ
parallel_adds w number directive var tree body l c =
    round_adds (is_atomic_cell (in_iteration w number directive var tree)) (loop_iterations w number directive var tree body l) (iterations (loop_heads directive var tree l)) c

-- from these words of the iteration's own and these cells
abbrev mutual
  pub adds_of : Statement → World → Local → List ℕ → ℕ
  adds_of (assignment line atomic p e) w l c = 0
  adds_of (branch line arms other) w l c = arm_adds arms (adds_of_all other) (top l.tape) w (after_pop l) c
  adds_of (loop line number None var first last step body) w l c = loop_adds w var (back_all body) (adds_of_all body) l c
  adds_of (loop line number (Some directive) var first last step body) w l c =
      parallel_adds w number directive var body (if is_nest directive body then back_inner body else back_all body) l c

  -- the last statement first
  pub adds_of_all : Statements → World → Local → List ℕ → ℕ
  adds_of_all no_statements w l c = 0
  adds_of_all (statement s ss) w l c = adds_of_all ss w l c + adds_of s w (play (back_all ss w l) c).out (play (back_all ss w l) c).cells

  -- the arm with a number
  pub arm_adds : Arms → (World → Local → List ℕ → ℕ) → ℕ → World → Local → List ℕ → ℕ
  arm_adds no_arms other m w l c = other w l c
  arm_adds (arm test body arms) other zero w l c = adds_of_all body w l c
  arm_adds (arm test body arms) other (suc m) w l c = arm_adds arms other m w l c

-- ---- parallel loops that are in no other

abbrev mutual
  pub is_flat : Bool → Statement → Bool
  is_flat inside (assignment line atomic target value) = true
  is_flat inside (branch line arms other) = are_arms_flat inside arms && are_flat inside other
  is_flat inside (loop line number None var first last by body) = are_flat inside body
  is_flat inside (loop line number (Some directive) var first last by body) = not inside && are_flat true body

  pub are_flat : Bool → Statements → Bool
  are_flat inside no_statements = true
  are_flat inside (statement s ss) = is_flat inside s && are_flat inside ss

  pub are_arms_flat : Bool → Arms → Bool
  are_arms_flat inside no_arms = true
  are_arms_flat inside (arm test body arms) = are_flat inside body && are_arms_flat inside arms

abbrev pub AreOneDeep : Statements → Type 0
AreOneDeep xs = are_flat false xs ≡ true

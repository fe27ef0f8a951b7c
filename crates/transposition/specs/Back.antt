-- The reverse part of statements, as trees of operations.
use Rattle.std.specs.Prelude.{ℕ, zero, suc, ◌+◌, ◌/◌, ◌%◌, Bool, false, ◌&&◌, ◌||◌, cond, nat_lt, if◌then◌else◌, List, [], ◌∷◌, ◌++◌, Option, Some, None, ◌+ℤ◌, ◌-ℤ◌, int_div}
use Rattle.std.specs.Int.{w64, cast_unsigned}
use Rattle.ring_core.specs.Ring.{ring_add, ring_sub}
use Rattle.fl_ast.specs.declared.directive.Directive.{Directive}
use Rattle.fl_ast.specs.Tree.{Expression, Designator, Statement, assignment, branch, loop, Statements, no_statements, statement, Arms, no_arms, arm}
use Rattle.fl_types.specs.Increment.{Signed, increment_terms}
use Rattle.fl_types.specs.Nests.{Head, is_nest, further_head}
use Rattle.fl_types.specs.Sharing.{assigns_in}
use Rattle.store_core.specs.Bounds.{clipped}
use Rattle.operations.specs.declared.op.Op.TheVariants.{Add}
use Rattle.operations.specs.Tree.{Tree, done, does, ◌giving◌}
use Rattle.operations.specs.Order.{rounds}
use Rattle.operations.specs.Collect.{collect}
use Rattle.meaning.specs.declared.value.IterationCount.{IterationCount}
use Rattle.meaning.specs.Values.{as_dual}
use Rattle.meaning.specs.Sites.{place_of}
use Rattle.meaning.specs.Statements.{private_names, value_at, Heads, iterations}
use Rattle.transposition.specs.Tapes.{Tape, Tapes, top, rest, top_tapes, tape_at}
use Rattle.transposition.specs.Worlds.{World, Local, is_reduction, at_place, adjoint_load, value_store, adjoint_store, value_increment, with_own_value, with_own_adjoint, in_turn, in_iteration}
use Rattle.transposition.specs.Reads.{number_in, value_tree, place_tree}
use Rattle.transposition.specs.Spread.{Occurrence, occurrences, increments}

abbrev pub after_pop : Local → Local
after_pop l = record l { tape = rest l.tape }

-- ---- assignments

-- `formad_t = x_b`
abbrev pub adjoint_tree : World → Designator → Local → Tree ℕ
adjoint_tree w p l = place_tree p w l giving at_place (done 0) (adjoint_load w l)

-- `formad_t = x_b`, `x_b = 0_8`
abbrev pub adjoint_move : World → Designator → Local → (ℕ → Local → Tree Local) → Tree Local
adjoint_move w p l k = adjoint_tree w p l giving (λ t. place_tree p w l giving (λ o. at_place (done l) (λ q. adjoint_store w q 0 l) o giving k t))

-- the old value, where it was pushed
abbrev pub value_restoration : World → Designator → Local → Tree Local
value_restoration w p l = cond (w.site.pushed p.name) (place_tree p w l giving at_place (done (after_pop l)) (λ q. value_store w q (top l.tape) (after_pop l))) (done l)

abbrev pub plain_back : World → Designator → Expression → Local → Tree Local
plain_back w p e l =
    cond (w.active p.name) (adjoint_move w p l (λ t m. value_restoration w p m giving increments w t (occurrences w.active e false []))) (value_restoration w p l)

-- the rest terms with their signs turned, added up
abbrev pub rest_tree : World → List Signed → ℕ → Local → Tree ℕ
rest_tree w [] a l = done a
rest_tree w (r ∷ rs) a l = value_tree r.1 w l giving (λ v. rest_tree w rs (cond r.0 (ring_add a (as_dual v).value) (ring_sub a (as_dual v).value)) l)

-- an increment undone, where its target's value is needed
abbrev pub increment_reversal : World → Bool → Designator → List Signed → Local → Tree Local
increment_reversal w atomic p rs l =
    cond (w.site.pushed p.name) (rest_tree w rs 0 l giving (λ a. place_tree p w l giving at_place (done l) (λ q. value_increment w (atomic || w.site.pluses p.name) q a l))) (done l)

abbrev pub rest_occurrences : (List ℕ → Bool) → List Signed → List Occurrence
rest_occurrences on [] = []
rest_occurrences on (r ∷ rs) = occurrences on r.1 r.0 [] ++ rest_occurrences on rs

abbrev pub increment_back : World → Bool → Designator → List Signed → Local → Tree Local
increment_back w atomic p rs l =
    increment_reversal w atomic p rs l giving (λ m. cond (w.active p.name) (adjoint_tree w p m giving (λ t. increments w t (rest_occurrences w.active rs) m)) (done m))

abbrev pub assignment_back : World → Bool → Designator → Expression → Option (List Signed) → Local → Tree Local
assignment_back w atomic p e None l = plain_back w p e l
assignment_back w atomic p e (Some rs) l = increment_back w atomic p rs l

-- ---- loops

-- the bounds of a loop, from the three words on top, the step's first
abbrev pub turns_on : Tape → IterationCount
turns_on t =
    let first = number_in (top (rest (rest t))) in
    let last = number_in (top (rest t)) in
    let step = number_in (top t) in
    record { first = first; last = last; step = step; count = clipped (int_div ((last -ℤ first) +ℤ step) step) }

-- the tape below the words of these loops' bounds
abbrev pub below_bounds : List (List ℕ) → Tape → Tape
below_bounds [] t = t
below_bounds (x ∷ xs) t = rest (rest (rest (below_bounds xs t)))

-- the loops with these variables, the last one's bounds on top
abbrev pub heads_on : List (List ℕ) → Tape → Heads
heads_on [] t = []
heads_on (x ∷ xs) t = (x, turns_on (below_bounds xs t)) ∷ heads_on xs t

abbrev pub variables_of : Option Head → List (List ℕ)
variables_of None = []
variables_of (Some h) = h.var ∷ []

-- the variables of the loops whose iterations those of a parallel loop are
abbrev pub loop_variables : Directive → List ℕ → Statements → List (List ℕ)
loop_variables directive var tree = var ∷ variables_of (further_head directive tree)

-- a loop's variable in a turn
abbrev pub with_variable_word : World → List ℕ → IterationCount → ℕ → Local → Local
with_variable_word w var t k l = with_own_value w (place_of w.site var []) (cast_unsigned w64 (value_at t k)) l

-- the loops' variables in iteration k
abbrev pub with_variable_words : World → Heads → ℕ → Local → Local
with_variable_words w [] k l = l
with_variable_words w (h ∷ []) k l = with_variable_word w h.0 h.1 k l
with_variable_words w (h ∷ g ∷ hs) k l =
    with_variable_words w (g ∷ hs) (k % iterations (g ∷ hs)) (with_variable_word w h.0 h.1 (k / iterations (g ∷ hs)) l)

-- the last turn first
abbrev pub turns_back : ℕ → (ℕ → Local → Tree Local) → Local → Tree Local
turns_back zero f l = done l
turns_back (suc n) f l = f n l giving turns_back n f

abbrev pub one_turn_back : World → List ℕ → IterationCount → (World → Local → Tree Local) → ℕ → Local → Tree Local
one_turn_back w var t body k l = body (in_turn w var) (with_variable_word w var t k l)

abbrev pub loop_back : World → List ℕ → (World → Local → Tree Local) → Local → Tree Local
loop_back w var body l =
    let t = turns_on l.tape in
    turns_back t.count (one_turn_back w var t body) (record l { tape = below_bounds (var ∷ []) l.tape })

-- ---- parallel loops

-- the private scalars that were pushed, the last first
abbrev pub after_private_pops : World → Statements → List (List ℕ) → Local → Local
after_private_pops w body [] l = l
after_private_pops w body (x ∷ xs) l =
    let m = after_private_pops w body xs l in
    cond (assigns_in x body && w.site.pushed x) (with_own_value w (place_of w.site x []) (top m.tape) (after_pop m)) m

abbrev pub with_clear_privates : World → List (List ℕ) → Local → Local
with_clear_privates w [] l = l
with_clear_privates w (x ∷ xs) l = with_clear_privates w xs (with_own_adjoint w (place_of w.site x []) 0 l)

-- the additions to a Reduction's adjoint, made once at the end
abbrev pub with_collection : ℕ → Tree Local → Tree Local
with_collection q t = collect q t 0 giving (λ r. does (Add q r.1) (done r.0))

-- those at a place that has a cell
abbrev pub with_collection_at : World → Option ℕ → Tree Local → Tree Local
with_collection_at w o t = at_place t (λ q. cond (nat_lt q w.shared) (with_collection (w.shared + q) t) t) o

abbrev pub with_collections : World → List (List ℕ) → Tree Local → Tree Local
with_collections w [] t = t
with_collections w (x ∷ xs) t =
    with_collections w xs (cond (w.active x && is_reduction (w.choice x)) (with_collection_at w (place_of w.site x []) t) t)

-- an iteration, from what the loop's entry has, with its tape
abbrev pub iteration_local : World → Directive → List ℕ → Statements → Heads → Tapes → Local → ℕ → Local
iteration_local w directive var tree heads ts l k =
    let names = private_names w.site directive var tree in
    with_clear_privates w names (after_private_pops w tree names (with_variable_words w heads k (record l { tape = tape_at ts k })))

abbrev pub iteration_tree : World → ℕ → Directive → List ℕ → Statements → Heads → Tapes → (World → Local → Tree Local) → Local → ℕ → Tree Local
iteration_tree w number directive var tree heads ts body l k =
    let v = in_iteration w number directive var tree in
    with_collections v w.site.declared (body v (iteration_local w directive var tree heads ts l k))

-- the loops' bounds, and what is below their words
abbrev pub loop_heads : Directive → List ℕ → Statements → Local → Heads
loop_heads directive var tree l = heads_on (loop_variables directive var tree) l.tape

abbrev pub below_heads : Directive → List ℕ → Statements → Local → Local
below_heads directive var tree l = record l { tape = below_bounds (loop_variables directive var tree) l.tape }

-- the iterations of a loop whose words are on top of the tape
abbrev pub loop_iterations : World → ℕ → Directive → List ℕ → Statements → (World → Local → Tree Local) → Local → ℕ → Tree Local
loop_iterations w number directive var tree body l =
    let m = below_heads directive var tree l in
    iteration_tree w number directive var tree (loop_heads directive var tree l) (top_tapes m.tape) body m

-- the iterations in ascending order, each from its own tape
abbrev pub parallel_back : World → ℕ → Directive → List ℕ → Statements → (World → Local → Tree Local) → Local → Tree Local
parallel_back w number directive var tree body l =
    rounds (loop_iterations w number directive var tree body l) (iterations (loop_heads directive var tree l)) giving (λ _. done (after_pop (below_heads directive var tree l)))

-- ---- statements

abbrev mutual
  pub back : Statement → World → Local → Tree Local
  back (assignment line atomic p e) w l = assignment_back w atomic p e (increment_terms w.site.ring p e) l
  back (branch line arms other) w l = back_arms arms (back_all other) (top l.tape) w (after_pop l)
  back (loop line number None var first last step body) w l = loop_back w var (back_all body) l
  back (loop line number (Some directive) var first last step body) w l =
      parallel_back w number directive var body (if is_nest directive body then back_inner body else back_all body) l

  -- the last statement first
  pub back_all : Statements → World → Local → Tree Local
  back_all no_statements w l = done l
  back_all (statement s ss) w l = back_all ss w l giving back s w

  -- the statements of the loop in a body
  pub back_inner : Statements → World → Local → Tree Local
  back_inner no_statements w l = done l
  back_inner (statement s ss) w l = back_within s w l

  pub back_within : Statement → World → Local → Tree Local
  back_within (assignment line atomic p e) w l = done l
  back_within (branch line arms other) w l = done l
  back_within (loop line number directive var first last step body) w l = back_all body w l

  -- the arm with a number
  pub back_arms : Arms → (World → Local → Tree Local) → ℕ → World → Local → Tree Local
  back_arms no_arms other m w l = other w l
  back_arms (arm test body arms) other zero w l = back_all body w l
  back_arms (arm test body arms) other (suc m) w l = back_arms arms other m w l

-- What statements do, in order, on one thread: the cells after them, and the log.
use Rattle.std.specs.Prelude.{ℕ, zero, suc, ◌+◌, ◌*◌, ◌/◌, ◌%◌, Bool, true, false, ◌&&◌, if◌then◌else◌, List, [], ◌∷◌, filter, Option, Some, None, Ok, Err, ℤ, pos, ◌+ℤ◌, ◌-ℤ◌, ◌*ℤ◌, slice_set, int_div}
use Rattle.std.specs.Ordering.{int_eq}
use Rattle.fl_ast.specs.declared.directive.Directive.{Directive}
use Rattle.fl_ast.specs.Tree.{Expression, Designator, Statement, assignment, branch, loop, Statements, no_statements, statement, Arms, no_arms, arm}
use Rattle.fl_types.specs.declared.access.AccessKind.{AccessKind}
use Rattle.fl_types.specs.declared.access.AccessKind.TheVariants.{Write}
use Rattle.fl_types.specs.Increment.{Signed, increment_terms}
use Rattle.fl_types.specs.Nests.{Head, is_nest, further_head}
use Rattle.fl_types.specs.Sharing.{assigns_in, sharing_in, is_private}
use Rattle.fl_types.specs.Accesses.{increment_kind}
use Rattle.store_core.specs.Bounds.{clipped}
use Rattle.meaning.specs.declared.value.Dual.{Dual}
use Rattle.meaning.specs.declared.value.Value.{Value}
use Rattle.meaning.specs.declared.value.Value.TheVariants.{Index, Ring}
use Rattle.meaning.specs.declared.value.Cause.{Cause}
use Rattle.meaning.specs.declared.value.Cause.TheVariants.{ZeroDivisor, Bounds, Unset}
use Rattle.meaning.specs.declared.value.TrapAt.{TrapAt}
use Rattle.meaning.specs.declared.value.IterationCount.{IterationCount}
use Rattle.meaning.specs.Values.{dual_add, dual_sub, as_dual, as_kind, whole_number, whole_numbers}
use Rattle.meaning.specs.Logs.{Log, silence, single, sets, both, pushes, ends, instance, right_side, rounds, turn, iteration, condition, taken, Traced, pure, lift, after, ◌>>=◌, inside, at_line}
use Rattle.meaning.specs.Sites.{Cells, with_tangent, Site, in_turn, in_iteration, place_of, kind_of}
use Rattle.meaning.specs.Expressions.{after_touch, content, value_of, values_of, holds}

-- what runs: from where it stands and the cells before, to the cells after
abbrev pub Run : Type 0
Run = Cells → Traced TrapAt Cells

-- the cells as they are, with a log
abbrev pub with_log : Log → Run
with_log l cells = record { log = l; out = Ok cells }

-- ---- assignments

-- a store is told without tangents
abbrev pub set_log : ℕ → Option Value → Log
set_log p v = sets p (with_tangent 0 v)

abbrev pub store_at : Cells → ℕ → Value → Traced Cause Cells
store_at cells p v = record { log = set_log p (Some v); out = Ok (slice_set cells p (Some v)) }

-- with the push of the old value first, where the name's old values are pushed
abbrev pub after_push : {X A : Type 0} → Site → List ℕ → Option Value → Traced X A → Traced X A
after_push site x old t = if site.pushed x then after (single (pushes (with_tangent 0 old))) t else t

abbrev pub put : Site → Cells → List ℕ → Value → Option ℕ → Traced Cause Cells
put site cells x v None = lift (Err (Bounds x))
put site cells x v (Some p) = after_touch site x p Write (after_push site x (content cells p) (store_at cells p (as_kind (kind_of site x) v)))

-- the value, the subscripts, the check of bounds, the touch, the old value's word, and the store
abbrev pub plain_assignment : Site → Cells → Designator → Expression → Traced Cause Cells
plain_assignment site cells p e =
    inside (right_side p.name) (value_of e site cells) >>=
    (λ v. values_of p.subscripts site cells >>=
    (λ subscripts. put site cells p.name v (place_of site p.name (whole_numbers subscripts))))

abbrev pub terms_of : List Signed → Site → Cells → Traced Cause (List (Bool × Dual))
terms_of [] site cells = pure []
terms_of (r ∷ rs) site cells = value_of r.1 site cells >>= (λ v. terms_of rs site cells >>= (λ ds. pure ((r.0, as_dual v) ∷ ds)))

abbrev pub incremented_dual : List (Bool × Dual) → Dual → Dual
incremented_dual [] d = d
incremented_dual (r ∷ rs) d = incremented_dual rs (if r.0 then dual_sub d r.1 else dual_add d r.1)

abbrev pub increment_cell : Site → Cells → List ℕ → AccessKind → List (Bool × Dual) → ℕ → Option Value → Traced Cause Cells
increment_cell site cells x kind ds p None = lift (Err (Unset x))
increment_cell site cells x kind ds p (Some v) = after_touch site x p kind (store_at cells p (Ring (incremented_dual ds (as_dual v))))

abbrev pub increment_place : Site → Cells → List ℕ → AccessKind → List (Bool × Dual) → Option ℕ → Traced Cause Cells
increment_place site cells x kind ds None = lift (Err (Bounds x))
increment_place site cells x kind ds (Some p) = increment_cell site cells x kind ds p (content cells p)

-- the rest terms, the subscripts once, the checks of bounds and of being set, the touch, and the update
abbrev pub increment : Site → Cells → Designator → List Signed → AccessKind → Traced Cause Cells
increment site cells p rest kind =
    inside (right_side p.name) (terms_of rest site cells) >>=
    (λ ds. values_of p.subscripts site cells >>=
    (λ subscripts. increment_place site cells p.name kind ds (place_of site p.name (whole_numbers subscripts))))

abbrev pub assignment_by : Site → Cells → Bool → Designator → Expression → Option (List Signed) → Traced Cause Cells
assignment_by site cells atomic p e None = plain_assignment site cells p e
assignment_by site cells atomic p e (Some rest) = increment site cells p rest (increment_kind atomic (site.pluses p.name))

-- ---- loops

abbrev pub turns_by : ℤ → ℤ → ℤ → Traced Cause IterationCount
turns_by first last step =
    if int_eq step (pos 0) then lift (Err ZeroDivisor)
    else pure (record { first = first; last = last; step = step; count = clipped (int_div ((last -ℤ first) +ℤ step) step) })

abbrev pub step_value : Option Expression → Site → Cells → Traced Cause Value
step_value None site cells = pure (Index (pos 1))
step_value (Some e) site cells = value_of e site cells

abbrev pub turns_of : Expression → Expression → Option Expression → Site → Cells → Traced Cause IterationCount
turns_of first last step site cells =
    value_of first site cells >>=
    (λ a. value_of last site cells >>=
    (λ b. step_value step site cells >>= (λ c. turns_by (whole_number a) (whole_number b) (whole_number c))))

-- the value of the variable in the k-th turn, from 0
abbrev pub value_at : IterationCount → ℕ → ℤ
value_at t k = t.first +ℤ (pos k *ℤ t.step)

abbrev pub set_at : Option ℕ → Option Value → Cells → Cells
set_at None v cells = cells
set_at (Some p) v cells = slice_set cells p v

abbrev pub set_log_at : Option ℕ → Option Value → Log
set_log_at None v = silence
set_log_at (Some p) v = set_log p v

-- the cells with a loop's variable set, and then a run
abbrev pub with_variable : Site → List ℕ → ℤ → Run → Run
with_variable site var z f cells =
    after (set_log_at (place_of site var []) (Some (Index z))) (f (set_at (place_of site var []) (Some (Index z)) cells))

-- the first n turns
abbrev pub turns : ℕ → (ℕ → Run) → Run
turns zero f cells = pure cells
turns (suc n) f cells = turns n f cells >>= f n

-- the words of a loop, after its last turn
abbrev pub loop_words : IterationCount → Log
loop_words t =
    both (single (pushes (Some (Index t.first)))) (both (single (pushes (Some (Index t.last)))) (single (pushes (Some (Index t.step)))))

-- the private scalars of a parallel loop, in the order of their declarations
abbrev pub private_names : Site → Directive → List ℕ → Statements → List (List ℕ)
private_names site directive var body = filter (λ x. is_private (sharing_in var directive body x)) site.declared

abbrev pub with_all_unset : Site → List (List ℕ) → Cells → Cells
with_all_unset site [] cells = cells
with_all_unset site (x ∷ xs) cells = with_all_unset site xs (set_at (place_of site x []) None cells)

abbrev pub unset_log : Site → List (List ℕ) → Log
unset_log site [] = silence
unset_log site (x ∷ xs) = both (set_log_at (place_of site x []) None) (unset_log site xs)

abbrev pub content_at : Cells → Option ℕ → Option Value
content_at cells None = None
content_at cells (Some p) = content cells p

-- the words of private scalars at an iteration's end: of those that the loop assigns and whose old values are pushed
abbrev pub private_words : Site → Statements → List (List ℕ) → Cells → Log
private_words site body [] cells = silence
private_words site body (x ∷ xs) cells =
    both (if assigns_in x body && site.pushed x then single (pushes (with_tangent 0 (content_at cells (place_of site x [])))) else silence)
    (private_words site body xs cells)

-- a turn of a sequential loop
abbrev pub one_turn : Site → List ℕ → IterationCount → (Site → Run) → ℕ → Run
one_turn site var t body k cells = inside (turn k) (with_variable site var (value_at t k) (body (in_turn site var)) cells)

-- the turns of a sequential loop, and its words
abbrev pub run_turns : List ℕ → (Site → Run) → Site → IterationCount → Run
run_turns var body site t cells = turns t.count (one_turn site var t body) cells >>= with_log (loop_words t)

-- ---- parallel loops

-- the heads of a parallel loop: a variable with its turns, the outer loop first
abbrev pub Heads : Type 0
Heads = List (List ℕ × IterationCount)

-- how many iterations there are, the inner loop running faster
abbrev pub iterations : Heads → ℕ
iterations [] = 1
iterations (h ∷ []) = h.1.count
iterations (h ∷ g ∷ hs) = h.1.count * iterations (g ∷ hs)

-- the cells with the loops' variables set for iteration k, and then a run
abbrev pub with_variables : Site → Heads → ℕ → Run → Run
with_variables site [] k f = f
with_variables site (h ∷ []) k f = with_variable site h.0 (value_at h.1 k) f
with_variables site (h ∷ g ∷ hs) k f =
    with_variable site h.0 (value_at h.1 (k / iterations (g ∷ hs))) (with_variables site (g ∷ hs) (k % iterations (g ∷ hs)) f)

abbrev pub words_of_all : Heads → Log
words_of_all [] = silence
words_of_all (h ∷ hs) = both (loop_words h.1) (words_of_all hs)

-- the turns of the loop that is collapsed with a parallel one; they are evaluated once, however many the outer ones are
abbrev pub further_turns : Option Head → Site → Cells → Traced TrapAt Heads
further_turns None site cells = pure []
further_turns (Some h) site cells = at_line h.line (turns_of h.first h.last h.step site cells) >>= (λ t. pure ((h.var, t) ∷ []))

abbrev pub heads_of : Head → Option Head → Site → Cells → Traced TrapAt Heads
heads_of h more site cells =
    at_line h.line (turns_of h.first h.last h.step site cells) >>= (λ t. further_turns more site cells >>= (λ hs. pure ((h.var, t) ∷ hs)))

-- an iteration of a parallel loop: its private scalars are unset at its start
abbrev pub one_iteration : Site → Directive → List ℕ → Heads → Statements → (Site → Run) → ℕ → Run
one_iteration site directive var heads tree body k cells =
    let names = private_names site directive var tree in
    inside (iteration k)
    (after (unset_log site names) (with_variables site heads k (body (in_iteration site directive var tree)) (with_all_unset site names cells))
    >>= (λ c. with_log (private_words site tree names c) c))

-- the iterations of a parallel loop, its end, and its words
abbrev pub run_parallel : ℕ → Directive → List ℕ → Statements → (Site → Run) → Site → Heads → Run
run_parallel line directive var tree body site heads cells =
    inside rounds (turns (iterations heads) (one_iteration site directive var heads tree body) cells) >>= with_log (both (single (ends line)) (words_of_all heads))

-- ---- statements

abbrev pub choice : Bool → Run → Run → Run
choice true f g = f
choice false f g = g

-- the statements of an arm, and its number's word
abbrev pub in_arm : ℕ → Run → Run
in_arm m f cells = inside (taken m) (f cells >>= with_log (single (pushes (Some (Index (pos m))))))

abbrev mutual
  pub run : Statement → Site → Run
  run (assignment line atomic p e) site cells =
      inside instance (at_line line (assignment_by site cells atomic p e (increment_terms site.ring p e)))
  run (branch line arms other) site cells = inside instance (run_arms arms line 0 (run_all other) site cells)
  run (loop line number None var first last step body) site cells =
      inside instance (at_line line (turns_of first last step site cells) >>= (λ t. run_turns var (run_all body) site t cells))
  run (loop line number (Some directive) var first last step body) site cells =
      inside instance
      (heads_of (record { line = line; var = var; first = first; last = last; step = step }) (further_head directive body) site cells
      >>= (λ heads. run_parallel line directive var body (if is_nest directive body then run_inner body else run_all body) site heads cells))

  pub run_all : Statements → Site → Run
  run_all no_statements site cells = pure cells
  run_all (statement s ss) site cells = run s site cells >>= run_all ss site

  -- the statements of the loop in a body
  pub run_inner : Statements → Site → Run
  run_inner no_statements site cells = pure cells
  run_inner (statement s ss) site cells = run_within s site cells

  pub run_within : Statement → Site → Run
  run_within (assignment line atomic p e) site cells = pure cells
  run_within (branch line arms other) site cells = pure cells
  run_within (loop line number directive var first last step body) site cells = run_all body site cells

  -- the arms from the m-th on: their conditions are evaluated until one holds
  pub run_arms : Arms → (line m : ℕ) → (Site → Run) → Site → Run
  run_arms no_arms line m other site cells = in_arm m (other site) cells
  run_arms (arm test body arms) line m other site cells =
      inside (condition m) (at_line line (holds test site cells)) >>=
      (λ p. choice p (in_arm m (run_all body site)) (run_arms arms line (m + 1) other site) cells)

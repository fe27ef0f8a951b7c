-- Statements as a reverse sweep undoes them: from every tape and all words there is a next state.
use Rattle.std.specs.Prelude.{ℕ, zero, suc, ◌+◌, ◌*◌, ◌/◌, ◌%◌, ◌+ℤ◌, ◌-ℤ◌, int_div, Bool, true, false, if◌then◌else◌, List, [], ◌∷◌, Option, Some, None}
use Rattle.std.specs.Int.{w64, cast_unsigned}
use Rattle.ring_core.specs.Ring.{ring_add, ring_sub, ring_mul, ring_neg}
use Rattle.store_core.specs.Bounds.{clipped}
use Rattle.meaning.specs.declared.value.IterationCount.{IterationCount}
use Rattle.meaning.specs.Statements.{value_at}
use Rattle.resolved.specs.SlotTables.{Names}
use Rattle.transposition.specs.Tapes.{Tape, Tapes, top, rest, top_tapes, tape_at}
use Rattle.transposition.specs.Worlds.{Local}
use Rattle.sweep_trees.specs.Split.{SpotTree}
use Rattle.sweep_steps.specs.declared.step.PrivateScalar.{PrivateScalar}
use Rattle.sweep_steps.specs.Steps.{TermTree}
use Rattle.sweep_evaluation.specs.Machine.{Ran, ran, ◌to◌, narrow, spot_place, ring_value, test_value}
use Rattle.undo_steps.specs.UndoSteps.{FactorTree, operand_factor, either_factor, GrowthTree, UndoStore, undo_plain, undo_increment, AroundUndo, back_turns, back_iterations, UndoTree, undo_store, undo_choice, undo_loop, UndoTrees, no_undos, undos, UndoArms, no_undo_arms, undo_arm}
use Rattle.reverse_sweep.specs.Reversing.{Stage, Reversing, reversing, opened_sum, closed_sum, own_value_set, own_adjoint_set, popped, on_tape, told, adjoint_loaded, value_stored, adjoint_stored, value_grown, adjoint_grown}

-- ---- increments of adjoints

abbrev pub factor_value : Names → ℕ → FactorTree → Reversing → Ran Reversing ℕ
factor_value names n (operand_factor a) s = ring_value (told n) names a s
factor_value names n (either_factor one other test) s = test_value (told n) names test s to (λ b. ran (if b then one else other))

-- the product with further factors, grouped from the left
abbrev pub product : Names → ℕ → List FactorTree → ℕ → Reversing → Ran Reversing ℕ
product names n [] x s = ran x s
product names n (f ∷ fs) x s = factor_value names n f s to (λ y. product names n fs (ring_mul x y))

abbrev pub signed : Bool → ℕ → ℕ
signed negative x = if negative then ring_neg x else x

-- x being the adjoint that was moved
abbrev pub growth_run : Names → ℕ → ℕ → GrowthTree → Reversing → Reversing
growth_run names n x g s =
    let y = product names n g.factors x s in
    let p = spot_place (told n) names g.place y.state in
    adjoint_grown n g.choice (signed g.negative y.out) p.out p.state

abbrev pub growths_run : Names → ℕ → ℕ → List GrowthTree → Reversing → Reversing
growths_run names n x [] s = s
growths_run names n x (g ∷ gs) s = growths_run names n x gs (growth_run names n x g s)

-- ---- assignments

abbrev pub target_adjoint : Names → ℕ → SpotTree → Reversing → Ran Reversing ℕ
target_adjoint names n target s = spot_place (told n) names target s to adjoint_loaded n

abbrev pub cleared : Names → ℕ → SpotTree → Reversing → Reversing
cleared names n target s =
    let p = spot_place (told n) names target s in
    adjoint_stored n 0 p.out p.state

-- the old value, from the tape
abbrev pub restored_from : ℕ → ℕ → Option ℕ → Reversing → Reversing
restored_from n x place s = value_stored n x place (reversing (popped s.local) s.stage)

abbrev pub restored : Names → ℕ → Bool → SpotTree → Reversing → Reversing
restored names n false target s = s
restored names n true target s =
    let p = spot_place (told n) names target s in
    restored_from n (top p.state.local.tape) p.out p.state

-- the target's adjoint is moved away, and what it was worth is spread
abbrev pub plain_run : Names → ℕ → SpotTree → Bool → Option (List GrowthTree) → Reversing → Reversing
plain_run names n target restores None s = restored names n restores target s
plain_run names n target restores (Some gs) s =
    let x = target_adjoint names n target s in
    growths_run names n x.out gs (restored names n restores target (cleared names n target x.state))

-- the terms with their signs turned, added up from x
abbrev pub rest_sum : Names → ℕ → List TermTree → ℕ → Reversing → Ran Reversing ℕ
rest_sum names n [] x s = ran x s
rest_sum names n (r ∷ rs) x s = ring_value (told n) names r.1 s to (λ y. rest_sum names n rs (if r.0 then ring_add x y else ring_sub x y))

abbrev pub reversed_by : Names → ℕ → SpotTree → Option (List TermTree) → Bool → Reversing → Reversing
reversed_by names n target None one_step s = s
reversed_by names n target (Some ts) one_step s =
    let x = rest_sum names n ts 0 s in
    let p = spot_place (told n) names target x.state in
    value_grown n one_step x.out p.out p.state

abbrev pub spread_run : Names → ℕ → SpotTree → Option (List GrowthTree) → Reversing → Reversing
spread_run names n target None s = s
spread_run names n target (Some gs) s =
    let x = target_adjoint names n target s in
    growths_run names n x.out gs x.state

abbrev pub undo_store_run : Names → ℕ → UndoStore → Reversing → Reversing
undo_store_run names n (undo_plain target restores growths) s = plain_run names n target restores growths s
undo_store_run names n (undo_increment target reversal one_step growths) s = spread_run names n target growths (reversed_by names n target reversal one_step s)

-- ---- loops

-- the tape below the words of a loop's bounds
abbrev pub below_words : Tape → Tape
below_words t = rest (rest (rest t))

-- the bounds of a loop, from the three words on top, the step's first; a step of 0 makes no turns
abbrev pub bounds_on : Tape → IterationCount
bounds_on t =
    let first = narrow (top (rest (rest t))) in
    let last = narrow (top (rest t)) in
    let step = narrow (top t) in
    record { first = first; last = last; step = step; count = clipped (int_div ((last -ℤ first) +ℤ step) step) }

-- a loop's variable in turn k
abbrev pub variable_set : ℕ → Option ℕ → IterationCount → ℕ → Local → Local
variable_set n place t k l = own_value_set n place (cast_unsigned w64 (value_at t k)) l

-- the last turn first
abbrev pub turns_undone : ℕ → (ℕ → Reversing → Reversing) → Reversing → Reversing
turns_undone zero f s = s
turns_undone (suc k) f s = turns_undone k f (f k s)

abbrev pub turn_undone : ℕ → Option ℕ → IterationCount → (Reversing → Reversing) → ℕ → Reversing → Reversing
turn_undone n place t body k s = body (reversing (variable_set n place t k s.local) s.stage)

abbrev pub loop_undone : ℕ → Option ℕ → (Reversing → Reversing) → Reversing → Reversing
loop_undone n place body s =
    let t = bounds_on s.local.tape in
    turns_undone t.count (turn_undone n place t body) (reversing (on_tape (below_words s.local.tape) s.local) s.stage)

-- ---- parallel loops

-- the places of the loops' variables, the outer one's first, and their bounds
abbrev pub Counts : Type 0
Counts = List (Option ℕ × IterationCount)

abbrev pub below_counts : List (Option ℕ) → Tape → Tape
below_counts [] t = t
below_counts (p ∷ ps) t = below_words (below_counts ps t)

-- the last loop's bounds are on top
abbrev pub counts_on : List (Option ℕ) → Tape → Counts
counts_on [] t = []
counts_on (p ∷ ps) t = (p, bounds_on (below_counts ps t)) ∷ counts_on ps t

-- how many iterations there are, the inner loop running faster
abbrev pub count_of : Counts → ℕ
count_of [] = 1
count_of (c ∷ []) = c.1.count
count_of (c ∷ d ∷ cs) = c.1.count * count_of (d ∷ cs)

abbrev pub variables_set : ℕ → Counts → ℕ → Local → Local
variables_set n [] k l = l
variables_set n (c ∷ []) k l = variable_set n c.0 c.1 k l
variables_set n (c ∷ d ∷ cs) k l = variables_set n (d ∷ cs) (k % count_of (d ∷ cs)) (variable_set n c.0 c.1 (k / count_of (d ∷ cs)) l)

abbrev pub private_refilled : ℕ → Bool → Option ℕ → Local → Local
private_refilled n false place l = l
private_refilled n true place l = own_value_set n place (top l.tape) (popped l)

-- private scalars whose words an iteration left on its tape, the last first
abbrev pub privates_refilled : ℕ → List PrivateScalar → Local → Local
privates_refilled n [] l = l
privates_refilled n (q ∷ qs) l = private_refilled n q.pushes q.place (privates_refilled n qs l)

abbrev pub privates_cleared : ℕ → List PrivateScalar → Local → Local
privates_cleared n [] l = l
privates_cleared n (q ∷ qs) l = privates_cleared n qs (own_adjoint_set n q.place 0 l)

-- the sums of the Reductions with these places, the first one's innermost
abbrev pub opened_sums : ℕ → List ℕ → Stage → Stage
opened_sums n [] g = g
opened_sums n (q ∷ qs) g = opened_sum (n + q) (opened_sums n qs g)

abbrev pub closed_sums : ℕ → List ℕ → Stage → Stage
closed_sums n [] g = g
closed_sums n (q ∷ qs) g = closed_sums n qs (closed_sum (n + q) g)

-- what an iteration begins with: the words at the loop's entry, its own tape, its variables and its privates
abbrev pub iteration_begun : ℕ → List PrivateScalar → Counts → Tapes → Local → ℕ → Local
iteration_begun n privates counts ts l k = privates_cleared n privates (privates_refilled n privates (variables_set n counts k (on_tape (tape_at ts k) l)))

abbrev pub iteration_closed : ℕ → List ℕ → Reversing → Reversing
iteration_closed n reductions s = reversing s.local (closed_sums n reductions s.stage)

-- l being what the loop's entry has; whatever the iteration before left of its own is gone
abbrev pub iteration_undone : ℕ → List PrivateScalar → List ℕ → Counts → Tapes → (Reversing → Reversing) → Local → ℕ → Stage → Reversing
iteration_undone n privates reductions counts ts body l k g =
    iteration_closed n reductions (body (reversing (iteration_begun n privates counts ts l k) (opened_sums n reductions g)))

-- iterations in ascending order, of which the shared cells alone stay
abbrev pub iterations_undone : ℕ → (ℕ → Stage → Reversing) → Stage → Stage
iterations_undone zero f g = g
iterations_undone (suc k) f g = (f k (iterations_undone k f g)).stage

abbrev pub parallel_undone : ℕ → List (Option ℕ) → List PrivateScalar → List ℕ → (Reversing → Reversing) → Reversing → Reversing
parallel_undone n places privates reductions body s =
    let counts = counts_on places s.local.tape in
    let below = on_tape (below_counts places s.local.tape) s.local in
    reversing (popped below) (iterations_undone (count_of counts) (iteration_undone n privates reductions counts (top_tapes below.tape) body below) s.stage)

abbrev pub around_run : ℕ → AroundUndo → (Reversing → Reversing) → Reversing → Reversing
around_run n (back_turns place) body s = loop_undone n place body s
around_run n (back_iterations places privates reductions) body s = parallel_undone n places privates reductions body s

-- ---- statements

abbrev mutual
  -- n being the number of shared places
  pub undo_run : Names → ℕ → UndoTree → Reversing → Reversing
  undo_run names n (undo_store u) s = undo_store_run names n u s
  undo_run names n (undo_choice arms other) s = arm_run names n arms (undos_run names n other) (top s.local.tape) (reversing (popped s.local) s.stage)
  undo_run names n (undo_loop around body) s = around_run n around (undos_run names n body) s

  -- the last statement first
  pub undos_run : Names → ℕ → UndoTrees → Reversing → Reversing
  undos_run names n no_undos s = s
  undos_run names n (undos u us) s = undo_run names n u (undos_run names n us s)

  -- the arm with a number
  pub arm_run : Names → ℕ → UndoArms → (Reversing → Reversing) → ℕ → Reversing → Reversing
  arm_run names n no_undo_arms other m s = other s
  arm_run names n (undo_arm us arms) other zero s = undos_run names n us s
  arm_run names n (undo_arm us arms) other (suc m) s = arm_run names n arms other m s

-- Statements as a forward sweep runs them: every step leaves what it leaves, whatever came before it; after a stop nothing changes.
use Rattle.std.specs.Prelude.{ℕ, zero, suc, ◌+◌, ◌*◌, ◌/◌, ◌%◌, ◌<◌, ℤ, pos, ◌+ℤ◌, ◌-ℤ◌, int_div, Bool, if◌then◌else◌, nat_le, nat_lt, List, [], ◌∷◌, ◌++◌, length, Option, Some, None}
use Rattle.std.specs.Ordering.{int_eq}
use Rattle.ring_core.specs.Index.{IsIndex}
use Rattle.ring_core.specs.Ring.{ring_add, ring_sub}
use Rattle.fl_ast.specs.declared.kind.Kind.{Kind}
use Rattle.fl_ast.specs.declared.kind.Kind.TheVariants as kind
use Rattle.fl_types.specs.declared.access.AccessKind.{AccessKind}
use Rattle.fl_types.specs.declared.access.AccessKind.TheVariants.{Write}
use Rattle.store_core.specs.Bounds.{clipped}
use Rattle.meaning.specs.declared.value.Value.{Value}
use Rattle.meaning.specs.declared.value.Value.TheVariants.{Index, Ring}
use Rattle.meaning.specs.declared.value.IterationCount.{IterationCount}
use Rattle.meaning.specs.Values.{as_dual, as_kind}
use Rattle.meaning.specs.Expressions.{content}
use Rattle.meaning.specs.Statements.{value_at}
use Rattle.resolved.specs.SlotTables.{Names, kind_at}
use Rattle.dual_evaluation.specs.declared.stop.Halt.TheVariants.{Bounds, Unset, ZeroDivisor}
use Rattle.sweep_trees.specs.Split.{SpotTree, IndexTree}
use Rattle.split_trees.specs.Codes.{CodeTree, ring_code, index_code}
use Rattle.sweep_steps.specs.declared.step.PrivateScalar.{PrivateScalar}
use Rattle.sweep_steps.specs.Steps.{TermTree, HeadTree, StoreTree, assign, update, AroundTree, in_turns, in_iterations, StepTree, store_step, if_step, loop_step, StepTrees, no_steps, step, ArmTrees, no_step_arms, step_arm}
use Rattle.sweep_evaluation.specs.Machine.{Ran, ran, ◌to◌, spot_slot, is_accessed, spot_place, index_value, ring_value, test_value}
use Rattle.sweep_law.specs.Telling.{Standing, told, goes_on}
use Rattle.forward_state.specs.Steps.{begun, touched_if, set_at, pushed, pushed_old, number_set, unset_at, scalar_pushed, on_line, entered, in_iteration, left}

abbrev pub is_going : Standing → Bool
is_going s = goes_on s.kept.seen

-- ---- assignments

abbrev pub plain : ℕ → Value
plain x = Ring (record { value = x; tangent = 0 })

abbrev pub code_value : Names → CodeTree → Standing → Ran Standing Value
code_value names (ring_code a) s = ring_value told names a s to (λ x. ran (plain x))
code_value names (index_code i) s = index_value told names i s to (λ z. ran (Index z))

-- the touch, the old content's word, and the store
abbrev pub put_at : Bool → Bool → Value → ℕ → Standing → Standing
put_at accessed pushes v p s =
    set_at (pushed_old pushes p (touched_if accessed p Write s)) p (Some v)

-- the kind of a slot's name
abbrev pub slot_kind : Names → ℕ → Kind
slot_kind names slot = if nat_lt slot (length names.0) then kind_at names.1 slot else kind.Index

abbrev pub put : Names → Bool → SpotTree → Value → Option ℕ → Standing → Standing
put names pushes target v None s = told.stopped s (Bounds (spot_slot target))
put names pushes target v (Some p) s = put_at (is_accessed target) pushes (as_kind (slot_kind names (spot_slot target)) v) p s

abbrev pub assign_run : Names → Bool → SpotTree → CodeTree → Standing → Standing
assign_run names pushes target value s =
    let v = code_value names value s in
    let p = spot_place told names target v.state in
    put names pushes target v.out p.out p.state

-- the sum of an increment's terms, from x
abbrev pub terms_sum : Names → List TermTree → ℕ → Standing → Ran Standing ℕ
terms_sum names [] x s = ran x s
terms_sum names (r ∷ rs) x s = ring_value told names r.1 s to (λ y. terms_sum names rs (if r.0 then ring_sub x y else ring_add x y))

abbrev pub add_at : Bool → AccessKind → ℕ → (slot place : ℕ) → Option Value → Standing → Standing
add_at accessed kind x slot p None s = told.stopped s (Unset slot)
add_at accessed kind x slot p (Some v) s = set_at (touched_if accessed p kind s) p (Some (plain (ring_add (as_dual v).value x)))

abbrev pub add : AccessKind → SpotTree → ℕ → Option ℕ → Standing → Standing
add kind target x None s = told.stopped s (Bounds (spot_slot target))
add kind target x (Some p) s = add_at (is_accessed target) kind x (spot_slot target) p (content s.kept.cells p) s

abbrev pub update_run : Names → AccessKind → SpotTree → List TermTree → Standing → Standing
update_run names kind target terms s =
    let x = terms_sum names terms 0 s in
    let p = spot_place told names target x.state in
    add kind target x.out p.out p.state

abbrev pub store_run : Names → StoreTree → Standing → Standing
store_run names (assign line pushes target value) s = assign_run names pushes target value (on_line line s)
store_run names (update line kind target terms) s = update_run names kind target terms (on_line line s)

-- ---- heads of loops

abbrev pub step_number : Names → Option IndexTree → Standing → Ran Standing ℤ
step_number names None s = ran (pos 1) s
step_number names (Some i) s = index_value told names i s

abbrev pub counted : ℤ → ℤ → ℤ → Standing → Ran Standing IterationCount
counted a b c s =
    if int_eq c (pos 0) then ran (record { first = a; last = b; step = c; count = 0 }) (told.stopped s ZeroDivisor)
    else ran (record { first = a; last = b; step = c; count = clipped (int_div ((b -ℤ a) +ℤ c) c) }) s

abbrev pub head_run : Names → HeadTree → Standing → Ran Standing IterationCount
head_run names h s =
    index_value told names h.first (on_line h.line s) to (λ a t. index_value told names h.last t to (λ b u. step_number names h.step u to (λ c. counted a b c)))

-- the head of the loop that is collapsed, with its variable's place
abbrev pub Further : Type 0
Further = Option (Option ℕ × IterationCount)

abbrev pub inner_run : Names → Option HeadTree → Standing → Ran Standing Further
inner_run names None s = ran None s
inner_run names (Some h) s = head_run names h s to (λ t. ran (Some (h.place, t)))

-- a loop's bounds are of the index kind, and in each turn its variable
pub record HasNumbers (t : IterationCount) : Type 0 where
  pub first : IsIndex t.first
  pub last : IsIndex t.last
  pub step : IsIndex t.step
  pub variable : (k : ℕ) → k < t.count → IsIndex (value_at t k)

abbrev pub FurtherHasNumbers : Further → Type 0
FurtherHasNumbers None = Unit {0}
FurtherHasNumbers (Some u) = HasNumbers u.1

-- ---- loops

-- a loop's variable in its turn k
abbrev pub variable_run : Option ℕ → IterationCount → ℕ → Standing → Standing
variable_run place t k s = number_set place (value_at t k) s

-- n turns from the k-th on, up to a stop
abbrev pub turns_run : ℕ → ℕ → (ℕ → Standing → Standing) → Standing → Standing
turns_run zero k f s = s
turns_run (suc n) k f s = if is_going s then turns_run n (k + 1) f (f k s) else s

abbrev pub words_run : IterationCount → Standing → Standing
words_run t s = pushed (pushed (pushed s (Some (Index t.first))) (Some (Index t.last))) (Some (Index t.step))

abbrev pub one_turn : (Standing → Standing) → Option ℕ → IterationCount → ℕ → Standing → Standing
one_turn body place t k s = body (variable_run place t k (begun s))

-- ---- parallel loops

-- as many iterations as fit the number of one
abbrev pub capped : ℕ → ℕ
capped n = if nat_le n 18446744073709551615 then n else 18446744073709551615

abbrev pub iteration_count : IterationCount → Further → ℕ
iteration_count t None = t.count
iteration_count t (Some u) = capped (t.count * u.1.count)

abbrev pub variables_run : Option ℕ → IterationCount → Further → ℕ → Standing → Standing
variables_run place t None k s = variable_run place t k s
variables_run place t (Some u) k s = variable_run u.0 u.1 (k % u.1.count) (variable_run place t (k / u.1.count) s)

abbrev pub unset_all : List PrivateScalar → Standing → Standing
unset_all [] s = s
unset_all (q ∷ qs) s = unset_all qs (unset_at q.place s)

-- the words of private scalars at an iteration's end
abbrev pub privates_run : List PrivateScalar → Standing → Standing
privates_run [] s = s
privates_run (q ∷ qs) s = privates_run qs (scalar_pushed q.pushes q.place s)

abbrev pub one_iteration : (Standing → Standing) → Option ℕ → IterationCount → Further → List PrivateScalar → ℕ → Standing → Standing
one_iteration body place t more privates k s = privates_run privates (body (variables_run place t more k (unset_all privates (in_iteration k s))))

abbrev pub bounds_of : IterationCount → List ℤ
bounds_of t = t.first ∷ t.last ∷ t.step ∷ []

abbrev pub further_bounds : Further → List ℤ
further_bounds None = []
further_bounds (Some u) = bounds_of u.1

abbrev pub further_words : Further → Standing → Standing
further_words None s = s
further_words (Some u) s = words_run u.1 s

abbrev pub iterations_run : (Standing → Standing) → HeadTree → List PrivateScalar → IterationCount → Further → Standing → Standing
iterations_run body h privates t more s =
    further_words more (words_run t (left (turns_run (iteration_count t more) 0 (one_iteration body h.place t more privates) (entered h.line (bounds_of t ++ further_bounds more) [] s))))

abbrev pub loop_run : Names → AroundTree → (Standing → Standing) → Standing → Standing
loop_run names (in_turns h) body s =
    let t = head_run names h s in
    words_run t.out (turns_run t.out.count 0 (one_turn body h.place t.out) t.state)
loop_run names (in_iterations h inner privates) body s =
    let t = head_run names h s in
    let u = inner_run names inner t.state in
    iterations_run body h privates t.out u.out u.state

-- ---- statements

-- the statements of arm m, and its number's word
abbrev pub arm_run : ℕ → (Standing → Standing) → Standing → Standing
arm_run m body s = pushed (body s) (Some (Index (pos m)))

abbrev mutual
  pub step_run : Names → StepTree → Standing → Standing
  step_run names (store_step x) s = store_run names x (begun s)
  step_run names (if_step line arms other) s = arms_run names arms 0 (steps_run names other) (on_line line (begun s))
  step_run names (loop_step line around body) s = loop_run names around (steps_run names body) (begun s)

  pub steps_run : Names → StepTrees → Standing → Standing
  steps_run names no_steps s = s
  steps_run names (step t ts) s = if is_going s then steps_run names ts (step_run names t s) else s

  pub arms_run : Names → ArmTrees → ℕ → (Standing → Standing) → Standing → Standing
  arms_run names no_step_arms m other s = arm_run m other s
  arms_run names (step_arm test body arms) m other s =
      let b = test_value told names test s in
      if b.out then arm_run m (steps_run names body) b.state else arms_run names arms (m + 1) other b.state

-- ---- choices

-- the number of the first arm whose test holds, or of all arms where none does
abbrev pub arm_chosen : Names → ArmTrees → Standing → Ran Standing ℕ
arm_chosen names no_step_arms s = ran 0 s
arm_chosen names (step_arm test body arms) s =
    let b = test_value told names test s in
    if b.out then ran 0 b.state else (arm_chosen names arms b.state to (λ n. ran (suc n)))

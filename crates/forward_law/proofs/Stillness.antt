-- After a stop nothing changes: evaluations, and each step of a sweep.
use Rattle.std.specs.Prelude.{◌≡◌, ℕ, ℤ, pos, ◌+ℤ◌, ◌-ℤ◌, int_div, Bool, true, false, not, ◌&&◌, ◌||◌, if◌then◌else◌, nat_lt, List, [], ◌∷◌, length, Option, Some, None, is_some, Result, Ok, Err, neg_ℤ, refl}
use Rattle.std.specs.Ordering.{int_eq}
use Rattle.std.specs.Int.{int_pow}
use Rattle.std.proofs.Common.{ap, sym, subst, ◌∙◌}
use Rattle.ring_core.specs.declared.index.IndexTrap.{IndexTrap}
use Rattle.ring_core.specs.Index.{exact_index, index_rem}
use Rattle.ring_core.specs.Ring.{ring_add, ring_sub, ring_neg, ring_pow, signed_at}
use Rattle.fl_types.specs.declared.access.AccessKind.{AccessKind}
use Rattle.fl_types.specs.declared.access.AccessKind.TheVariants.{Read, Write}
use Rattle.store_core.specs.Bounds.{clipped}
use Rattle.store_core.specs.Keys.{place_in_slot}
use Rattle.meaning.specs.declared.value.Value.{Value}
use Rattle.meaning.specs.declared.value.Value.TheVariants.{Index}
use Rattle.meaning.specs.declared.value.IterationCount.{IterationCount}
use Rattle.meaning.specs.Values.{compares, as_dual, as_kind}
use Rattle.meaning.specs.Logs.{begins, touches, pushes, traps, Note, tells, stores}
use Rattle.meaning.specs.Sites.{with_tangent, word_of}
use Rattle.meaning.specs.Expressions.{content}
use Rattle.first_stops.specs.Kept.{Kept, with_note}
use Rattle.resolved.specs.SlotTables.{Names, kind_at}
use Rattle.dual_evaluation.specs.declared.stop.Halt.{Halt}
use Rattle.dual_evaluation.specs.declared.stop.Halt.TheVariants.{Bounds, Unset, ZeroDivisor}
use Rattle.dual_evaluation.specs.Answers.{halt_cause}
use Rattle.sweep_trees.specs.Split.{SpotTree, scalar, element, elements, IndexTree, number, index_get, index_minus, index_binary, index_power, index_larger, index_smaller, index_remainder, index_absolute, IndexTrees, no_indices, index, RingTree, word, ring_get, widened, ring_minus, ring_binary, ring_power, ring_larger, ring_smaller, ring_absolute, TestTree, index_test, ring_test, not_test, and_test, or_test}
use Rattle.split_trees.specs.Codes.{CodeTree, ring_code, index_code}
use Rattle.sweep_steps.specs.Steps.{TermTree, HeadTree}
use Rattle.sweep_evaluation.specs.Machine.{Ran, ran, ◌to◌, exactly, halt_of, index_found, larger_index, smaller_index, absolute_index, narrow, widen, ring_found, larger_word, smaller_word, absolute_word, load_at, spot_slot, is_accessed, spot_place, index_value, index_values, ring_value, test_value}
use Rattle.sweep_law.specs.Telling.{ForwardTape, Standing, standing, told, stopped_by, touched_by, loaded_cell, goes_on}
use Rattle.sweep_law.proofs.Combining.{still}
use Rattle.forward_state.specs.Steps.{noted, begun, touched_at, set_at, pushed, with_word_on}
use Rattle.forward_state.specs.Steps.{touched_if, pushed_if}
use Rattle.forward_sweep.specs.Machine.{slot_kind, code_value, plain, put_at, put, terms_sum, add_at, add, step_number, counted, head_run}

pub note_still : (s : Standing) (n : Note) → goes_on s.kept.seen ≡ false → with_note s.scene.judge s.scene.limits s.kept n ≡ s.kept
note_still s n h = still s.scene.judge s.scene.limits s.kept (n ∷ []) h

pub noted_still : (s : Standing) (n : Note) → goes_on s.kept.seen ≡ false → noted s n ≡ s
noted_still s n h = ap (standing s.scene s.tape) (note_still s n h)

-- ---- evaluations

-- a run that leaves what stopped before
abbrev pub Still : {A : Type 0} → (Standing → Ran Standing A) → Type 0
Still m = (s : Standing) → goes_on s.kept.seen ≡ false → (m s).state ≡ s

pub still_ran : {A : Type 0} (a : A) → Still (ran a)
still_ran a s h = refl

pub still_to : {A B : Type 0} (m : Standing → Ran Standing A) (f : A → Standing → Ran Standing B) → Still m → ((a : A) → Still (f a)) → Still (λ s. m s to f)
still_to m f sm sf s h = let e : (m s).state ≡ s = sm s h in sf (m s).out (m s).state (subst (λ (z : Standing). goes_on z.kept.seen ≡ false) (sym e) h) ∙ e

pub still_two : {A B C : Type 0} (m : Standing → Ran Standing A) (n : Standing → Ran Standing B) (f : A → B → Standing → Ran Standing C) → Still m → Still n → ((a : A) (b : B) → Still (f a b)) → Still (λ s. m s to (λ a t. n t to f a))
still_two m n f sm sn sf = still_to m (λ a t. n t to f a) sm (λ a. still_to n (f a) sn (sf a))

pub still_stopped : (why : Halt) (s : Standing) → goes_on s.kept.seen ≡ false → told.stopped s why ≡ s
still_stopped why s h = noted_still s (tells (traps (record { line = s.scene.line; cause = halt_cause s.scene.names.0 why }))) h

still_exactly : (r : Result ℤ IndexTrap) → Still (exactly told r)
still_exactly (Ok z) s h = refl
still_exactly (Err t) s h = still_stopped (halt_of t) s h

still_loaded : (s : Standing) (slot p : ℕ) (accessed : Bool) (v : Option Value) → goes_on s.kept.seen ≡ false → standing s.scene s.tape (loaded_cell s.scene s.kept slot p accessed v) ≡ s
still_loaded s slot p accessed None h = still_stopped (Unset slot) s h
still_loaded s slot p accessed (Some v) h = by_flag (accessed && is_some s.scene.around)
  where
    by_flag : (b : Bool) → standing s.scene s.tape (if b then touched_by s.scene s.kept p else s.kept) ≡ s
    by_flag true = noted_still s (tells (touches (record { place = p; iteration = s.scene.iteration; kind = Read }))) h
    by_flag false = refl

still_load : (slot : ℕ) (accessed : Bool) (o : Option ℕ) → Still (load_at told slot accessed o)
still_load slot accessed None s h = still_stopped (Bounds slot) s h
still_load slot accessed (Some p) s h = still_loaded s slot p accessed (content s.kept.cells p) h

mutual
  pub still_spot : (names : Names) (p : SpotTree) → Still (spot_place told names p)
  still_spot names (scalar slot place accessed) = still_ran (Some place)
  still_spot names (element slot accessed i) = still_to (index_value told names i) (λ z. ran (place_in_slot names.0 slot (z ∷ []))) (still_index names i) (λ z. still_ran (place_in_slot names.0 slot (z ∷ [])))
  still_spot names (elements slot accessed is) = still_to (index_values told names is) (λ zs. ran (place_in_slot names.0 slot zs)) (still_indices names is) (λ zs. still_ran (place_in_slot names.0 slot zs))

  pub still_index : (names : Names) (i : IndexTree) → Still (index_value told names i)
  still_index names (number z) = still_ran z
  still_index names (index_get p) =
      still_to (spot_place told names p) (λ place t. load_at told (spot_slot p) (is_accessed p) place t to (λ x. ran (narrow x))) (still_spot names p)
      (λ place. still_to (load_at told (spot_slot p) (is_accessed p) place) (λ x. ran (narrow x)) (still_load (spot_slot p) (is_accessed p) place) (λ x. still_ran (narrow x)))
  still_index names (index_minus a) = still_to (index_value told names a) (λ x. exactly told (exact_index (neg_ℤ x))) (still_index names a) (λ x. still_exactly (exact_index (neg_ℤ x)))
  still_index names (index_binary o a b) =
      still_two (index_value told names a) (index_value told names b) (λ x y. exactly told (index_found o x y)) (still_index names a) (still_index names b) (λ x y. still_exactly (index_found o x y))
  still_index names (index_power a n) = still_to (index_value told names a) (λ x. exactly told (exact_index (int_pow x n))) (still_index names a) (λ x. still_exactly (exact_index (int_pow x n)))
  still_index names (index_larger a b) =
      still_two (index_value told names a) (index_value told names b) (λ x y. ran (larger_index x y)) (still_index names a) (still_index names b) (λ x y. still_ran (larger_index x y))
  still_index names (index_smaller a b) =
      still_two (index_value told names a) (index_value told names b) (λ x y. ran (smaller_index x y)) (still_index names a) (still_index names b) (λ x y. still_ran (smaller_index x y))
  still_index names (index_remainder a b) =
      still_two (index_value told names a) (index_value told names b) (λ x y. exactly told (index_rem x y)) (still_index names a) (still_index names b) (λ x y. still_exactly (index_rem x y))
  still_index names (index_absolute a) = still_to (index_value told names a) (λ x. exactly told (absolute_index x)) (still_index names a) (λ x. still_exactly (absolute_index x))

  pub still_indices : (names : Names) (is : IndexTrees) → Still (index_values told names is)
  still_indices names no_indices = still_ran {A = List ℤ} []
  still_indices names (index i is) =
      still_two (index_value told names i) (index_values told names is) (λ z zs. ran (z ∷ zs)) (still_index names i) (still_indices names is) (λ z zs. still_ran (z ∷ zs))

pub still_ring : (names : Names) (a : RingTree) → Still (ring_value told names a)
still_ring names (word x) = still_ran x
still_ring names (ring_get p) =
    still_to (spot_place told names p) (load_at told (spot_slot p) (is_accessed p)) (still_spot names p) (still_load (spot_slot p) (is_accessed p))
still_ring names (widened i) = still_to (index_value told names i) (λ z. ran (widen z)) (still_index names i) (λ z. still_ran (widen z))
still_ring names (ring_minus a) = still_to (ring_value told names a) (λ x. ran (ring_neg x)) (still_ring names a) (λ x. still_ran (ring_neg x))
still_ring names (ring_binary o a b) =
    still_two (ring_value told names a) (ring_value told names b) (λ x y. ran (ring_found o x y)) (still_ring names a) (still_ring names b) (λ x y. still_ran (ring_found o x y))
still_ring names (ring_power a n) = still_to (ring_value told names a) (λ x. ran (ring_pow x n)) (still_ring names a) (λ x. still_ran (ring_pow x n))
still_ring names (ring_larger a b) =
    still_two (ring_value told names a) (ring_value told names b) (λ x y. ran (larger_word names.2 x y)) (still_ring names a) (still_ring names b) (λ x y. still_ran (larger_word names.2 x y))
still_ring names (ring_smaller a b) =
    still_two (ring_value told names a) (ring_value told names b) (λ x y. ran (smaller_word names.2 x y)) (still_ring names a) (still_ring names b) (λ x y. still_ran (smaller_word names.2 x y))
still_ring names (ring_absolute a) = still_to (ring_value told names a) (λ x. ran (absolute_word names.2 x)) (still_ring names a) (λ x. still_ran (absolute_word names.2 x))

pub still_test : (names : Names) (a : TestTree) → Still (test_value told names a)
still_test names (index_test o a b) =
    still_two (index_value told names a) (index_value told names b) (λ x y. ran (compares o x y)) (still_index names a) (still_index names b) (λ x y. still_ran (compares o x y))
still_test names (ring_test o a b) =
    still_two (ring_value told names a) (ring_value told names b) (λ x y. ran (compares o (signed_at names.2 x) (signed_at names.2 y))) (still_ring names a) (still_ring names b)
    (λ x y. still_ran (compares o (signed_at names.2 x) (signed_at names.2 y)))
still_test names (not_test a) = still_to (test_value told names a) (λ p. ran (not p)) (still_test names a) (λ p. still_ran (not p))
still_test names (and_test a b) =
    still_two (test_value told names a) (test_value told names b) (λ p q. ran (p && q)) (still_test names a) (still_test names b) (λ p q. still_ran (p && q))
still_test names (or_test a b) =
    still_two (test_value told names a) (test_value told names b) (λ p q. ran (p || q)) (still_test names a) (still_test names b) (λ p q. still_ran (p || q))

-- ---- steps

pub still_begun : (s : Standing) → goes_on s.kept.seen ≡ false → begun s ≡ s
still_begun s h = noted_still s (tells begins) h

pub still_touched : (s : Standing) (accessed : Bool) (p : ℕ) (kind : AccessKind) → goes_on s.kept.seen ≡ false → touched_if accessed p kind s ≡ s
still_touched s false p kind h = refl
still_touched s true p kind h = by_test (is_some s.scene.around && nat_lt p (length s.kept.cells))
  where
    n : Note
    n = tells (touches (record { place = p; iteration = s.scene.iteration; kind = kind }))

    by_test : (b : Bool) → (if b then noted s n else s) ≡ s
    by_test true = noted_still s n h
    by_test false = refl

pub still_set : (s : Standing) (p : ℕ) (v : Option Value) → goes_on s.kept.seen ≡ false → set_at s p v ≡ s
still_set s p v h = noted_still s (stores p (with_tangent 0 v)) h

taped_still : (t u : ForwardTape) (b : Bool) → b ≡ false → (if b then u else t) ≡ t
taped_still t u true h = absurd (cc)
taped_still t u false h = refl

pub still_pushed : (s : Standing) (v : Option Value) → goes_on s.kept.seen ≡ false → pushed s v ≡ s
still_pushed s v h =
    let e : with_note s.scene.judge s.scene.limits s.kept (tells (pushes (with_tangent 0 v))) ≡ s.kept = note_still s (tells (pushes (with_tangent 0 v))) h in
    ap (λ (k : Kept). standing s.scene (if goes_on k.seen then with_word_on s.tape (word_of v) else s.tape) k) e
    ∙ ap (λ (t : ForwardTape). standing s.scene t s.kept) (taped_still s.tape (with_word_on s.tape (word_of v)) (goes_on s.kept.seen) h)

pub still_pushed_if : (b : Bool) (s : Standing) (v : Option Value) → goes_on s.kept.seen ≡ false → pushed_if b v s ≡ s
still_pushed_if true s v h = still_pushed s v h
still_pushed_if false s v h = refl

-- what leaves a stop as it was, from any place
abbrev pub Leaves : (Standing → Standing) → Type 0
Leaves m = (s : Standing) → goes_on s.kept.seen ≡ false → m s ≡ s

pub still_both : (m n : Standing → Standing) → Leaves m → Leaves n → Leaves (λ s. n (m s))
still_both m n p q s h = let e : m s ≡ s = p s h in q (m s) (subst (λ (z : Standing). goes_on z.kept.seen ≡ false) (sym e) h) ∙ e

-- ---- assignments and increments

pub still_code : (names : Names) (a : CodeTree) → Still (code_value names a)
still_code names (ring_code a) = still_to (ring_value told names a) (λ x. ran (plain x)) (still_ring names a) (λ x. still_ran (plain x))
still_code names (index_code i) = still_to (index_value told names i) (λ z. ran (Index z)) (still_index names i) (λ z. still_ran (Index z))

still_put_at : (accessed old : Bool) (v : Value) (p : ℕ) → Leaves (put_at accessed old v p)
still_put_at accessed old v p s h =
    let e : touched_if accessed p Write s ≡ s = still_touched s accessed p Write h in
    ap (λ (t : Standing). set_at (pushed_if old (content t.kept.cells p) t) p (Some v)) e
    ∙ ap (λ (t : Standing). set_at t p (Some v)) (still_pushed_if old s (content s.kept.cells p) h)
    ∙ still_set s p (Some v) h

pub still_put : (names : Names) (old : Bool) (target : SpotTree) (v : Value) (o : Option ℕ) → Leaves (put names old target v o)
still_put names old target v None s h = still_stopped (Bounds (spot_slot target)) s h
still_put names old target v (Some p) s h = still_put_at (is_accessed target) old (as_kind (slot_kind names (spot_slot target)) v) p s h

pub still_terms : (names : Names) (rs : List TermTree) (x : ℕ) → Still (terms_sum names rs x)
still_terms names [] x = still_ran x
still_terms names (r ∷ rs) x =
    still_to (ring_value told names r.1) (λ y. terms_sum names rs (if r.0 then ring_sub x y else ring_add x y)) (still_ring names r.1) (λ y. still_terms names rs (if r.0 then ring_sub x y else ring_add x y))

abbrev grown_by : ℕ → Value → Option Value
grown_by x v = Some (plain (ring_add (as_dual v).value x))

still_add_at : (accessed : Bool) (kind : AccessKind) (x slot p : ℕ) (v : Option Value) → Leaves (add_at accessed kind x slot p v)
still_add_at accessed kind x slot p None s h = still_stopped (Unset slot) s h
still_add_at accessed kind x slot p (Some v) s h = ap (λ (t : Standing). set_at t p (grown_by x v)) (still_touched s accessed p kind h) ∙ still_set s p (grown_by x v) h

pub still_add : (kind : AccessKind) (target : SpotTree) (x : ℕ) (o : Option ℕ) → Leaves (add kind target x o)
still_add kind target x None s h = still_stopped (Bounds (spot_slot target)) s h
still_add kind target x (Some p) s h = still_add_at (is_accessed target) kind x (spot_slot target) p (content s.kept.cells p) s h

-- ---- heads of loops

pub still_step : (names : Names) (o : Option IndexTree) → Still (step_number names o)
still_step names None = still_ran (pos 1)
still_step names (Some i) = still_index names i

pub still_counted : (a b c : ℤ) → Still (counted a b c)
still_counted a b c s h = by_test (int_eq c (pos 0))
  where
    none : IterationCount
    none = record { first = a; last = b; step = c; count = 0 }

    some : IterationCount
    some = record { first = a; last = b; step = c; count = clipped (int_div ((b -ℤ a) +ℤ c) c) }

    by_test : (z : Bool) → (if z then ran none (told.stopped s ZeroDivisor) else ran some s).state ≡ s
    by_test true = still_stopped ZeroDivisor s h
    by_test false = refl

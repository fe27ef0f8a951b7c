-- What holds of each run's log and outcome, put together from the parts of statements.
use Rattle.std.specs.Prelude.{ℕ, zero, suc, ◌+◌, ◌/◌, ◌%◌, ℤ, pos, Bool, true, false, if◌then◌else◌, List, [], ◌∷◌, Option, Some, None, Result, Ok, Err, slice_set}
use Rattle.fl_ast.specs.declared.directive.Directive.{Directive}
use Rattle.fl_ast.specs.Tree.{Expression, Designator, Statement, assignment, branch, loop, Statements, no_statements, statement, Arms, no_arms, arm}
use Rattle.fl_types.specs.declared.access.AccessKind.{AccessKind}
use Rattle.fl_types.specs.declared.access.AccessKind.TheVariants.{Write}
use Rattle.fl_types.specs.Increment.{Signed, increment_terms}
use Rattle.fl_types.specs.Nests.{Head, is_nest, further_head}
use Rattle.fl_types.specs.Accesses.{increment_kind}
use Rattle.meaning.specs.declared.value.Dual.{Dual}
use Rattle.meaning.specs.declared.value.Value.{Value}
use Rattle.meaning.specs.declared.value.Value.TheVariants.{Index, Ring}
use Rattle.meaning.specs.declared.value.Cause.{Cause}
use Rattle.meaning.specs.declared.value.TrapAt.{TrapAt}
use Rattle.meaning.specs.declared.value.IterationCount.{IterationCount}
use Rattle.meaning.specs.Values.{as_dual, as_kind, whole_numbers}
use Rattle.meaning.specs.Logs.{Log, silence, single, touched, sets, both, within, pushes, ends, traps, Passage, instance, right_side, rounds, turn, iteration, condition, taken, Traced, after, continuation, ◌>>=◌, inside, at_line, at_line_by}
use Rattle.meaning.specs.Sites.{Cells, with_tangent, Site, in_turn, in_iteration, place_of, kind_of}
use Rattle.meaning.specs.Expressions.{after_touch, content, value_of, values_of, holds}
use Rattle.meaning.specs.Statements.{Run, with_log, store_at, after_push, put, plain_assignment, terms_of, incremented_dual, increment_cell, increment_place, increment, assignment_by, turns_of, value_at, set_at, set_log_at, with_variable, turns, loop_words, private_names, with_all_unset, unset_log, private_words, one_turn, Heads, iterations, with_variables, words_of_all, further_turns, heads_of, one_iteration, run_turns, run_parallel, choice, in_arm, run, run_all, run_inner, run_within, run_arms}
use Rattle.meaning.proofs.Quiet.{IsQuiet, Quiet, value_quiet, values_quiet, holds_quiet, terms_quiet, turns_of_quiet, private_words_quiet, all_words_quiet}

-- what is said of the cells before a run, its log and its outcome, and goes with the parts of runs
pub record Folds (T : Cells → Log → Result Cells TrapAt → Type 0) : Type 0 where
  pub tells : (c : Cells) (l : Log) → IsQuiet l → T c l (Ok c)
  pub stores : (c : Cells) (p : ℕ) (v : Option Value) → T c (sets p (with_tangent 0 v)) (Ok (slice_set c p v))
  pub stops : (c : Cells) (l : Log) (t : TrapAt) → IsQuiet l → T c (both l (single (traps t))) (Err t)
  pub follows : (c : Cells) (l m : Log) (r : Result Cells TrapAt) → IsQuiet l → T c m r → T c (both l m) r
  pub joins : (c b : Cells) (l m : Log) (r : Result Cells TrapAt) → T c l (Ok b) → T b m r → T c (both l m) r
  pub encloses : (c : Cells) (p : Passage) (l : Log) (r : Result Cells TrapAt) → T c l r → T c (within p l) r

module _ (T : Cells → Log → Result Cells TrapAt → Type 0) (h : Folds T) where
  abbrev Holds : Cells → Traced TrapAt Cells → Type 0
  Holds c t = T c t.log t.out

  abbrev AlwaysHolds : Run → Type 0
  AlwaysHolds f = (c : Cells) → Holds c (f c)

  joined_holds : (c : Cells) (l : Log) (r : Result Cells TrapAt) (f : Run) → T c l r → AlwaysHolds f → Holds c (continuation l r f)
  joined_holds c l (Ok b) f g k = h.joins c b l (f b).log (f b).out g (k b)
  joined_holds c l (Err x) f g k = g

  then_holds : (c : Cells) (t : Traced TrapAt Cells) (f : Run) → Holds c t → AlwaysHolds f → Holds c (t >>= f)
  then_holds c t f g k = joined_holds c t.log t.out f g k

  -- ---- evaluations that may trap

  abbrev StartsWith : {A : Type 0} → Cells → Log → Result A TrapAt → Type 0
  StartsWith c l (Ok a) = IsQuiet l
  StartsWith c l (Err x) = T c l (Err x)

  abbrev Starts : {A : Type 0} → Cells → Traced TrapAt A → Type 0
  Starts c t = StartsWith c t.log t.out

  line_by_starts : {A : Type 0} (c : Cells) (line : ℕ) (l : Log) (r : Result A Cause) → IsQuiet l → Starts c (at_line_by line l r)
  line_by_starts c line l (Ok a) q = q
  line_by_starts c line l (Err x) q = h.stops c l (record { line = line; cause = x }) q

  line_starts : {A : Type 0} (c : Cells) (line : ℕ) (t : Traced Cause A) → Quiet t → Starts c (at_line line t)
  line_starts c line t q = line_by_starts c line t.log t.out q

  inside_by_starts : {A : Type 0} (c : Cells) (p : Passage) (l : Log) (r : Result A TrapAt) → StartsWith c l r → StartsWith c (within p l) r
  inside_by_starts c p l (Ok a) g = g
  inside_by_starts c p l (Err x) g = h.encloses c p l (Err x) g

  more_starts : {A : Type 0} (c : Cells) (l m : Log) (r : Result A TrapAt) → IsQuiet l → StartsWith c m r → StartsWith c (both l m) r
  more_starts c l m (Ok a) q g = (q, g)
  more_starts c l m (Err x) q g = h.follows c l m (Err x) q g

  joined_starts : {A B : Type 0} (c : Cells) (l : Log) (r : Result A TrapAt) (f : A → Traced TrapAt B) → StartsWith c l r → ((a : A) → Starts c (f a)) → Starts c (continuation l r f)
  joined_starts c l (Ok a) f g k = more_starts c l (f a).log (f a).out g (k a)
  joined_starts c l (Err x) f g k = g

  then_starts : {A B : Type 0} (c : Cells) (t : Traced TrapAt A) (f : A → Traced TrapAt B) → Starts c t → ((a : A) → Starts c (f a)) → Starts c (t >>= f)
  then_starts c t f g k = joined_starts c t.log t.out f g k

  joined_runs : {A : Type 0} (c : Cells) (l : Log) (r : Result A TrapAt) (f : A → Traced TrapAt Cells) → StartsWith c l r → ((a : A) → Holds c (f a)) → Holds c (continuation l r f)
  joined_runs c l (Ok a) f g k = h.follows c l (f a).log (f a).out g (k a)
  joined_runs c l (Err x) f g k = g

  -- an evaluation, and then a run
  starts_then : {A : Type 0} (c : Cells) (t : Traced TrapAt A) (f : A → Traced TrapAt Cells) → Starts c t → ((a : A) → Holds c (f a)) → Holds c (t >>= f)
  starts_then c t f g k = joined_runs c t.log t.out f g k

  -- ---- assignments

  abbrev AssignsBy : Cells → Log → Result Cells Cause → Type 0
  AssignsBy c l (Ok d) = T c l (Ok d)
  AssignsBy c l (Err x) = IsQuiet l

  abbrev Assigns : Cells → Traced Cause Cells → Type 0
  Assigns c t = AssignsBy c t.log t.out

  line_by_holds : (c : Cells) (line : ℕ) (l : Log) (r : Result Cells Cause) → AssignsBy c l r → Holds c (at_line_by line l r)
  line_by_holds c line l (Ok d) g = g
  line_by_holds c line l (Err x) g = h.stops c l (record { line = line; cause = x }) g

  more_assigns : (c : Cells) (l m : Log) (r : Result Cells Cause) → IsQuiet l → AssignsBy c m r → AssignsBy c (both l m) r
  more_assigns c l m (Ok d) q g = h.follows c l m (Ok d) q g
  more_assigns c l m (Err x) q g = (q, g)

  joined_assigns : {A : Type 0} (c : Cells) (l : Log) (r : Result A Cause) (f : A → Traced Cause Cells) → IsQuiet l → ((a : A) → Assigns c (f a)) → Assigns c (continuation l r f)
  joined_assigns c l (Ok a) f q k = more_assigns c l (f a).log (f a).out q (k a)
  joined_assigns c l (Err x) f q k = q

  then_assigns : {A : Type 0} (c : Cells) (t : Traced Cause A) (f : A → Traced Cause Cells) → Quiet t → ((a : A) → Assigns c (f a)) → Assigns c (t >>= f)
  then_assigns c t f q k = joined_assigns c t.log t.out f q k

  touching_assigns : (s : Site) (x : List ℕ) (p : ℕ) (k : AccessKind) (c : Cells) (t : Traced Cause Cells) → Assigns c t → Assigns c (after_touch s x p k t)
  touching_assigns s x p k c t g = by_test (s.accessed x)
    where
      by_test : (b : Bool) → Assigns c (if b then after (touched p k) t else t)
      by_test true = more_assigns c (touched p k) t.log t.out tt g
      by_test false = g

  saving_assigns : (s : Site) (x : List ℕ) (old : Option Value) (c : Cells) (t : Traced Cause Cells) → Assigns c t → Assigns c (after_push s x old t)
  saving_assigns s x old c t g = by_test (s.pushed x)
    where
      by_test : (b : Bool) → Assigns c (if b then after (single (pushes (with_tangent 0 old))) t else t)
      by_test true = more_assigns c (single (pushes (with_tangent 0 old))) t.log t.out tt g
      by_test false = g

  put_assigns : (s : Site) (c : Cells) (x : List ℕ) (v : Value) (o : Option ℕ) → Assigns c (put s c x v o)
  put_assigns s c x v None = tt
  put_assigns s c x v (Some p) =
      let w : Value = as_kind (kind_of s x) v in
      touching_assigns s x p Write c (after_push s x (content c p) (store_at c p w)) (saving_assigns s x (content c p) c (store_at c p w) (h.stores c p (Some w)))

  plain_assigns : (s : Site) (c : Cells) (p : Designator) (a : Expression) → Assigns c (plain_assignment s c p a)
  plain_assigns s c p a =
      then_assigns c (inside (right_side p.name) (value_of a s c)) _ (value_quiet a s c)
      (λ v. then_assigns c (values_of p.subscripts s c) _ (values_quiet p.subscripts s c) (λ vs. put_assigns s c p.name v (place_of s p.name (whole_numbers vs))))

  cell_assigns : (s : Site) (c : Cells) (x : List ℕ) (k : AccessKind) (ds : List (Bool × Dual)) (p : ℕ) (o : Option Value) → Assigns c (increment_cell s c x k ds p o)
  cell_assigns s c x k ds p None = tt
  cell_assigns s c x k ds p (Some v) =
      let w : Value = Ring (incremented_dual ds (as_dual v)) in
      touching_assigns s x p k c (store_at c p w) (h.stores c p (Some w))

  place_assigns : (s : Site) (c : Cells) (x : List ℕ) (k : AccessKind) (ds : List (Bool × Dual)) (o : Option ℕ) → Assigns c (increment_place s c x k ds o)
  place_assigns s c x k ds None = tt
  place_assigns s c x k ds (Some p) = cell_assigns s c x k ds p (content c p)

  increment_assigns : (s : Site) (c : Cells) (p : Designator) (rs : List Signed) (k : AccessKind) → Assigns c (increment s c p rs k)
  increment_assigns s c p rs k =
      then_assigns c (inside (right_side p.name) (terms_of rs s c)) _ (terms_quiet rs s c)
      (λ ds. then_assigns c (values_of p.subscripts s c) _ (values_quiet p.subscripts s c) (λ vs. place_assigns s c p.name k ds (place_of s p.name (whole_numbers vs))))

  assignment_assigns : (s : Site) (c : Cells) (atomic : Bool) (p : Designator) (a : Expression) (o : Option (List Signed)) → Assigns c (assignment_by s c atomic p a o)
  assignment_assigns s c atomic p a None = plain_assigns s c p a
  assignment_assigns s c atomic p a (Some rs) = increment_assigns s c p rs (increment_kind atomic (s.pluses p.name))

  -- ---- loops

  noted_holds : (l : Log) → IsQuiet l → AlwaysHolds (with_log l)
  noted_holds l q c = h.tells c l q

  turns_hold : (n : ℕ) (f : ℕ → Run) → ((k : ℕ) → AlwaysHolds (f k)) → AlwaysHolds (turns n f)
  turns_hold zero f g c = h.tells c silence tt
  turns_hold (suc n) f g c = then_holds c (turns n f c) (f n) (turns_hold n f g c) (g n)

  set_holds : (o : Option ℕ) (v : Option Value) (c : Cells) → T c (set_log_at o v) (Ok (set_at o v c))
  set_holds None v c = h.tells c silence tt
  set_holds (Some p) v c = h.stores c p v

  variable_holds : (s : Site) (x : List ℕ) (z : ℤ) (f : Run) → AlwaysHolds f → AlwaysHolds (with_variable s x z f)
  variable_holds s x z f g c =
      let o : Option ℕ = place_of s x [] in
      let b : Cells = set_at o (Some (Index z)) c in
      h.joins c b (set_log_at o (Some (Index z))) (f b).log (f b).out (set_holds o (Some (Index z)) c) (g b)

  unset_holds : (s : Site) (xs : List (List ℕ)) (c : Cells) → T c (unset_log s xs) (Ok (with_all_unset s xs c))
  unset_holds s [] c = h.tells c silence tt
  unset_holds s (x ∷ xs) c =
      let b : Cells = set_at (place_of s x []) None c in
      h.joins c b (set_log_at (place_of s x []) None) (unset_log s xs) (Ok (with_all_unset s xs b)) (set_holds (place_of s x []) None c) (unset_holds s xs b)

  variables_hold : (s : Site) (hs : Heads) (k : ℕ) (f : Run) → AlwaysHolds f → AlwaysHolds (with_variables s hs k f)
  variables_hold s [] k f g = g
  variables_hold s (x ∷ []) k f g = variable_holds s x.0 (value_at x.1 k) f g
  variables_hold s (x ∷ y ∷ hs) k f g =
      variable_holds s x.0 (value_at x.1 (k / iterations (y ∷ hs))) (with_variables s (y ∷ hs) (k % iterations (y ∷ hs)) f) (variables_hold s (y ∷ hs) (k % iterations (y ∷ hs)) f g)

  turn_holds : (s : Site) (var : List ℕ) (t : IterationCount) (body : Site → Run) → ((u : Site) → AlwaysHolds (body u)) → (k : ℕ) → AlwaysHolds (one_turn s var t body k)
  turn_holds s var t body g k c =
      let r : Traced TrapAt Cells = with_variable s var (value_at t k) (body (in_turn s var)) c in
      h.encloses c (turn k) r.log r.out (variable_holds s var (value_at t k) (body (in_turn s var)) (g (in_turn s var)) c)

  run_turns_holds : (var : List ℕ) (body : Site → Run) → ((u : Site) → AlwaysHolds (body u)) → (s : Site) (t : IterationCount) → AlwaysHolds (run_turns var body s t)
  run_turns_holds var body g s t c =
      then_holds c (turns t.count (one_turn s var t body) c) (with_log (loop_words t)) (turns_hold t.count (one_turn s var t body) (turn_holds s var t body g) c)
      (noted_holds (loop_words t) (tt, (tt, tt)))

  -- ---- parallel loops

  iteration_holds : (s : Site) (directive : Directive) (var : List ℕ) (hs : Heads) (tree : Statements) (body : Site → Run) → ((u : Site) → AlwaysHolds (body u)) → (k : ℕ)
      → AlwaysHolds (one_iteration s directive var hs tree body k)
  iteration_holds s directive var hs tree body g k c =
      let names : List (List ℕ) = private_names s directive var tree in
      let a : Cells = with_all_unset s names c in
      let r : Traced TrapAt Cells = with_variables s hs k (body (in_iteration s directive var tree)) a in
      let all : Traced TrapAt Cells = after (unset_log s names) r >>= (λ b. with_log (private_words s tree names b) b) in
      h.encloses c (iteration k) all.log all.out
      (then_holds c (after (unset_log s names) r) (λ b. with_log (private_words s tree names b) b)
      (h.joins c a (unset_log s names) r.log r.out (unset_holds s names c) (variables_hold s hs k (body (in_iteration s directive var tree)) (g (in_iteration s directive var tree)) a))
      (λ b. h.tells b (private_words s tree names b) (private_words_quiet s tree names b)))

  parallel_holds : (line : ℕ) (directive : Directive) (var : List ℕ) (tree : Statements) (body : Site → Run) → ((u : Site) → AlwaysHolds (body u)) → (s : Site) (hs : Heads)
      → AlwaysHolds (run_parallel line directive var tree body s hs)
  parallel_holds line directive var tree body g s hs c =
      let r : Traced TrapAt Cells = turns (iterations hs) (one_iteration s directive var hs tree body) c in
      then_holds c (inside rounds r) (with_log (both (single (ends line)) (words_of_all hs)))
      (h.encloses c rounds r.log r.out (turns_hold (iterations hs) (one_iteration s directive var hs tree body) (iteration_holds s directive var hs tree body g) c))
      (noted_holds (both (single (ends line)) (words_of_all hs)) (tt, all_words_quiet hs))

  further_starts : (o : Option Head) (s : Site) (cells : Cells) → Starts cells (further_turns o s cells)
  further_starts None s cells = tt
  further_starts (Some x) s cells =
      then_starts cells (at_line x.line (turns_of x.first x.last x.step s cells)) _
      (line_starts cells x.line (turns_of x.first x.last x.step s cells) (turns_of_quiet x.first x.last x.step s cells)) (λ t. tt)

  heads_start : (x : Head) (o : Option Head) (s : Site) (cells : Cells) → Starts cells (heads_of x o s cells)
  heads_start x o s cells =
      then_starts cells (at_line x.line (turns_of x.first x.last x.step s cells)) _
      (line_starts cells x.line (turns_of x.first x.last x.step s cells) (turns_of_quiet x.first x.last x.step s cells))
      (λ t. then_starts cells (further_turns o s cells) _ (further_starts o s cells) (λ hs. tt))

  -- ---- statements

  choice_holds : (b : Bool) (f g : Run) → AlwaysHolds f → AlwaysHolds g → AlwaysHolds (choice b f g)
  choice_holds true f g j k = j
  choice_holds false f g j k = k

  either_holds : (b : Bool) (f g : Site → Run) → ((s : Site) → AlwaysHolds (f s)) → ((s : Site) → AlwaysHolds (g s)) → (s : Site) → AlwaysHolds ((if b then f else g) s)
  either_holds true f g j k s = j s
  either_holds false f g j k s = k s

  in_arm_holds : (m : ℕ) (f : Run) → AlwaysHolds f → AlwaysHolds (in_arm m f)
  in_arm_holds m f g c =
      let l : Log = single (pushes (Some (Index (pos m)))) in
      let r : Traced TrapAt Cells = f c >>= with_log l in
      h.encloses c (taken m) r.log r.out (then_holds c (f c) (with_log l) (g c) (noted_holds l tt))

  mutual
    run_holds : (b : Statement) (s : Site) → AlwaysHolds (run b s)
    run_holds (assignment line atomic p a) s c =
        let t : Traced Cause Cells = assignment_by s c atomic p a (increment_terms s.ring p a) in
        h.encloses c instance (at_line line t).log (at_line line t).out (line_by_holds c line t.log t.out (assignment_assigns s c atomic p a (increment_terms s.ring p a)))
    run_holds (branch line arms other) s c =
        let r : Traced TrapAt Cells = run_arms arms line 0 (run_all other) s c in
        h.encloses c instance r.log r.out (arms_hold arms line 0 (run_all other) (λ u. run_all_holds other u) s c)
    run_holds (loop line number None var first last step body) s c =
        let t : Traced TrapAt IterationCount = at_line line (turns_of first last step s c) in
        let f : IterationCount → Traced TrapAt Cells = λ i. run_turns var (run_all body) s i c in
        h.encloses c instance (t >>= f).log (t >>= f).out
        (starts_then c t f (line_starts c line (turns_of first last step s c) (turns_of_quiet first last step s c)) (λ i. run_turns_holds var (run_all body) (λ u. run_all_holds body u) s i c))
    run_holds (loop line number (Some directive) var first last step body) s c =
        let x : Head = record { line = line; var = var; first = first; last = last; step = step } in
        let inner : Site → Run = if is_nest directive body then run_inner body else run_all body in
        let t : Traced TrapAt Heads = heads_of x (further_head directive body) s c in
        let f : Heads → Traced TrapAt Cells = λ hs. run_parallel line directive var body inner s hs c in
        h.encloses c instance (t >>= f).log (t >>= f).out
        (starts_then c t f (heads_start x (further_head directive body) s c)
        (λ hs. parallel_holds line directive var body inner
        (either_holds (is_nest directive body) (run_inner body) (run_all body) (λ u. run_inner_holds body u) (λ u. run_all_holds body u)) s hs c))

    run_inner_holds : (bs : Statements) (s : Site) → AlwaysHolds (run_inner bs s)
    run_inner_holds no_statements s c = h.tells c silence tt
    run_inner_holds (statement b bs) s c = run_within_holds b s c

    run_within_holds : (b : Statement) (s : Site) → AlwaysHolds (run_within b s)
    run_within_holds (assignment line atomic p a) s c = h.tells c silence tt
    run_within_holds (branch line arms other) s c = h.tells c silence tt
    run_within_holds (loop line number directive var first last step body) s c = run_all_holds body s c

    pub run_all_holds : (bs : Statements) (s : Site) → AlwaysHolds (run_all bs s)
    run_all_holds no_statements s c = h.tells c silence tt
    run_all_holds (statement b bs) s c = then_holds c (run b s c) (run_all bs s) (run_holds b s c) (λ a. run_all_holds bs s a)

    arms_hold : (arms : Arms) (line m : ℕ) (other : Site → Run) → ((u : Site) → AlwaysHolds (other u)) → (s : Site) → AlwaysHolds (run_arms arms line m other s)
    arms_hold no_arms line m other g s c = in_arm_holds m (other s) (g s) c
    arms_hold (arm test body arms) line m other g s c =
        let t : Traced TrapAt Bool = at_line line (holds test s c) in
        starts_then c (inside (condition m) t) (λ b. choice b (in_arm m (run_all body s)) (run_arms arms line (m + 1) other s) c)
        (inside_by_starts c (condition m) t.log t.out (line_starts c line (holds test s c) (holds_quiet test s c)))
        (λ b. choice_holds b (in_arm m (run_all body s)) (run_arms arms line (m + 1) other s) (in_arm_holds m (run_all body s) (λ a. run_all_holds body s a))
        (λ a. arms_hold arms line (m + 1) other g s a) c)

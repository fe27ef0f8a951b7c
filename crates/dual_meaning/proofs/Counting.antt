-- What is seen of a run at any site is what the tree gives at a site with the same keys, kinds and declared names.
use Rattle.std.specs.Prelude.{◌≡◌, ℕ, zero, suc, ◌+◌, ◌/◌, ◌%◌, ℤ, Bool, true, false, if◌then◌else◌, List, [], ◌∷◌, filter, Option, Some, None, Result, Ok, Err, refl}
use Rattle.std.proofs.Common.{ap, sym, ◌∙◌}
use Rattle.fl_ast.specs.declared.directive.Directive.{Directive}
use Rattle.fl_ast.specs.Tree.{Statement, assignment, branch, loop, Statements, no_statements, statement, Arms, no_arms, arm}
use Rattle.fl_types.specs.Increment.{rest_terms, increment_terms}
use Rattle.fl_types.specs.Nests.{Head, is_nest, further_head}
use Rattle.fl_types.specs.Sharing.{sharing_in, is_private}
use Rattle.meaning.specs.declared.value.Cause.{Cause}
use Rattle.meaning.specs.declared.value.TrapAt.{TrapAt}
use Rattle.meaning.specs.declared.value.IterationCount.{IterationCount}
use Rattle.meaning.specs.declared.value.Value.TheVariants.{Index}
use Rattle.meaning.specs.Logs.{Log, single, both, ends, traps, Traced, pure, after, continuation, ◌>>=◌, inside, instance, turn, iteration, condition, at_line, at_line_by, rounds}
use Rattle.meaning.specs.Sites.{Cells, Site, in_turn, in_iteration, place_of}
use Rattle.meaning.specs.Expressions.{holds}
use Rattle.meaning.specs.Statements.{Run, with_log, assignment_by, turns_of, value_at, set_at, set_log_at, with_variable, turns, loop_words, private_names, with_all_unset, unset_log, private_words, one_turn, Heads, iterations, with_variables, words_of_all, further_turns, heads_of, one_iteration, run_turns, run_parallel, choice, in_arm, run, run_all, run_inner, run_within, run_arms}
use Rattle.meaning.specs.Reached.{cells_with, cells_with_heads}
use Rattle.meaning.specs.Stops.{Stop}
use Rattle.meaning.proofs.ByKeys.{holds_agree}
use Rattle.meaning.proofs.RunsByKeys.{Alike, same_place, assigned_agree, turns_of_agree}
use Rattle.dual_meaning.specs.Counted.{Counted, going, followed, begun, seen, ended, counted, CountedRun, lined, counted_turns, counted_turn, counted_iteration, headed, turns_at, counted_heads, chosen, counted_begun, counted_run, counted_all, counted_inner, counted_within, counted_arms}
use Rattle.dual_meaning.proofs.Unseen.{IsUnseen, Unseen, both_unseen, holds_unseen, turns_of_unseen, assigned_unseen, set_unseen, unset_unseen, private_words_unseen, words_unseen, all_words_unseen}

pub record Same (s t : Site) : Type 0 where
  pub alike : Alike s t
  pub declared : s.declared ≡ t.declared

-- ---- the parts of a run

going_same : {A B : Type 0} (r : Result A Stop) (n : ℕ) (f g : A → ℕ → Counted B) → ((a : A) (m : ℕ) → f a m ≡ g a m) → going r n f ≡ going r n g
going_same (Ok a) n f g h = h a n
going_same (Err s) n f g h = refl

pub followed_same : {A B : Type 0} (t : Counted A) (f g : A → ℕ → Counted B) → ((a : A) (m : ℕ) → f a m ≡ g a m) → followed t f ≡ followed t g
followed_same t f g h = going_same t.0 t.1 f g h

pub begun_same : {A : Type 0} (n : ℕ) (f g : ℕ → Counted A) → ((m : ℕ) → f m ≡ g m) → begun n f ≡ begun n g
begun_same zero f g h = refl
begun_same (suc n) f g h = h n

going_twice : {A B C : Type 0} (r : Result A Stop) (n : ℕ) (f : A → ℕ → Counted B) (g : B → ℕ → Counted C) → followed (going r n f) g ≡ going r n (λ a m. followed (f a m) g)
going_twice (Ok a) n f g = refl
going_twice (Err s) n f g = refl

joined_counted : {A B : Type 0} (l : Log) (r : Result A TrapAt) (f : A → Traced TrapAt B) (n : ℕ)
    → counted (continuation l r f) n ≡ followed (followed (seen l n) (λ u m. ended r m)) (λ a. counted (f a))
joined_counted l (Ok a) f n =
    going_twice (seen l n).0 (seen l n).1 (λ u m. seen (f a).log m) (λ u m. ended (f a).out m) ∙ sym (going_twice (seen l n).0 (seen l n).1 (λ u m. ended (Ok a) m) (λ b. counted (f b)))
joined_counted {A} l (Err x) f n = sym (going_twice {A = Unit {0}} {B = A} (seen l n).0 (seen l n).1 (λ u m. ended (Err x) m) (λ b. counted (f b)))

pub then_counted : {A B : Type 0} (t : Traced TrapAt A) (f : A → Traced TrapAt B) (n : ℕ) → counted (t >>= f) n ≡ followed (counted t n) (λ a. counted (f a))
then_counted t f n = joined_counted t.log t.out f n

-- where the first part and each second one are known
then_known : {A B : Type 0} (t : Traced TrapAt A) (f : A → Traced TrapAt B) (n : ℕ) (r : Counted A) (g : A → ℕ → Counted B) → counted t n ≡ r → ((a : A) (m : ℕ) → counted (f a) m ≡ g a m)
    → counted (t >>= f) n ≡ followed r g
then_known t f n r g e h = then_counted t f n ∙ ap (λ u. followed u (λ a. counted (f a))) e ∙ followed_same r (λ a. counted (f a)) g h

pub after_counted : {A : Type 0} (l : Log) (t : Traced TrapAt A) (n : ℕ) → IsUnseen l → counted (after l t) n ≡ counted t n
after_counted l t n h = ap (λ u. followed (followed u (λ v m. seen t.log m)) (λ v m. ended t.out m)) (h n)

going_on : {A : Type 0} (r : Result A Stop) (n : ℕ) → going r n (λ a m. (Ok a, m)) ≡ (r, n)
going_on (Ok a) n = refl
going_on (Err s) n = refl

-- with a note that nothing is seen of
noted_counted : (t : Traced TrapAt Cells) (f : Run) (n : ℕ) → ((c : Cells) (m : ℕ) → counted (f c) m ≡ (Ok c, m)) → counted (t >>= f) n ≡ counted t n
noted_counted t f n h = then_known t f n (counted t n) (λ c m. (Ok c, m)) refl h ∙ going_on (counted t n).0 (counted t n).1

log_counted : (l : Log) → IsUnseen l → (c : Cells) (m : ℕ) → counted (with_log l c) m ≡ (Ok c, m)
log_counted l h c m = ap (λ u. followed u (λ v k. ended (Ok c) k)) (h m)

instance_counted : {A : Type 0} (t : Traced TrapAt A) (n : ℕ) → counted (inside instance t) n ≡ begun n (counted t)
instance_counted t zero = refl
instance_counted t (suc n) = refl

turn_counted : {A : Type 0} (k : ℕ) (t : Traced TrapAt A) (n : ℕ) → counted (inside (turn k) t) n ≡ begun n (counted t)
turn_counted k t zero = refl
turn_counted k t (suc n) = refl

iteration_counted : {A : Type 0} (k : ℕ) (t : Traced TrapAt A) (n : ℕ) → counted (inside (iteration k) t) n ≡ begun n (counted t)
iteration_counted k t zero = refl
iteration_counted k t (suc n) = refl

line_by_counted : {A : Type 0} (line : ℕ) (l : Log) (r : Result A Cause) (n : ℕ) → IsUnseen l → counted (at_line_by line l r) n ≡ ended (lined line r) n
line_by_counted line l (Ok a) n h = ap (λ u. followed u (λ v m. ended (Ok a) m)) (h n)
line_by_counted {A} line l (Err c) n h =
    let x : TrapAt = record { line = line; cause = c } in
    ap (λ u. followed (followed u (λ v m. seen (single (traps x)) m)) (λ v m. ended {A = A} (Err x) m)) (h n)

line_counted : {A : Type 0} (line : ℕ) (t : Traced Cause A) (n : ℕ) → Unseen t → counted (at_line line t) n ≡ ended (lined line t.out) n
line_counted line t n h = line_by_counted line t.log t.out n h

turns_counted : (n : ℕ) (f : ℕ → Run) (g : ℕ → CountedRun) → ((k : ℕ) (c : Cells) (m : ℕ) → counted (f k c) m ≡ g k c m) → (c : Cells) (m : ℕ) → counted (turns n f c) m ≡ counted_turns n g c m
turns_counted zero f g h c m = refl
turns_counted (suc n) f g h c m = then_known (turns n f c) (f n) m (counted_turns n g c m) (g n) (turns_counted n f g h c m) (h n)

-- ---- variables and private names

variable_counted : (s t : Site) (x : List ℕ) (z : ℤ) (f : Run) (c : Cells) (m : ℕ) → Same s t → counted (with_variable s x z f c) m ≡ counted (f (cells_with t x z c)) m
variable_counted s t x z f c m h =
    after_counted (set_log_at (place_of s x []) (Some (Index z))) (f (set_at (place_of s x []) (Some (Index z)) c)) m (set_unseen (place_of s x []) (Some (Index z)))
    ∙ ap (λ o. counted (f (set_at o (Some (Index z)) c)) m) (same_place s t x [] h.alike)

variables_counted : (s t : Site) (hs : Heads) (k : ℕ) (f : Run) (c : Cells) (m : ℕ) → Same s t → counted (with_variables s hs k f c) m ≡ counted (f (cells_with_heads t hs k c)) m
variables_counted s t [] k f c m h = refl
variables_counted s t (x ∷ []) k f c m h = variable_counted s t x.0 (value_at x.1 k) f c m h
variables_counted s t (x ∷ y ∷ hs) k f c m h =
    variable_counted s t x.0 (value_at x.1 (k / iterations (y ∷ hs))) (with_variables s (y ∷ hs) (k % iterations (y ∷ hs)) f) c m h
    ∙ variables_counted s t (y ∷ hs) (k % iterations (y ∷ hs)) f (cells_with t x.0 (value_at x.1 (k / iterations (y ∷ hs))) c) m h

unset_same : (s t : Site) (xs : List (List ℕ)) (c : Cells) → Same s t → with_all_unset s xs c ≡ with_all_unset t xs c
unset_same s t [] c h = refl
unset_same s t (x ∷ xs) c h = ap (λ o. with_all_unset s xs (set_at o None c)) (same_place s t x [] h.alike) ∙ unset_same s t xs (set_at (place_of t x []) None c) h

names_same : (s t : Site) (directive : Directive) (var : List ℕ) (tree : Statements) → Same s t → private_names s directive var tree ≡ private_names t directive var tree
names_same s t directive var tree h = ap (λ (xs : List (List ℕ)). filter (λ x. is_private (sharing_in var directive tree x)) xs) h.declared

turned : (s t : Site) (var : List ℕ) → Same s t → Same (in_turn s var) t
turned s t var h = record { alike = record { keys = h.alike.keys; width = h.alike.width; ring = h.alike.ring }; declared = h.declared }

iterated : (s t : Site) (directive : Directive) (var : List ℕ) (tree : Statements) → Same s t → Same (in_iteration s directive var tree) t
iterated s t directive var tree h = record { alike = record { keys = h.alike.keys; width = h.alike.width; ring = h.alike.ring }; declared = h.declared }

abbrev RunCounts : Run → CountedRun → Type 0
RunCounts f g = (c : Cells) (m : ℕ) → counted (f c) m ≡ g c m

one_turn_counted : (s t : Site) (var : List ℕ) (u : IterationCount) (f : Site → Run) (g : CountedRun) → Same s t → RunCounts (f (in_turn s var)) g
    → (k : ℕ) → RunCounts (one_turn s var u f k) (counted_turn t var u g k)
one_turn_counted s t var u f g h e k c m =
    turn_counted k (with_variable s var (value_at u k) (f (in_turn s var)) c) m
    ∙ begun_same m (counted (with_variable s var (value_at u k) (f (in_turn s var)) c)) (g (cells_with t var (value_at u k) c))
    (λ j. variable_counted s t var (value_at u k) (f (in_turn s var)) c j h ∙ e (cells_with t var (value_at u k) c) j)

one_iteration_counted : (s t : Site) (directive : Directive) (var : List ℕ) (hs : Heads) (tree : Statements) (f : Site → Run) (g : CountedRun) → Same s t
    → RunCounts (f (in_iteration s directive var tree)) g → (k : ℕ)
    → RunCounts (one_iteration s directive var hs tree f k) (counted_iteration t (private_names t directive var tree) hs g k)
one_iteration_counted s t directive var hs tree f g h e k c m =
    let ms : List (List ℕ) = private_names s directive var tree in
    let ns : List (List ℕ) = private_names t directive var tree in
    let p : Run = with_variables s hs k (f (in_iteration s directive var tree)) in
    let first : Traced TrapAt Cells = after (unset_log s ms) (p (with_all_unset s ms c)) in
    let last : Run = λ d. with_log (private_words s tree ms d) d in
    iteration_counted k (first >>= last) m
    ∙ begun_same m (counted (first >>= last)) (g (cells_with_heads t hs k (with_all_unset t ns c)))
    (λ j. noted_counted first last j (λ d i. log_counted (private_words s tree ms d) (private_words_unseen s tree ms d) d i)
    ∙ after_counted (unset_log s ms) (p (with_all_unset s ms c)) j (unset_unseen s ms)
    ∙ ap (λ b. counted (p b) j) (ap (λ xs. with_all_unset s xs c) (names_same s t directive var tree h) ∙ unset_same s t ns c h)
    ∙ variables_counted s t hs k (f (in_iteration s directive var tree)) (with_all_unset t ns c) j h
    ∙ e (cells_with_heads t hs k (with_all_unset t ns c)) j)

-- ---- bounds

bounds_counted : (s t : Site) (x : Head) (c : Cells) (n : ℕ) → Same s t → counted (at_line x.line (turns_of x.first x.last x.step s c)) n ≡ ended (turns_at x t c) n
bounds_counted s t x c n h =
    line_counted x.line (turns_of x.first x.last x.step s c) n (turns_of_unseen x.first x.last x.step s c)
    ∙ ap (λ r. ended (lined x.line r) n) (turns_of_agree s t c x.first x.last x.step h.alike)

headed_alone : (x : List ℕ) (r : Result IterationCount TrapAt) (n : ℕ) → followed (ended r n) (λ u m. (Ok ((x, u) ∷ []), m)) ≡ ended (headed x r (Ok [])) n
headed_alone x (Ok u) n = refl
headed_alone x (Err e) n = refl

headed_more : (x : List ℕ) (r : Result IterationCount TrapAt) (q : Result Heads TrapAt) (n : ℕ) → followed (ended r n) (λ u m. followed (ended q m) (λ hs j. (Ok ((x, u) ∷ hs), j))) ≡ ended (headed x r q) n
headed_more x (Ok u) (Ok hs) n = refl
headed_more x (Ok u) (Err e) n = refl
headed_more x (Err e) q n = refl

heads_counted : (s t : Site) (x : Head) (o : Option Head) (c : Cells) (n : ℕ) → Same s t → counted (heads_of x o s c) n ≡ ended (counted_heads x o t c) n
heads_counted s t x None c n h =
    then_known (at_line x.line (turns_of x.first x.last x.step s c)) (λ u. further_turns None s c >>= (λ hs. pure ((x.var, u) ∷ hs))) n (ended (turns_at x t c) n) (λ u m. (Ok ((x.var, u) ∷ []), m))
    (bounds_counted s t x c n h) (λ u m. refl)
    ∙ headed_alone x.var (turns_at x t c) n
heads_counted s t x (Some y) c n h =
    then_known (at_line x.line (turns_of x.first x.last x.step s c)) (λ u. further_turns (Some y) s c >>= (λ hs. pure ((x.var, u) ∷ hs))) n (ended (turns_at x t c) n)
    (λ u m. followed (ended (headed y.var (turns_at y t c) (Ok [])) m) (λ hs j. (Ok ((x.var, u) ∷ hs), j)))
    (bounds_counted s t x c n h)
    (λ u m. then_known (further_turns (Some y) s c) (λ hs. pure ((x.var, u) ∷ hs)) m (ended (headed y.var (turns_at y t c) (Ok [])) m) (λ hs j. (Ok ((x.var, u) ∷ hs), j))
    (then_known (at_line y.line (turns_of y.first y.last y.step s c)) (λ v. pure ((y.var, v) ∷ [])) m (ended (turns_at y t c) m) (λ v j. (Ok ((y.var, v) ∷ []), j)) (bounds_counted s t y c m h) (λ v j. refl)
    ∙ headed_alone y.var (turns_at y t c) m)
    (λ hs j. refl))
    ∙ headed_more x.var (turns_at x t c) (headed y.var (turns_at y t c) (Ok [])) n

-- ---- statements

arm_counted : (m : ℕ) (f : Run) (g : CountedRun) → RunCounts f g → RunCounts (in_arm m f) g
arm_counted m f g e c n = noted_counted (f c) _ n (λ d j. refl) ∙ e c n

either_counted : (b : Bool) (f g : Site → Run) (p q : CountedRun) (u : Site) → RunCounts (f u) p → RunCounts (g u) q → RunCounts ((if b then f else g) u) (chosen b p q)
either_counted true f g p q u h k = h
either_counted false f g p q u h k = k

choice_counted : (b : Bool) (f g : Run) (p q : CountedRun) → RunCounts f p → RunCounts g q → RunCounts (choice b f g) (chosen b p q)
choice_counted true f g p q h k = h
choice_counted false f g p q h k = k

mutual
  pub run_counted : (b : Statement) (s t : Site) → Same s t → RunCounts (run b s) (counted_run b t)
  run_counted (assignment line atomic p e) s t h c n =
      let a = assignment_by s c atomic p e (increment_terms s.ring p e) in
      instance_counted (at_line line a) n
      ∙ begun_same n (counted (at_line line a)) (ended (lined line (assignment_by t c atomic p e (increment_terms t.ring p e)).out))
      (λ m. line_counted line a m (assigned_unseen s c atomic p e (increment_terms s.ring p e))
      ∙ ap (λ r. ended (lined line r) m)
      (ap (λ b. (assignment_by s c atomic p e (if b then rest_terms p e else None)).out) (h.alike.ring p.name) ∙ assigned_agree s t c atomic p e (increment_terms t.ring p e) h.alike))
  run_counted (branch line arms other) s t h c n =
      instance_counted (run_arms arms line 0 (run_all other) s c) n
      ∙ begun_same n (counted (run_arms arms line 0 (run_all other) s c)) (counted_arms arms line (counted_all other t) t c)
      (λ m. arms_counted arms line 0 (run_all other) (counted_all other t) s t (run_all_counted other s t h) h c m)
  run_counted (loop line number None var first last step body) s t h c n =
      let x : Head = record { line = line; var = var; first = first; last = last; step = step } in
      let f : IterationCount → Traced TrapAt Cells = λ u. run_turns var (run_all body) s u c in
      let g : IterationCount → ℕ → Counted Cells = λ u. counted_turns u.count (counted_turn t var u (counted_all body t)) c in
      instance_counted (at_line line (turns_of first last step s c) >>= f) n
      ∙ begun_same n (counted (at_line line (turns_of first last step s c) >>= f)) (λ m. followed (ended (turns_at x t c) m) g)
      (λ m. then_known (at_line line (turns_of first last step s c)) f m (ended (turns_at x t c) m) g (bounds_counted s t x c m h)
      (λ u j. noted_counted (turns u.count (one_turn s var u (run_all body)) c) (with_log (loop_words u)) j (λ d i. log_counted (loop_words u) (words_unseen u) d i)
      ∙ turns_counted u.count (one_turn s var u (run_all body)) (counted_turn t var u (counted_all body t))
      (one_turn_counted s t var u (run_all body) (counted_all body t) h (run_all_counted body (in_turn s var) t (turned s t var h))) c j))
  run_counted (loop line number (Some directive) var first last step body) s t h c n =
      let x : Head = record { line = line; var = var; first = first; last = last; step = step } in
      let o : Option Head = further_head directive body in
      let inner : Site → Run = if is_nest directive body then run_inner body else run_all body in
      let plain : CountedRun = chosen (is_nest directive body) (counted_inner body t) (counted_all body t) in
      let f : Heads → Traced TrapAt Cells = λ hs. run_parallel line directive var body inner s hs c in
      let g : Heads → ℕ → Counted Cells = λ hs. counted_turns (iterations hs) (counted_iteration t (private_names t directive var body) hs plain) c in
      let u : Site = in_iteration s directive var body in
      let same : Same u t = iterated s t directive var body h in
      instance_counted (heads_of x o s c >>= f) n
      ∙ begun_same n (counted (heads_of x o s c >>= f)) (λ m. followed (ended (counted_heads x o t c) m) g)
      (λ m. then_known (heads_of x o s c) f m (ended (counted_heads x o t c) m) g (heads_counted s t x o c m h)
      (λ hs j. noted_counted (inside rounds (turns (iterations hs) (one_iteration s directive var hs body inner) c)) _ j
      (λ d i. log_counted (both (single (ends line)) (words_of_all hs)) (both_unseen (single (ends line)) (words_of_all hs) (λ q. refl) (all_words_unseen hs)) d i)
      ∙ turns_counted (iterations hs) (one_iteration s directive var hs body inner) (counted_iteration t (private_names t directive var body) hs plain)
      (one_iteration_counted s t directive var hs body inner plain h
      (either_counted (is_nest directive body) (run_inner body) (run_all body) (counted_inner body t) (counted_all body t) u (run_inner_counted body u t same) (run_all_counted body u t same))) c j))

  pub run_all_counted : (b : Statements) (s t : Site) → Same s t → RunCounts (run_all b s) (counted_all b t)
  run_all_counted no_statements s t h c n = refl
  run_all_counted (statement b bs) s t h c n =
      then_known (run b s c) (run_all bs s) n (begun n (counted_begun b t c)) (counted_all bs t) (run_counted b s t h c n) (run_all_counted bs s t h)

  run_inner_counted : (b : Statements) (s t : Site) → Same s t → RunCounts (run_inner b s) (counted_inner b t)
  run_inner_counted no_statements s t h c n = refl
  run_inner_counted (statement b bs) s t h c n = run_within_counted b s t h c n

  run_within_counted : (b : Statement) (s t : Site) → Same s t → RunCounts (run_within b s) (counted_within b t)
  run_within_counted (assignment line atomic p e) s t h c n = refl
  run_within_counted (branch line arms other) s t h c n = refl
  run_within_counted (loop line number directive var first last step body) s t h c n = run_all_counted body s t h c n

  arms_counted : (a : Arms) (line m : ℕ) (other : Site → Run) (g : CountedRun) (s t : Site) → RunCounts (other s) g → Same s t → RunCounts (run_arms a line m other s) (counted_arms a line g t)
  arms_counted no_arms line m other g s t e h c n = arm_counted m (other s) g e c n
  arms_counted (arm test body arms) line m other g s t e h c n =
      then_known (inside (condition m) (at_line line (holds test s c))) (λ p. choice p (in_arm m (run_all body s)) (run_arms arms line (m + 1) other s) c) n
      (ended (lined line (holds test t c).out) n) (λ p. chosen p (counted_all body t) (counted_arms arms line g t) c)
      (line_counted line (holds test s c) n (holds_unseen test s c) ∙ ap (λ r. ended (lined line r) n) (holds_agree s t c h.alike.keys h.alike.width test))
      (λ p. choice_counted p (in_arm m (run_all body s)) (run_arms arms line (m + 1) other s) (counted_all body t) (counted_arms arms line g t)
      (arm_counted m (run_all body s) (counted_all body t) (run_all_counted body s t h)) (arms_counted arms line (m + 1) other g s t e h) c)

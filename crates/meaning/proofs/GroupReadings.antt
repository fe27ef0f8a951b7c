-- What a reading of logs sees of a run is what it sees of the groups that the run evaluates.
use Rattle.std.specs.Prelude.{◌≡◌, ℕ, zero, suc, ◌+◌, ◌/◌, ◌%◌, ℤ, pos, Bool, true, false, ◌&&◌, if◌then◌else◌, List, [], ◌∷◌, ◌++◌, map, Option, Some, None, Result, Ok, Err, refl}
use Rattle.std.proofs.Common.{ap, sym, ◌∙◌, subst}
use Rattle.std.proofs.lemmas.Bool.{and_parts}
use Rattle.std.proofs.lemmas.List.{map-append}
use Rattle.std.proofs.lemmas.Grind.{flat_map-append}
use Rattle.fl_ast.specs.Tree.{Expression, Designator, Condition, Statement, assignment, branch, loop, Statements, no_statements, statement, Arms, no_arms, arm}
use Rattle.fl_types.specs.declared.access.PathStep.{PathStep}
use Rattle.fl_types.specs.declared.access.PathStep.TheVariants.{Arm, Body}
use Rattle.fl_types.specs.Sharing.{assigns_in, ParallelLoop}
use Rattle.fl_types.specs.Accesses.{Occurrence, reads, step_reads, condition_reads, statement_count, statements_count, test_path}
use Rattle.fl_types.specs.Nests.{is_nest, iteration_body, inner_body}
use Rattle.meaning.specs.declared.value.Value.{Value}
use Rattle.meaning.specs.declared.value.Value.TheVariants.{Index}
use Rattle.meaning.specs.declared.value.Cause.{Cause}
use Rattle.meaning.specs.declared.value.TrapAt.{TrapAt}
use Rattle.meaning.specs.declared.value.IterationCount.{IterationCount}
use Rattle.meaning.specs.Logs.{Touch, Log, silence, single, sets, both, within, pushes, instance, turn, iteration, condition, taken, Traced, after, continuation, ◌>>=◌, inside, at_line, at_line_by}
use Rattle.meaning.specs.Sites.{Cells, with_tangent, Site, in_turn, in_iteration, place_of}
use Rattle.meaning.specs.Expressions.{holds}
use Rattle.meaning.specs.Statements.{Run, with_log, content_at, turns_of, value_at, set_log_at, with_variable, turns, loop_words, private_names, with_all_unset, unset_log, private_words, one_turn, Heads, iterations, with_variables, run_turns, choice, in_arm, run, run_all, run_inner, run_arms}
use Rattle.meaning.specs.Sequential.{is_sequential, are_sequential, are_arms_sequential}
use Rattle.meaning.specs.Touches.{scope_at, touch_of}
use Rattle.meaning.specs.Reached.{cells_with, cells_with_heads}
use Rattle.meaning.proofs.Parts.{bound}
use Rattle.meaning.specs.Groups.{touches_from, touches_of_iterations, Group, group_at, assignment_group, groups_from, groups_of_turns, groups_of, groups_of_all, groups_of_arms, touches_of_groups, iteration_of, groups_of_iteration}

pub append_nil : {A : Type 0} (xs : List A) → xs ++ [] ≡ xs
append_nil [] = refl
append_nil (x ∷ xs) = ap (λ (ys : List _). x ∷ ys) (append_nil xs)

inner_same : (body : Statements) (s : Site) (c : Cells) → run_inner body s c ≡ run_all (inner_body body) s c
inner_same no_statements s c = refl
inner_same (statement (assignment line atomic p e) bs) s c = refl
inner_same (statement (branch line arms other) bs) s c = refl
inner_same (statement (loop line number directive var first last step body) bs) s c = refl

-- ---- a reading of logs as touches, and the part of a group's accesses that it sees

pub record Reading (read : ℕ → Log → List Touch) (part : Group → List Occurrence) : Type 0 where
  pub nothing : (k : ℕ) → read k silence ≡ []
  pub pair : (k : ℕ) (a b : Log) → read k (both a b) ≡ read k a ++ read k b
  pub stores : (k p : ℕ) (v : Option Value) → read k (sets p v) ≡ []
  pub words : (k : ℕ) (v : Option Value) → read k (single (pushes v)) ≡ []
  pub instances : (k : ℕ) (a : Log) → read k (within instance a) ≡ read k a
  pub conditions : (k m : ℕ) (a : Log) → read k (within (condition m) a) ≡ read k a
  pub arms : (k m : ℕ) (a : Log) → read k (within (taken m) a) ≡ read k a
  pub turnings : (k j : ℕ) (a : Log) → read k (within (turn j) a) ≡ read k a
  pub iterates : (i k : ℕ) (a : Log) → read i (within (iteration k) a) ≡ read k a
  pub assignments : (s : Site) (c d : Cells) (line : ℕ) (atomic : Bool) (p : Designator) (e : Expression) (n : ℕ) (path : List PathStep) → (run (assignment line atomic p e) s c).out ≡ Ok d →
      (k : ℕ) → map Some (read k (run (assignment line atomic p e) s c).log) ≡ map (touch_of s c k) (part (assignment_group n path s c line atomic p e))
  pub tests : (s : Site) (c : Cells) (line : ℕ) (path : List PathStep) (test : Condition) (b : Bool) → (holds test s c).out ≡ Ok b →
      (k : ℕ) → map Some (read k (holds test s c).log) ≡ map (touch_of s c k) (part (group_at s c (condition_reads (scope_at s) line path test)))
  pub bounds : (s : Site) (c : Cells) (line : ℕ) (path : List PathStep) (first last : Expression) (step : Option Expression) (t : IterationCount) → (turns_of first last step s c).out ≡ Ok t →
      (k : ℕ) → map Some (read k (turns_of first last step s c).log)
      ≡ map (touch_of s c k) (part (group_at s c (reads (scope_at s) line path first ++ (reads (scope_at s) line path last ++ step_reads (scope_at s) line path step))))

module _ (read : ℕ → Log → List Touch) (part : Group → List Occurrence) (w : Reading read part) where
  Told : Log → List Group → Type 0
  Told l gs = (k : ℕ) → map Some (read k l) ≡ touches_of_groups part k gs

  IsUnseen : Log → Type 0
  IsUnseen l = (k : ℕ) → read k l ≡ []

  groups_append : (k : ℕ) (gs hs : List Group) → touches_of_groups part k (gs ++ hs) ≡ touches_of_groups part k gs ++ touches_of_groups part k hs
  groups_append k gs hs = flat_map-append (λ (g : Group). map (touch_of g.site g.cells k) (part g)) gs hs

  told_both : (l m : Log) (gs hs : List Group) → Told l gs → Told m hs → Told (both l m) (gs ++ hs)
  unfolding Told
  told_both l m gs hs h g k =
      ap (map Some) (w.pair k l m)
      ∙ (map-append Some (read k l) (read k m)
      ∙ (ap (λ (ts : List (Option Touch)). ts ++ map Some (read k m)) (h k)
      ∙ (ap (λ (ts : List (Option Touch)). touches_of_groups part k gs ++ ts) (g k)
      ∙ sym (groups_append k gs hs))))

  IsGroup : Log → Group → Type 0
  IsGroup l g = (k : ℕ) → map Some (read k l) ≡ map (touch_of g.site g.cells k) (part g)

  -- one group, and further ones
  told_next : (l m : Log) (g : Group) (hs : List Group) → IsGroup l g → Told m hs → Told (both l m) (g ∷ hs)
  unfolding Told IsGroup
  told_next l m g hs h i k =
      ap (map Some) (w.pair k l m)
      ∙ (map-append Some (read k l) (read k m)
      ∙ (ap (λ (ts : List (Option Touch)). ts ++ map Some (read k m)) (h k)
      ∙ ap (λ (ts : List (Option Touch)). map (touch_of g.site g.cells k) (part g) ++ ts) (i k)))

  told_group : (l : Log) (g : Group) → IsGroup l g → Told l (g ∷ [])
  unfolding Told IsGroup
  told_group l g h k = h k ∙ sym (append_nil (map (touch_of g.site g.cells k) (part g)))

  told_nothing : Told silence []
  unfolding Told
  told_nothing k = ap (map Some) (w.nothing k)

  after_unseen : (l m : Log) (gs : List Group) → IsUnseen l → Told m gs → Told (both l m) gs
  unfolding Told IsUnseen
  after_unseen l m gs q h k = ap (map Some) (w.pair k l m ∙ ap (λ (ts : List Touch). ts ++ read k m) (q k)) ∙ h k

  before_unseen : (l m : Log) (gs : List Group) → Told l gs → IsUnseen m → Told (both l m) gs
  unfolding Told IsUnseen
  before_unseen l m gs h q k = ap (map Some) (w.pair k l m ∙ (ap (λ (ts : List Touch). read k l ++ ts) (q k) ∙ append_nil (read k l))) ∙ h k

  both_unseen : (l m : Log) → IsUnseen l → IsUnseen m → IsUnseen (both l m)
  unfolding IsUnseen
  both_unseen l m p q k = w.pair k l m ∙ (ap (λ (ts : List Touch). ts ++ read k m) (p k) ∙ q k)

  -- ---- binds

  continuation_told : {X A B : Type 0} (l : Log) (r : Result A X) (f : A → Traced X B) (gs : List Group) (h : A → List Group) → ((a : A) → r ≡ Ok a → Told l gs) → ((a : A) → r ≡ Ok a → (b : B) → (f a).out ≡ Ok b → Told (f a).log (h a))
      → (b : B) → (continuation l r f).out ≡ Ok b → Told (continuation l r f).log (gs ++ groups_from r h)
  continuation_told l (Ok a) f gs h m n b e = told_both l (f a).log gs (h a) (m a refl) (n a refl b e)
  continuation_told l (Err x) f gs h m n b e = cc

  -- a run, and then further ones
  then_told : (t : Traced TrapAt Cells) (f : Run) (gs : List Group) (h : Cells → List Group) → ((a : Cells) → t.out ≡ Ok a → Told t.log gs) → ((a : Cells) → t.out ≡ Ok a → (b : Cells) → (f a).out ≡ Ok b → Told (f a).log (h a))
      → (b : Cells) → (t >>= f).out ≡ Ok b → Told (t >>= f).log (gs ++ groups_from t.out h)
  then_told t f gs h m n b e = continuation_told t.log t.out f gs h m n b e

  -- and then nothing is seen
  continuation_unseen : {X : Type 0} (l : Log) (r : Result Cells X) (f : Cells → Traced X Cells) (gs : List Group) → ((a : Cells) → r ≡ Ok a → Told l gs) → ((a : Cells) → IsUnseen (f a).log)
      → (b : Cells) → (continuation l r f).out ≡ Ok b → Told (continuation l r f).log gs
  continuation_unseen l (Ok a) f gs m q b e = before_unseen l (f a).log gs (m a refl) (q a)
  continuation_unseen l (Err x) f gs m q b e = cc

  -- one group that is evaluated at a line, and then further ones
  line_told : {A : Type 0} (line : ℕ) (l : Log) (r : Result A Cause) (f : A → Traced TrapAt Cells) (g : Group) (h : A → List Group)
      → ((a : A) → r ≡ Ok a → IsGroup l g) → ((a : A) → r ≡ Ok a → (b : Cells) → (f a).out ≡ Ok b → Told (f a).log (h a))
      → (b : Cells) → (at_line_by line l r >>= f).out ≡ Ok b → Told (at_line_by line l r >>= f).log (g ∷ groups_from r h)
  line_told line l (Ok a) f g h m n b e = told_next l (f a).log g (h a) (m a refl) (n a refl b e)
  line_told line l (Err x) f g h m n b e = cc

  in_condition : (m : ℕ) (l : Log) (g : Group) → IsGroup l g → IsGroup (within (condition m) l) g
  unfolding IsGroup
  in_condition m l g h k = ap (map Some) (w.conditions k m l) ∙ h k

  -- the same in a condition's passage
  test_told : (line m : ℕ) (l : Log) (r : Result Bool Cause) (f : Bool → Traced TrapAt Cells) (g : Group) (h : Bool → List Group)
      → ((a : Bool) → r ≡ Ok a → IsGroup l g) → ((a : Bool) → r ≡ Ok a → (b : Cells) → (f a).out ≡ Ok b → Told (f a).log (h a))
      → (b : Cells) → (inside (condition m) (at_line_by line l r) >>= f).out ≡ Ok b → Told (inside (condition m) (at_line_by line l r) >>= f).log (g ∷ groups_from r h)
  test_told line m l (Ok a) f g h p n b e = told_next (within (condition m) l) (f a).log g (h a) (in_condition m l g (p a refl)) (n a refl b e)
  test_told line m l (Err x) f g h p n b e = cc

  -- ---- stores and words

  set_unseen : (o : Option ℕ) (v : Option Value) → IsUnseen (set_log_at o v)
  unfolding IsUnseen
  set_unseen None v k = w.nothing k
  set_unseen (Some p) v k = w.stores k p (with_tangent 0 v)

  unset_unseen : (s : Site) (xs : List (List ℕ)) → IsUnseen (unset_log s xs)
  unfolding IsUnseen
  unset_unseen s [] k = w.nothing k
  unset_unseen s (x ∷ xs) k = both_unseen (set_log_at (place_of s x []) None) (unset_log s xs) (set_unseen (place_of s x []) None) (unset_unseen s xs) k

  words_unseen : (s : Site) (body : Statements) (xs : List (List ℕ)) (cells : Cells) → IsUnseen (private_words s body xs cells)
  unfolding IsUnseen
  words_unseen s body [] cells k = w.nothing k
  words_unseen s body (x ∷ xs) cells k =
      both_unseen (if assigns_in x body && s.pushed x then single (pushes (with_tangent 0 (content_at cells (place_of s x [])))) else silence) (private_words s body xs cells) (by_test (assigns_in x body && s.pushed x)) (words_unseen s body xs cells) k
    where
      by_test : (b : Bool) → (j : ℕ) → read j (if b then single (pushes (with_tangent 0 (content_at cells (place_of s x [])))) else silence) ≡ []
      by_test true j = w.words j (with_tangent 0 (content_at cells (place_of s x [])))
      by_test false j = w.nothing j

  loop_words_unseen : (t : IterationCount) → IsUnseen (loop_words t)
  unfolding IsUnseen
  loop_words_unseen t k =
      both_unseen (single (pushes (Some (Index t.first)))) (both (single (pushes (Some (Index t.last)))) (single (pushes (Some (Index t.step))))) (λ j. w.words j (Some (Index t.first)))
      (both_unseen (single (pushes (Some (Index t.last)))) (single (pushes (Some (Index t.step)))) (λ j. w.words j (Some (Index t.last))) (λ j. w.words j (Some (Index t.step)))) k

  -- what comes without a trap
  abbrev ToldBy : Run → Cells → List Group → Type 0
  ToldBy f c gs = (d : Cells) → (f c).out ≡ Ok d → Told (f c).log gs

  variable_told : (s : Site) (x : List ℕ) (z : ℤ) (f : Run) (c : Cells) (gs : List Group) → ToldBy f (cells_with s x z c) gs → ToldBy (with_variable s x z f) c gs
  variable_told s x z f c gs h d e = after_unseen (set_log_at (place_of s x []) (Some (Index z))) (f (cells_with s x z c)).log gs (set_unseen (place_of s x []) (Some (Index z))) (h d e)

  variables_told : (s : Site) (hs : Heads) (k : ℕ) (f : Run) (c : Cells) (gs : List Group) → ToldBy f (cells_with_heads s hs k c) gs → ToldBy (with_variables s hs k f) c gs
  variables_told s [] k f c gs h = h
  variables_told s (x ∷ []) k f c gs h = variable_told s x.0 (value_at x.1 k) f c gs h
  variables_told s (x ∷ y ∷ hs) k f c gs h =
      variable_told s x.0 (value_at x.1 (k / iterations (y ∷ hs))) (with_variables s (y ∷ hs) (k % iterations (y ∷ hs)) f) c gs
      (variables_told s (y ∷ hs) (k % iterations (y ∷ hs)) f (cells_with s x.0 (value_at x.1 (k / iterations (y ∷ hs))) c) gs h)

  turns_told : (n : ℕ) (f : ℕ → Run) (g : ℕ → Cells → List Group) → ((k : ℕ) (c : Cells) → ToldBy (f k) c (g k c)) → (c : Cells) → ToldBy (turns n f) c (groups_of_turns n f g c)
  turns_told zero f g h c d e = told_nothing
  turns_told (suc n) f g h c d e = then_told (turns n f c) (f n) (groups_of_turns n f g c) (g n) (λ a i. turns_told n f g h c a i) (λ a i b j. h n a b j) d e

  in_turn_told : (j : ℕ) (l : Log) (gs : List Group) → Told l gs → Told (within (turn j) l) gs
  unfolding Told
  in_turn_told j l gs h k = ap (map Some) (w.turnings k j l) ∙ h k

  in_taken_told : (m : ℕ) (l : Log) (gs : List Group) → Told l gs → Told (within (taken m) l) gs
  unfolding Told
  in_taken_told m l gs h k = ap (map Some) (w.arms k m l) ∙ h k

  in_instance_told : (l : Log) (gs : List Group) → Told l gs → Told (within instance l) gs
  unfolding Told
  in_instance_told l gs h k = ap (map Some) (w.instances k l) ∙ h k

  one_turn_told : (s : Site) (var : List ℕ) (t : IterationCount) (body : Site → Run) (g : Cells → List Group) → ((c : Cells) → ToldBy (body (in_turn s var)) c (g c)) → (k : ℕ) (c : Cells)
      → ToldBy (one_turn s var t body k) c (g (cells_with s var (value_at t k) c))
  one_turn_told s var t body g h k c d e =
      in_turn_told k (with_variable s var (value_at t k) (body (in_turn s var)) c).log (g (cells_with s var (value_at t k) c))
      (variable_told s var (value_at t k) (body (in_turn s var)) c (g (cells_with s var (value_at t k) c)) (h (cells_with s var (value_at t k) c)) d e)

  run_turns_told : (s : Site) (var : List ℕ) (t : IterationCount) (body : Site → Run) (g : Cells → List Group) → ((c : Cells) → ToldBy (body (in_turn s var)) c (g c)) → (c : Cells)
      → ToldBy (run_turns var body s t) c (groups_of_turns t.count (one_turn s var t body) (λ k a. g (cells_with s var (value_at t k) a)) c)
  run_turns_told s var t body g h c d e =
      continuation_unseen (turns t.count (one_turn s var t body) c).log (turns t.count (one_turn s var t body) c).out (with_log (loop_words t))
      (groups_of_turns t.count (one_turn s var t body) (λ k a. g (cells_with s var (value_at t k) a)) c)
      (λ a i. turns_told t.count (one_turn s var t body) (λ k b. g (cells_with s var (value_at t k) b)) (one_turn_told s var t body g h) c a i) (λ a. loop_words_unseen t) d e

  in_arm_told : (m : ℕ) (f : Run) (c : Cells) (gs : List Group) → ToldBy f c gs → ToldBy (in_arm m f) c gs
  unfolding IsUnseen
  in_arm_told m f c gs h d e =
      in_taken_told m (f c >>= with_log (single (pushes (Some (Index (pos m)))))).log gs
      (continuation_unseen (f c).log (f c).out (with_log (single (pushes (Some (Index (pos m)))))) gs (λ a i. h a i) (λ a k. w.words k (Some (Index (pos m)))) d e)

  by_choice : (b : Bool) (f g : Run) (c : Cells) (gs hs : List Group) → ToldBy f c gs → ToldBy g c hs → ToldBy (choice b f g) c (if b then gs else hs)
  by_choice true f g c gs hs h k = h
  by_choice false f g c gs hs h k = k

  -- ---- statements

  is_assignment : (s : Site) (c d : Cells) (line : ℕ) (atomic : Bool) (p : Designator) (e : Expression) (n : ℕ) (path : List PathStep) → (run (assignment line atomic p e) s c).out ≡ Ok d
      → IsGroup (run (assignment line atomic p e) s c).log (assignment_group n path s c line atomic p e)
  unfolding IsGroup
  is_assignment s c d line atomic p e n path h k = w.assignments s c d line atomic p e n path h k

  is_test : (s : Site) (c : Cells) (line : ℕ) (path : List PathStep) (test : Condition) (b : Bool) → (holds test s c).out ≡ Ok b → IsGroup (holds test s c).log (group_at s c (condition_reads (scope_at s) line path test))
  unfolding IsGroup
  is_test s c line path test b h k = w.tests s c line path test b h k

  are_bounds : (s : Site) (c : Cells) (line : ℕ) (path : List PathStep) (first last : Expression) (step : Option Expression) (t : IterationCount) → (turns_of first last step s c).out ≡ Ok t
      → IsGroup (turns_of first last step s c).log (group_at s c (reads (scope_at s) line path first ++ (reads (scope_at s) line path last ++ step_reads (scope_at s) line path step)))
  unfolding IsGroup
  are_bounds s c line path first last step t h k = w.bounds s c line path first last step t h k

  mutual
    run_told : (x : Statement) (n : ℕ) (path : List PathStep) (s : Site) → is_sequential x ≡ true → (c : Cells) → ToldBy (run x s) c (groups_of n path x s c)
    run_told (assignment line atomic p e) n path s q c d i =
        told_group (run (assignment line atomic p e) s c).log (assignment_group n path s c line atomic p e) (is_assignment s c d line atomic p e n path i)
    run_told (branch line arms other) n path s q c d i =
        let a = and_parts (are_arms_sequential arms) (are_sequential other) q in
        in_instance_told (run_arms arms line 0 (run_all other) s c).log (groups_of_arms line n (n + 1) 0 path arms (λ k steps. groups_of_all k steps other) s c)
        (arms_told arms line n (n + 1) 0 path (run_all other) (λ k steps. groups_of_all k steps other) s a.0 (λ k steps b. all_told other k steps s a.1 b) c d i)
    run_told (loop line number None var first last step body) n path s q c d i =
        let g : Group = group_at s c (reads (scope_at s) line path first ++ (reads (scope_at s) line path last ++ step_reads (scope_at s) line path step)) in
        let t : Traced Cause IterationCount = turns_of first last step s c in
        let inner : Cells → List Group = λ a. groups_of_all (n + 1) (path ++ Body n ∷ []) body (in_turn s var) a in
        let more : IterationCount → List Group = λ u. groups_of_turns u.count (one_turn s var u (run_all body)) (λ k b. inner (cells_with s var (value_at u k) b)) c in
        in_instance_told (at_line line t >>= (λ u. run_turns var (run_all body) s u c)).log (g ∷ groups_from t.out more)
        (line_told line t.log t.out (λ u. run_turns var (run_all body) s u c) g more
        (λ a j. are_bounds s c line path first last step a j)
        (λ a j b f. run_turns_told s var a (run_all body) inner (λ k. all_told body (n + 1) (path ++ Body n ∷ []) (in_turn s var) q k) c b f) d i)
    run_told (loop line number (Some directive) var first last step body) n path s q c d i = cc

    all_told : (xs : Statements) (n : ℕ) (path : List PathStep) (s : Site) → are_sequential xs ≡ true → (c : Cells) → ToldBy (run_all xs s) c (groups_of_all n path xs s c)
    all_told no_statements n path s q c d i = told_nothing
    all_told (statement x xs) n path s q c d i =
        let a = and_parts (is_sequential x) (are_sequential xs) q in
        then_told (run x s c) (run_all xs s) (groups_of n path x s c) (groups_of_all (n + statement_count x) path xs s) (λ b j. run_told x n path s a.0 c b j) (λ b j f g. all_told xs (n + statement_count x) path s a.1 b f g) d i

    arms_told : (arms : Arms) (line n k m : ℕ) (path : List PathStep) (other : Site → Run) (g : ℕ → List PathStep → Site → Cells → List Group) (s : Site) → are_arms_sequential arms ≡ true
        → ((j : ℕ) (steps : List PathStep) (c : Cells) → ToldBy (other s) c (g j steps s c)) → (c : Cells) → ToldBy (run_arms arms line m other s) c (groups_of_arms line n k m path arms g s c)
    arms_told no_arms line n k m path other g s q h c d i = in_arm_told m (other s) c (g k (path ++ Arm n m ∷ []) s c) (h k (path ++ Arm n m ∷ []) c) d i
    arms_told (arm test body arms) line n k m path other g s q h c d i =
        let a = and_parts (are_sequential body) (are_arms_sequential arms) q in
        let t : Traced Cause Bool = holds test s c in
        test_told line m t.log t.out (λ b. choice b (in_arm m (run_all body s)) (run_arms arms line (m + 1) other s) c) (group_at s c (condition_reads (scope_at s) line (test_path path n m) test))
        (λ b. if b then groups_of_all k (path ++ Arm n m ∷ []) body s c else groups_of_arms line n (k + statements_count body) (m + 1) path arms g s c)
        (λ b j. is_test s c line (test_path path n m) test b j)
        (λ b j f u. by_choice b (in_arm m (run_all body s)) (run_arms arms line (m + 1) other s) c (groups_of_all k (path ++ Arm n m ∷ []) body s c) (groups_of_arms line n (k + statements_count body) (m + 1) path arms g s c)
        (in_arm_told m (run_all body s) c (groups_of_all k (path ++ Arm n m ∷ []) body s c) (λ v x. all_told body k (path ++ Arm n m ∷ []) s a.0 c v x))
        (λ v x. arms_told arms line n (k + statements_count body) (m + 1) path other g s a.1 h c v x) f u) d i

  pub run_read : (xs : Statements) (n : ℕ) (path : List PathStep) (s : Site) → are_sequential xs ≡ true → (c d : Cells) → (run_all xs s c).out ≡ Ok d → (k : ℕ) → map Some (read k (run_all xs s c).log) ≡ touches_of_groups part k (groups_of_all n path xs s c)
  unfolding Told
  run_read xs n path s q c d e k = all_told xs n path s q c d e k

  -- ---- iterations

  body_told : (b : Bool) (body : Statements) (s : Site) → are_sequential (if b then inner_body body else body) ≡ true → (c : Cells)
      → ToldBy ((if b then run_inner body else run_all body) s) c (groups_of_all 1 [] (if b then inner_body body else body) s c)
  body_told true body s q c =
      subst (λ (t : Traced TrapAt Cells). (d : Cells) → t.out ≡ Ok d → Told t.log (groups_of_all 1 [] (inner_body body) s c)) (sym (inner_same body s c)) (all_told (inner_body body) 1 [] s q c)
  body_told false body s q c = all_told body 1 [] s q c

  pub iteration_read : (s : Site) (l : ParallelLoop) (hs : Heads) (k : ℕ) → are_sequential (iteration_body l.directive l.body) ≡ true → (c d : Cells) → (iteration_of s l hs k c).out ≡ Ok d → (i : ℕ)
      → map Some (read i (iteration_of s l hs k c).log) ≡ touches_of_groups part k (groups_of_iteration s l hs k c)
  unfolding Told
  iteration_read s l hs k q c d e i =
      let names : List (List ℕ) = private_names s l.directive l.var l.body in
      let here : Site = in_iteration s l.directive l.var l.body in
      let a : Cells = with_all_unset s names c in
      let f : Run = (if is_nest l.directive l.body then run_inner l.body else run_all l.body) here in
      let gs : List Group = groups_of_iteration s l hs k c in
      let t : Traced TrapAt Cells = with_variables s hs k f a in
      let u : Traced TrapAt Cells = after (unset_log s names) t >>= (λ b. with_log (private_words s l.body names b) b) in
      ap (map Some) (w.iterates i k u.log)
      ∙ continuation_unseen (both (unset_log s names) t.log) t.out (λ b. with_log (private_words s l.body names b) b) gs
      (λ b j. after_unseen (unset_log s names) t.log gs (unset_unseen s names) (variables_told s hs k f a gs (body_told (is_nest l.directive l.body) l.body here q (cells_with_heads s hs k a)) b j))
      (λ b. words_unseen s l.body names b) d e k

  pub iterations_read : (s : Site) (l : ParallelLoop) (hs : Heads) → are_sequential (iteration_body l.directive l.body) ≡ true → (n : ℕ) (c d : Cells) → (turns n (iteration_of s l hs) c).out ≡ Ok d → (i : ℕ)
      → map Some (read i (turns n (iteration_of s l hs) c).log) ≡ touches_of_iterations part s l hs n c
  iterations_read s l hs q zero c d h i = ap (map Some) (w.nothing i)
  iterations_read s l hs q (suc n) c d h i =
      let f : ℕ → Run = iteration_of s l hs in
      let b = bound (turns n f c) (f n) d h in
      let before : List (Option Touch) = touches_of_iterations part s l hs n c in
      ap (λ (a : Log). map Some (read i a)) b.log
      ∙ (ap (map Some) (w.pair i (turns n f c).log (f n b.value).log)
      ∙ (map-append Some (read i (turns n f c).log) (read i (f n b.value).log)
      ∙ (ap (λ (ts : List (Option Touch)). ts ++ map Some (read i (f n b.value).log)) (iterations_read s l hs q n c b.value b.first i)
      ∙ (ap (λ (ts : List (Option Touch)). before ++ ts) (iteration_read s l hs n q b.value d b.second i)
      ∙ ap (λ (r : Result Cells TrapAt). before ++ touches_from r (λ a. touches_of_groups part n (groups_of_iteration s l hs n a))) (sym b.first)))))

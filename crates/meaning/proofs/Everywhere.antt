-- Runs at two sites with the same keys and kinds, and the same declared names where there is a parallel loop.
use Rattle.std.specs.Prelude.{◌≡◌, ℕ, ◌+◌, ◌/◌, ◌%◌, ℤ, Bool, true, false, ◌&&◌, if◌then◌else◌, List, [], ◌∷◌, filter, Option, Some, None, refl}
use Rattle.std.proofs.Common.{ap, ◌∙◌}
use Rattle.fl_ast.specs.declared.directive.Directive.{Directive}
use Rattle.fl_ast.specs.Tree.{Statement, assignment, branch, loop, Statements, no_statements, statement, Arms, no_arms, arm}
use Rattle.fl_types.specs.Increment.{rest_terms, increment_terms}
use Rattle.fl_types.specs.Nests.{Head, is_nest, further_head}
use Rattle.fl_types.specs.Sharing.{sharing_in, is_private}
use Rattle.meaning.specs.declared.value.Value.TheVariants.{Index}
use Rattle.meaning.specs.Logs.{condition, after, inside, at_line, rounds}
use Rattle.meaning.specs.Sites.{Cells, Site, in_turn, in_iteration, place_of}
use Rattle.meaning.specs.Expressions.{holds}
use Rattle.meaning.specs.Statements.{Run, with_log, assignment_by, turns_of, value_at, set_at, with_variable, turns, loop_words, private_names, with_all_unset, unset_log, one_turn, Heads, iterations, with_variables, further_turns, heads_of, one_iteration, in_arm, run, run_all, run_inner, run_within, run_arms}
use Rattle.meaning.specs.Sequential.{is_sequential, are_sequential, are_arms_sequential}
use Rattle.meaning.specs.Laws.{RunsGoByKeys}
use Rattle.meaning.proofs.ByKeys.{Agree, then_agree, holds_agree}
use Rattle.meaning.proofs.RunsByKeys.{Alike, turned_alike, same_place, assigned_agree, line_agree, turns_of_agree, turns_agree, one_turn_agree, chosen_agree, in_arm_agree}

record Same (s t : Site) : Type 0 where
  alike : Alike s t
  declared : s.declared ≡ t.declared

-- of statements that have no parallel loop the declared names say nothing
record SameFor (sequential : Bool) (s t : Site) : Type 0 where
  alike : Alike s t
  declared : sequential ≡ false → s.declared ≡ t.declared

for_any : (q : Bool) (s t : Site) → Same s t → SameFor q s t
for_any q s t h = record { alike = h.alike; declared = λ e. h.declared }

left_false : (p q : Bool) → p ≡ false → (p && q) ≡ false
left_false p q e = rw e refl

right_false : (p q : Bool) → q ≡ false → (p && q) ≡ false
right_false true q e = e
right_false false q e = refl

left_same : (p q : Bool) (s t : Site) → SameFor (p && q) s t → SameFor p s t
left_same p q s t h = record { alike = h.alike; declared = λ e. h.declared (left_false p q e) }

right_same : (p q : Bool) (s t : Site) → SameFor (p && q) s t → SameFor q s t
right_same p q s t h = record { alike = h.alike; declared = λ e. h.declared (right_false p q e) }

turned : (q : Bool) (s t : Site) (var : List ℕ) → SameFor q s t → SameFor q (in_turn s var) (in_turn t var)
turned q s t var h = record { alike = turned_alike s t var h.alike; declared = h.declared }

iterated : (s t : Site) (directive : Directive) (var : List ℕ) (tree : Statements) → Same s t → Same (in_iteration s directive var tree) (in_iteration t directive var tree)
iterated s t directive var tree h = record { alike = record { keys = h.alike.keys; width = h.alike.width; ring = h.alike.ring }; declared = h.declared }

abbrev pub RunAlike : Run → Run → Type 0
RunAlike f g = (c : Cells) → Agree (f c) (g c)

setting_agree : (s t : Site) (x : List ℕ) (z : ℤ) (f g : Run) → Same s t → RunAlike f g → RunAlike (with_variable s x z f) (with_variable t x z g)
setting_agree s t x z f g h k c =
    ap (λ o. (f (set_at o (Some (Index z)) c)).out) (same_place s t x [] h.alike) ∙ k (set_at (place_of t x []) (Some (Index z)) c)

setting_all_agree : (s t : Site) (hs : Heads) (i : ℕ) (f g : Run) → Same s t → RunAlike f g → RunAlike (with_variables s hs i f) (with_variables t hs i g)
setting_all_agree s t [] i f g h k c = k c
setting_all_agree s t (x ∷ []) i f g h k c = setting_agree s t x.0 (value_at x.1 i) f g h k c
setting_all_agree s t (x ∷ y ∷ hs) i f g h k c =
    setting_agree s t x.0 (value_at x.1 (i / iterations (y ∷ hs))) (with_variables s (y ∷ hs) (i % iterations (y ∷ hs)) f) (with_variables t (y ∷ hs) (i % iterations (y ∷ hs)) g) h
    (setting_all_agree s t (y ∷ hs) (i % iterations (y ∷ hs)) f g h k) c

further_agree : (s t : Site) (c : Cells) (o : Option Head) → Same s t → Agree (further_turns o s c) (further_turns o t c)
further_agree s t c None h = refl
further_agree s t c (Some x) h =
    then_agree (at_line x.line (turns_of x.first x.last x.step s c)) (at_line x.line (turns_of x.first x.last x.step t c)) _ _
    (line_agree x.line (turns_of x.first x.last x.step s c) (turns_of x.first x.last x.step t c) (turns_of_agree s t c x.first x.last x.step h.alike)) (λ u. refl)

heads_agree : (s t : Site) (c : Cells) (x : Head) (o : Option Head) → Same s t → Agree (heads_of x o s c) (heads_of x o t c)
heads_agree s t c x o h =
    then_agree (at_line x.line (turns_of x.first x.last x.step s c)) (at_line x.line (turns_of x.first x.last x.step t c)) _ _
    (line_agree x.line (turns_of x.first x.last x.step s c) (turns_of x.first x.last x.step t c) (turns_of_agree s t c x.first x.last x.step h.alike))
    (λ u. then_agree (further_turns o s c) (further_turns o t c) _ _ (further_agree s t c o h) (λ hs. refl))

unset_agree : (s t : Site) (xs : List (List ℕ)) (c : Cells) → Same s t → with_all_unset s xs c ≡ with_all_unset t xs c
unset_agree s t [] c h = refl
unset_agree s t (x ∷ xs) c h = ap (λ o. with_all_unset s xs (set_at o None c)) (same_place s t x [] h.alike) ∙ unset_agree s t xs (set_at (place_of t x []) None c) h

names_agree : (s t : Site) (directive : Directive) (var : List ℕ) (tree : Statements) → Same s t → private_names s directive var tree ≡ private_names t directive var tree
names_agree s t directive var tree h = ap (λ (xs : List (List ℕ)). filter (λ x. is_private (sharing_in var directive tree x)) xs) h.declared

one_iteration_agree : (s t : Site) (directive : Directive) (var : List ℕ) (hs : Heads) (tree : Statements) (f g : Site → Run)
    → ((u v : Site) → Same u v → RunAlike (f u) (g v)) → Same s t → (i : ℕ) → RunAlike (one_iteration s directive var hs tree f i) (one_iteration t directive var hs tree g i)
one_iteration_agree s t directive var hs tree f g k h i c =
    let ms : List (List ℕ) = private_names s directive var tree in
    let ns : List (List ℕ) = private_names t directive var tree in
    let p : Run = with_variables s hs i (f (in_iteration s directive var tree)) in
    let q : Run = with_variables t hs i (g (in_iteration t directive var tree)) in
    then_agree (after (unset_log s ms) (p (with_all_unset s ms c))) (after (unset_log t ns) (q (with_all_unset t ns c))) _ _
    (ap (λ b. (p b).out) (ap (λ xs. with_all_unset s xs c) (names_agree s t directive var tree h) ∙ unset_agree s t ns c h)
    ∙ setting_all_agree s t hs i (f (in_iteration s directive var tree)) (g (in_iteration t directive var tree)) h
    (k (in_iteration s directive var tree) (in_iteration t directive var tree) (iterated s t directive var tree h)) (with_all_unset t ns c))
    (λ b. refl)

either_agree : (b : Bool) (f g : Site → Run) → ((u v : Site) → Same u v → RunAlike (f u) (f v)) → ((u v : Site) → Same u v → RunAlike (g u) (g v))
    → (u v : Site) → Same u v → RunAlike ((if b then f else g) u) ((if b then f else g) v)
either_agree true f g h k u v e = h u v e
either_agree false f g h k u v e = k u v e

mutual
  run_same : (b : Statement) (s t : Site) → SameFor (is_sequential b) s t → RunAlike (run b s) (run b t)
  run_same (assignment line atomic p e) s t h c =
      line_agree line (assignment_by s c atomic p e (increment_terms s.ring p e)) (assignment_by t c atomic p e (increment_terms t.ring p e))
      (ap (λ b. (assignment_by s c atomic p e (if b then rest_terms p e else None)).out) (h.alike.ring p.name) ∙ assigned_agree s t c atomic p e (increment_terms t.ring p e) h.alike)
  run_same (branch line arms other) s t h c =
      arms_same arms line 0 (run_all other) s t
      (run_all_same other s t (right_same (are_arms_sequential arms) (are_sequential other) s t h)) (left_same (are_arms_sequential arms) (are_sequential other) s t h) c
  run_same (loop line number None var first last step body) s t h c =
      then_agree (at_line line (turns_of first last step s c)) (at_line line (turns_of first last step t c)) _ _
      (line_agree line (turns_of first last step s c) (turns_of first last step t c) (turns_of_agree s t c first last step h.alike))
      (λ u. then_agree (turns u.count (one_turn s var u (run_all body)) c) (turns u.count (one_turn t var u (run_all body)) c) (with_log (loop_words u)) (with_log (loop_words u))
      (turns_agree u.count (one_turn s var u (run_all body)) (one_turn t var u (run_all body))
      (one_turn_agree s t var u (run_all body) (run_all body) (run_all_same body (in_turn s var) (in_turn t var) (turned (are_sequential body) s t var h)) h.alike) c)
      (λ d. refl))
  run_same (loop line number (Some directive) var first last step body) s t h c =
      let x : Head = record { line = line; var = var; first = first; last = last; step = step } in
      let inner : Site → Run = if is_nest directive body then run_inner body else run_all body in
      let g : Same s t = record { alike = h.alike; declared = h.declared refl } in
      then_agree (heads_of x (further_head directive body) s c) (heads_of x (further_head directive body) t c) _ _ (heads_agree s t c x (further_head directive body) g)
      (λ hs. then_agree (inside rounds (turns (iterations hs) (one_iteration s directive var hs body inner) c)) (inside rounds (turns (iterations hs) (one_iteration t directive var hs body inner) c)) _ _
      (turns_agree (iterations hs) (one_iteration s directive var hs body inner) (one_iteration t directive var hs body inner)
      (one_iteration_agree s t directive var hs body inner inner
      (either_agree (is_nest directive body) (run_inner body) (run_all body) (λ u v e. run_inner_same body u v e) (λ u v e. run_all_same body u v (for_any (are_sequential body) u v e))) g) c)
      (λ d. refl))

  run_all_same : (b : Statements) (s t : Site) → SameFor (are_sequential b) s t → RunAlike (run_all b s) (run_all b t)
  run_all_same no_statements s t h c = refl
  run_all_same (statement b bs) s t h c =
      then_agree (run b s c) (run b t c) (run_all bs s) (run_all bs t)
      (run_same b s t (left_same (is_sequential b) (are_sequential bs) s t h) c) (run_all_same bs s t (right_same (is_sequential b) (are_sequential bs) s t h))

  run_inner_same : (b : Statements) (s t : Site) → Same s t → RunAlike (run_inner b s) (run_inner b t)
  run_inner_same no_statements s t h c = refl
  run_inner_same (statement b bs) s t h c = run_within_same b s t h c

  run_within_same : (b : Statement) (s t : Site) → Same s t → RunAlike (run_within b s) (run_within b t)
  run_within_same (assignment line atomic p e) s t h c = refl
  run_within_same (branch line arms other) s t h c = refl
  run_within_same (loop line number directive var first last step body) s t h c = run_all_same body s t (for_any (are_sequential body) s t h) c

  arms_same : (a : Arms) (line m : ℕ) (other : Site → Run) (s t : Site) → RunAlike (other s) (other t) → SameFor (are_arms_sequential a) s t
      → RunAlike (run_arms a line m other s) (run_arms a line m other t)
  arms_same no_arms line m other s t e h c = in_arm_agree m (other s) (other t) c (e c)
  arms_same (arm test body arms) line m other s t e h c =
      then_agree (inside (condition m) (at_line line (holds test s c))) (inside (condition m) (at_line line (holds test t c))) _ _
      (line_agree line (holds test s c) (holds test t c) (holds_agree s t c h.alike.keys h.alike.width test))
      (λ b. chosen_agree b (in_arm m (run_all body s)) (in_arm m (run_all body t)) (run_arms arms line (m + 1) other s) (run_arms arms line (m + 1) other t) c
      (in_arm_agree m (run_all body s) (run_all body t) c (run_all_same body s t (left_same (are_sequential body) (are_arms_sequential arms) s t h) c))
      (arms_same arms line (m + 1) other s t e (right_same (are_sequential body) (are_arms_sequential arms) s t h) c))

pub runs_everywhere : RunsGoByKeys
runs_everywhere = λ s t keys width ring body declared c. run_all_same body s t (record { alike = record { keys = keys; width = width; ring = ring }; declared = declared }) c

-- without parallel loops
pub sequential_agree : (s t : Site) → Alike s t → (body : Statements) → are_sequential body ≡ true → RunAlike (run_all body s) (run_all body t)
sequential_agree s t h body q c = run_all_same body s t (record { alike = h; declared = λ e. absurd (cc) }) c

-- A run that no conflict stops is calm.
use Rattle.std.proofs.Common.{◌≡◌, ◌≢◌, ℕ, zero, suc, ◌+◌, ◌<◌, ◌≤◌, ◌==◌, List, [], ◌∷◌, ◌++◌, refl, ap, sym, ◌∙◌, subst, arith, Bool, true, false, cond, Option, Some, None, Ok, Err, inl, inr, pos}
use Rattle.std.specs.Prelude.{Contains, nat_lt, nat_le, if◌then◌else◌}
use Rattle.std.proofs.lemmas.Bool.{eqb-true, eq-eqb}
use Rattle.std.proofs.lemmas.List.Elements.{Contains-append_left, Contains-push}
use Rattle.fl_ast.specs.declared.directive.Directive.{Directive}
use Rattle.fl_ast.specs.Tree.{Expression, Statement, assignment, branch, loop, Statements, no_statements, statement, Arms, no_arms, arm}
use Rattle.fl_types.specs.declared.access.AccessKind.{AccessKind}
use Rattle.fl_types.specs.Nests.{Head, is_nest, further_head, iteration_body}
use Rattle.meaning.specs.declared.value.Value.TheVariants.{Index}
use Rattle.meaning.specs.declared.value.TrapAt.{TrapAt}
use Rattle.meaning.specs.declared.value.IterationCount.{IterationCount}
use Rattle.meaning.specs.Logs.{Touch, Event, begins, touches, pushes, ends, traps, instance, right_side, rounds, turn, iteration, condition, taken, Log, silence, single, touched, sets, both, within, events_in, Traced, after, inside, at_line, ◌>>=◌}
use Rattle.meaning.specs.Sites.{Cells, Site, in_iteration as site_in_iteration, place_of}
use Rattle.meaning.specs.Conflicts.{clashes, Clash, IsClash, Reports, conflict}
use Rattle.meaning.specs.Expressions.{holds}
use Rattle.meaning.specs.Statements.{Run, with_log, turns_of, value_at, set_at, set_log_at, turns, loop_words, one_turn, run_turns, with_all_unset, unset_log, private_words, with_variables, Heads, iterations, heads_of, words_of_all, run_parallel, choice, in_arm, run, run_all, run_inner, run_arms}
use Rattle.meaning.specs.Stops.{Limits, Seen, nothing_seen, Stop, at_end, over_statements, over_touches, over_words, by_conflict, unless_conflict, stop_or, stop_after}
use Rattle.meaning.proofs.Reported.{reported, turned}
use Rattle.meaning.proofs.Parts.{bound}
use Rattle.transposition.specs.Worlds.{World, in_turn, in_iteration}
use Rattle.transposition.specs.Law.{Use, HasTouch, SharedApart, Calm}
use Rattle.transposition.specs.Calms.{inner_of, state_at, log_at, iteration_log, Pairwise, PairwiseAll, PairwiseArms, IsCalm, IsCalmAll, IsCalmArms, AreFlat}
use Rattle.transposition.specs.Sound.{privates_of, scope_with, Sound, SoundAll, SoundArms}
use Rattle.transposition.specs.Unstopped.{UnstoppedIsCalm}
use Rattle.transposition.proofs.Runs.{lined}
use Rattle.transposition.proofs.Rounds.{below_by}
use Rattle.transposition.proofs.Split.{less, not_less}
use Rattle.transposition.proofs.Nesting.{body_flat}
use Rattle.transposition.proofs.Iterations.{iteration_run}
use Rattle.transposition.proofs.Parallel.{state_end}
use Rattle.transposition.proofs.Whole.{ParallelRun, parallel_run, by_body}
use Rattle.transposition.proofs.PlainLogs.{IsPlain, plain_bind, plain_all, plain_settings, plain_unset, plain_words}

-- ---- events that pass

-- no conflict is reported at the end of a parallel loop, `since` being the touches since the last one
abbrev Passes : List Touch → List Event → Type 0
Passes since [] = Unit {0}
Passes since (begins ∷ es) = Passes since es
Passes since (touches t ∷ es) = Passes (since ++ t ∷ []) es
Passes since (pushes v ∷ es) = Passes since es
Passes since (ends line ∷ es) = (conflict since ≡ None) × Passes [] es
Passes since (traps t ∷ es) = Passes since es

abbrev since_after : List Touch → List Event → List Touch
since_after since [] = since
since_after since (begins ∷ es) = since_after since es
since_after since (touches t ∷ es) = since_after (since ++ t ∷ []) es
since_after since (pushes v ∷ es) = since_after since es
since_after since (ends line ∷ es) = since_after [] es
since_after since (traps t ∷ es) = since_after since es

passes_split : (since : List Touch) (xs ys : List Event) → Passes since (xs ++ ys) → Passes since xs × Passes (since_after since xs) ys
passes_split since [] ys h = (tt, h)
passes_split since (begins ∷ xs) ys h = passes_split since xs ys h
passes_split since (touches t ∷ xs) ys h = passes_split (since ++ t ∷ []) xs ys h
passes_split since (pushes v ∷ xs) ys h = passes_split since xs ys h
passes_split since (ends line ∷ xs) ys h = let r = passes_split [] xs ys h.1 in ((h.0, r.0), r.1)
passes_split since (traps t ∷ xs) ys h = passes_split since xs ys h

since_both : (since : List Touch) (xs ys : List Event) → since_after since (xs ++ ys) ≡ since_after (since_after since xs) ys
since_both since [] ys = refl
since_both since (begins ∷ xs) ys = since_both since xs ys
since_both since (touches t ∷ xs) ys = since_both (since ++ t ∷ []) xs ys
since_both since (pushes v ∷ xs) ys = since_both since xs ys
since_both since (ends line ∷ xs) ys = since_both [] xs ys
since_both since (traps t ∷ xs) ys = since_both since xs ys

gone_on : (b : Bool) (x : Seen) (z : Stop) (f : Seen → Stop) → (z ≡ at_end → ⊥) → stop_or (if b then Ok x else Err z) f ≡ at_end → f x ≡ at_end
gone_on true x z f n h = h
gone_on false x z f n h = absurd (n h)

passes_of : (limits : Limits) (seen : Seen) (es : List Event) → stop_after by_conflict limits seen es ≡ at_end → Passes seen.since es
passes_of limits seen [] h = tt
passes_of limits seen (begins ∷ es) h =
    passes_of limits (record seen { statements = seen.statements + 1 }) es
    (gone_on (nat_le (seen.statements + 1) limits.statements) (record seen { statements = seen.statements + 1 }) over_statements (λ s. stop_after by_conflict limits s es) (λ e. cc) h)
passes_of limits seen (touches t ∷ es) h =
    passes_of limits (record seen { touches = seen.touches + 1; since = seen.since ++ t ∷ [] }) es
    (gone_on (nat_le (seen.touches + 1) limits.touches) (record seen { touches = seen.touches + 1; since = seen.since ++ t ∷ [] }) over_touches (λ s. stop_after by_conflict limits s es) (λ e. cc) h)
passes_of limits seen (pushes v ∷ es) h =
    passes_of limits (record seen { words = seen.words + 1 }) es
    (gone_on (nat_le (seen.words + 1) limits.words) (record seen { words = seen.words + 1 }) over_words (λ s. stop_after by_conflict limits s es) (λ e. cc) h)
passes_of limits seen (ends line ∷ es) h = by_clash (conflict seen.since) refl h (λ g. passes_of limits (record seen { since = [] }) es g)
  where
    by_clash : (o : Option Clash) → conflict seen.since ≡ o → stop_or (unless_conflict line (record seen { since = [] }) o) (λ s. stop_after by_conflict limits s es) ≡ at_end
        → (stop_after by_conflict limits (record seen { since = [] }) es ≡ at_end → Passes [] es) → (conflict seen.since ≡ None) × Passes [] es
    by_clash None e g f = (e, f g)
    by_clash (Some c) e g f = cc
passes_of limits seen (traps t ∷ es) h = cc

-- ---- touches of an iteration

plain_keeps : (l : Log) (i : ℕ) (since : List Touch) (t : Touch) → IsPlain l → Contains since t → Contains (since_after since (events_in i l)) t
plain_keeps silence i since t h c = c
plain_keeps (single begins) i since t h c = c
plain_keeps (single (touches x)) i since t h c = absurd h
plain_keeps (single (pushes v)) i since t h c = c
plain_keeps (single (ends line)) i since t h c = absurd h
plain_keeps (single (traps x)) i since t h c = c
plain_keeps (touched p kind) i since t h c = Contains-append_left since (record { place = p; iteration = i; kind = kind } ∷ []) t c
plain_keeps (sets p v) i since t h c = c
plain_keeps (both a b) i since t h c =
    subst (λ (l : List Touch). Contains l t) (sym (since_both since (events_in i a) (events_in i b))) (plain_keeps b i (since_after since (events_in i a)) t h.1 (plain_keeps a i since t h.0 c))
plain_keeps (within instance a) i since t h c = plain_keeps a i since t h.1 c
plain_keeps (within (right_side x) a) i since t h c = plain_keeps a i since t h.1 c
plain_keeps (within rounds a) i since t h c = absurd h.0
plain_keeps (within (turn k) a) i since t h c = plain_keeps a i since t h.1 c
plain_keeps (within (iteration k) a) i since t h c = absurd h.0
plain_keeps (within (condition m) a) i since t h c = plain_keeps a i since t h.1 c
plain_keeps (within (taken m) a) i since t h c = plain_keeps a i since t h.1 c

abbrev touch_of : ℕ → ℕ → AccessKind → Touch
touch_of p i k = record { place = p; iteration = i; kind = k }

plain_adds : (l : Log) (i : ℕ) (since : List Touch) (k : AccessKind) (p : ℕ) → IsPlain l → HasTouch k p l → Contains (since_after since (events_in i l)) (touch_of p i k)
plain_adds silence i since k p h t = absurd t
plain_adds (single e) i since k p h t = absurd t
plain_adds (touched q j) i since k p h t =
    subst (λ (x : Touch). Contains (since ++ touch_of q i j ∷ []) x) (ap (λ (m : ℕ). touch_of m i j) t.0 ∙ ap (λ (m : AccessKind). touch_of p i m) t.1) (Contains-push since (touch_of q i j))
plain_adds (sets q v) i since k p h t = absurd t
plain_adds (both a b) i since k p h (inl t) =
    subst (λ (l : List Touch). Contains l (touch_of p i k)) (sym (since_both since (events_in i a) (events_in i b))) (plain_keeps b i (since_after since (events_in i a)) (touch_of p i k) h.1 (plain_adds a i since k p h.0 t))
plain_adds (both a b) i since k p h (inr t) =
    subst (λ (l : List Touch). Contains l (touch_of p i k)) (sym (since_both since (events_in i a) (events_in i b))) (plain_adds b i (since_after since (events_in i a)) k p h.1 t)
plain_adds (within instance a) i since k p h t = plain_adds a i since k p h.1 t
plain_adds (within (right_side x) a) i since k p h t = plain_adds a i since k p h.1 t
plain_adds (within rounds a) i since k p h t = absurd h.0
plain_adds (within (turn j) a) i since k p h t = plain_adds a i since k p h.1 t
plain_adds (within (iteration j) a) i since k p h t = absurd h.0
plain_adds (within (condition m) a) i since k p h t = plain_adds a i since k p h.1 t
plain_adds (within (taken m) a) i since k p h t = plain_adds a i since k p h.1 t

-- the touches of all iterations are seen at the loop's end
rounds_seen : (n : ℕ) (f : ℕ → Run) (s s2 : Cells) → ((k : ℕ) (c : Cells) → (f k c).log ≡ within (iteration k) (inner_of (f k c).log)) → ((k : ℕ) (c : Cells) → IsPlain (inner_of (f k c).log)) → (turns n f s).out ≡ Ok s2
    → (since : List Touch) (i : ℕ) → i < n → (k : AccessKind) (p : ℕ) → HasTouch k p (log_at f s i) → Contains (since_after since (events_in 0 (turns n f s).log)) (touch_of p i k)
rounds_seen zero f s s2 wr plain h since i l k p t = absurd (omega arith)
rounds_seen (suc n) f s s2 wr plain h since i l k p t =
    let b = bound (turns n f s) (f n) s2 h in
    let S : List Touch = since_after since (events_in 0 (turns n f s).log) in
    subst (λ (x : Log). Contains (since_after since (events_in 0 x)) (touch_of p i k)) (sym b.log)
    (subst (λ (x : List Touch). Contains x (touch_of p i k)) (sym (since_both since (events_in 0 (turns n f s).log) (events_in 0 (f n b.value).log)))
    (subst (λ (x : Log). Contains (since_after S (events_in 0 x)) (touch_of p i k)) (sym (wr n b.value))
    (by_last b.value (state_end n f s b.value b.first) (λ j. rounds_seen n f s b.value wr plain b.first since i j k p t) (i == n) refl)))
  where
    by_last : (c : Cells) → state_at f s n ≡ c → (i < n → Contains (since_after since (events_in 0 (turns n f s).log)) (touch_of p i k)) → (b : Bool) → (i == n) ≡ b
        → Contains (since_after (since_after since (events_in 0 (turns n f s).log)) (events_in n (inner_of (f n c).log))) (touch_of p i k)
    by_last c e early true g =
        let same : i ≡ n = eqb-true i n g in
        subst (λ (m : ℕ). Contains (since_after (since_after since (events_in 0 (turns n f s).log)) (events_in n (inner_of (f n c).log))) (touch_of p m k)) (sym same)
        (plain_adds (inner_of (f n c).log) n _ k p (plain n c) (subst (λ (x : Cells). HasTouch k p (inner_of (f n x).log)) e (subst (λ (m : ℕ). HasTouch k p (log_at f s m)) same t)))
    by_last c e early false g =
        plain_keeps (inner_of (f n c).log) n _ (touch_of p i k) (plain n c) (early (below_by i n l (λ d. (let m : true ≡ false = sym (eq-eqb i n d) ∙ g in cc))))

no_clash : (ts : List Touch) → conflict ts ≡ None → (c : Clash) → IsClash ts c → ⊥
no_clash ts h c k = none (conflict ts) h (reported ts)
  where
    none : (o : Option Clash) → o ≡ None → Reports ts o → ⊥
    none None e r = r c k
    none (Some d) e r = cc

apart_by : (ts : List Touch) → conflict ts ≡ None → (i j : ℕ) → i ≢ j → (k m : AccessKind) (p : ℕ) → Contains ts (touch_of p i k) → Contains ts (touch_of p j m) → (b : Bool) → clashes k m ≡ b → b ≡ false
apart_by ts h i j d k m p x y false e = refl
apart_by ts h i j d k m p x y true e = by_order (nat_lt i j) refl
  where
    by_order : (b : Bool) → nat_lt i j ≡ b → true ≡ false
    by_order true f = absurd (no_clash ts h (record { place = p; first = i; second = j }) (record { one = k; other = m; has_one = x; has_other = y; in_order = less i j f; kinds = e }))
    by_order false f =
        let g : j ≤ i = not_less i j f in
        let l : j < i = omega (arith, d) in
        absurd (no_clash ts h (record { place = p; first = j; second = i }) (record { one = m; other = k; has_one = y; has_other = x; in_order = l; kinds = turned k m e }))

-- ---- what an iteration tells is plain

iteration_plain : (w : World) (directive : Directive) (var : List ℕ) (tree : Statements) (heads : Heads) (k : ℕ) (s : Cells) → AreFlat (iteration_body directive tree) → IsPlain (inner_of (iteration_run w directive var tree heads k s).log)
iteration_plain w directive var tree heads k s flat =
    let names = privates_of w directive var tree in
    let f : Run = run_all (iteration_body directive tree) (site_in_iteration w.site directive var tree) in
    plain_bind (after (unset_log w.site names) (with_variables w.site heads k f (with_all_unset w.site names s))) (λ c. with_log (private_words w.site tree names c) c)
    (plain_unset w.site names, plain_settings w.site heads k f (with_all_unset w.site names s) (λ c. plain_all (iteration_body directive tree) (site_in_iteration w.site directive var tree) c flat))
    (λ c. plain_words w.site tree names c)

-- ---- turns

record TurnPasses (f : ℕ → Run) (k : ℕ) (s1 : Cells) : Type 0 where
  pub since : List Touch
  pub last : Cells
  pub out : (f k s1).out ≡ Ok last
  pub passes : Passes since (events_in 0 (f k s1).log)

turn_passes : (n : ℕ) (f : ℕ → Run) (s s2 : Cells) (since : List Touch) → (turns n f s).out ≡ Ok s2 → Passes since (events_in 0 (turns n f s).log) → (k : ℕ) → k < n → (s1 : Cells) → (turns k f s).out ≡ Ok s1 → TurnPasses f k s1
turn_passes zero f s s2 since h q k l s1 e = absurd (omega arith)
turn_passes (suc n) f s s2 since h q k l s1 e =
    let b = bound (turns n f s) (f n) s2 h in
    let r = passes_split since (events_in 0 (turns n f s).log) (events_in 0 (f n b.value).log) (subst (λ (x : Log). Passes since (events_in 0 x)) b.log q) in
    by_last b.value b.first b.second r.1 (λ j. turn_passes n f s b.value since b.first r.0 k j s1 e) (k == n) refl
  where
    by_last : (c : Cells) → (turns n f s).out ≡ Ok c → (f n c).out ≡ Ok s2 → Passes (since_after since (events_in 0 (turns n f s).log)) (events_in 0 (f n c).log) → (k < n → TurnPasses f k s1) → (b : Bool) → (k == n) ≡ b → TurnPasses f k s1
    by_last c first second r early true g =
        let same : k ≡ n = eqb-true k n g in
        let first2 : Ok c ≡ Ok s1 = sym first ∙ (ap (λ (m : ℕ). (turns m f s).out) (sym same) ∙ e) in
        let at : c ≡ s1 = cc in
        subst (λ (m : ℕ). TurnPasses f m s1) (sym same) (subst (λ (x : Cells). TurnPasses f n x) at (record { since = _; last = s2; out = second; passes = r }))
    by_last c first second r early false g = early (below_by k n l (λ d. (let m : true ≡ false = sym (eq-eqb k n d) ∙ g in cc)))

-- ---- statements

record LoopPasses (site : Site) (var : List ℕ) (body : Statements) (s : Cells) (t : IterationCount) : Type 0 where
  pub since : List Touch
  pub last : Cells
  pub out : (turns t.count (one_turn site var t (run_all body)) s).out ≡ Ok last
  pub passes : Passes since (events_in 0 (turns t.count (one_turn site var t (run_all body)) s).log)

abbrev loop_run : World → ℕ → List ℕ → Expression → Expression → Option Expression → Statements → Cells → Traced TrapAt Cells
loop_run w line var first last step body s = at_line line (turns_of first last step w.site s) >>= (λ t. run_turns var (run_all body) w.site t s)

loop_passes : (w : World) (line : ℕ) (var : List ℕ) (first last : Expression) (step : Option Expression) (body : Statements) (s s2 : Cells) (since : List Touch) → (loop_run w line var first last step body s).out ≡ Ok s2 → Passes since (events_in 0 (loop_run w line var first last step body s).log)
    → (t : IterationCount) → (turns_of first last step w.site s).out ≡ Ok t → LoopPasses w.site var body s t
loop_passes w line var first last step body s s2 since h q t e =
    let b = bound (at_line line (turns_of first last step w.site s)) (λ t. run_turns var (run_all body) w.site t s) s2 h in
    let l = lined line (turns_of first last step w.site s) b.value b.first in
    let c = bound (turns b.value.count (one_turn w.site var b.value (run_all body)) s) (with_log (loop_words b.value)) s2 b.second in
    let since1 : List Touch = since_after since (events_in 0 (at_line line (turns_of first last step w.site s)).log) in
    let q1 = passes_split since (events_in 0 (at_line line (turns_of first last step w.site s)).log) (events_in 0 (run_turns var (run_all body) w.site b.value s).log) (subst (λ (x : Log). Passes since (events_in 0 x)) b.log q) in
    let q2 = passes_split since1 (events_in 0 (turns b.value.count (one_turn w.site var b.value (run_all body)) s).log) (events_in 0 (loop_words b.value)) (subst (λ (x : Log). Passes since1 (events_in 0 x)) c.log q1.1) in
    let same : Ok b.value ≡ Ok t = sym l.out ∙ e in
    let at : b.value ≡ t = cc in
    subst (λ (x : IterationCount). LoopPasses w.site var body s x) at (record { since = since1; last = c.value; out = c.first; passes = q2.0 })

record BodyPasses (w : World) (var : List ℕ) (body : Statements) (c : Cells) : Type 0 where
  pub since : List Touch
  pub last : Cells
  pub out : (run_all body (in_turn w var).site c).out ≡ Ok last
  pub passes : Passes since (events_in 0 (run_all body (in_turn w var).site c).log)

turn_start : (w : World) (line : ℕ) (var : List ℕ) (first last : Expression) (step : Option Expression) (body : Statements) (s s2 : Cells) (since : List Touch) → (loop_run w line var first last step body s).out ≡ Ok s2 → Passes since (events_in 0 (loop_run w line var first last step body s).log)
    → (t : IterationCount) → (turns_of first last step w.site s).out ≡ Ok t → (k : ℕ) → k < t.count → (s1 : Cells) → (turns k (one_turn w.site var t (run_all body)) s).out ≡ Ok s1
    → BodyPasses w var body (set_at (place_of w.site var []) (Some (Index (value_at t k))) s1)
turn_start w line var first last step body s s2 since h q t e k i s1 g =
    let met = loop_passes w line var first last step body s s2 since h q t e in
    let tp = turn_passes t.count (one_turn w.site var t (run_all body)) s met.last met.since met.out met.passes k i s1 g in
    let es : List Event = events_in 0 (set_log_at (place_of w.site var []) (Some (Index (value_at t k)))) in
    record {
      since = since_after tp.since es;
      last = tp.last;
      out = tp.out;
      passes = (passes_split tp.since es (events_in 0 (run_all body (in_turn w var).site (set_at (place_of w.site var []) (Some (Index (value_at t k))) s1)).log) tp.passes).1;
    }

-- the run of a parallel loop's statement
abbrev parallel_run_of : World → ℕ → Directive → Statements → Head → Cells → Traced TrapAt Cells
parallel_run_of w line directive body d s = heads_of d (further_head directive body) w.site s >>= (λ heads. run_parallel line directive d.var body (if is_nest directive body then run_inner body else run_all body) w.site heads s)

record RanHeads (w : World) (line : ℕ) (d : Head) (directive : Directive) (body : Statements) (s : Cells) (heads : Heads) : Type 0 where
  pub last : Cells
  pub ran : (turns (iterations heads) (iteration_run w directive d.var body heads) s).out ≡ Ok last
  pub log : (parallel_run_of w line directive body d s).log ≡ both (heads_of d (further_head directive body) w.site s).log (both (within rounds (turns (iterations heads) (iteration_run w directive d.var body heads) s).log) (both (single (ends line)) (words_of_all heads)))

-- the arm that was taken
arm_calm : (p : Bool) (A B C D : Type 0) (m : ℕ) (f g : Run) (s s2 : Cells) (since : List Touch) → (choice p (in_arm m f) g s).out ≡ Ok s2 → Passes since (events_in 0 (choice p (in_arm m f) g s).log) → cond p C D
    → ((c : Cells) (since : List Touch) → (f s).out ≡ Ok c → Passes since (events_in 0 (f s).log) → C → A) → ((since : List Touch) → (g s).out ≡ Ok s2 → Passes since (events_in 0 (g s).log) → D → B) → cond p A B
arm_calm true A B C D m f g s s2 since h q r x y =
    let b = bound (f s) (with_log (single (pushes (Some (Index (pos m)))))) s2 h in
    let q1 = passes_split since (events_in 0 (f s).log) (events_in 0 (single (pushes (Some (Index (pos m)))))) (subst (λ (l : Log). Passes since (events_in 0 l)) b.log q) in
    x b.value since b.first q1.0 r
arm_calm false A B C D m f g s s2 since h q r x y = y since h q r

-- a parallel loop, by what is reported at its end
parallel_calm : (w : World) (line number : ℕ) (directive : Directive) (body : Statements) (d : Head) (s s2 : Cells) (since : List Touch) → AreFlat body → (parallel_run_of w line directive body d s).out ≡ Ok s2 → Passes since (events_in 0 (parallel_run_of w line directive body d s).log)
    → ((heads : Heads) → (heads_of d (further_head directive body) w.site s).out ≡ Ok heads → (i j : ℕ) → i < iterations heads → j < iterations heads → i ≢ j → SharedApart (in_iteration w number directive d.var body) (iteration_log w.site directive d.var heads body s i) (iteration_log w.site directive d.var heads body s j))
    → (heads : Heads) → (heads_of d (further_head directive body) w.site s).out ≡ Ok heads → (i j : ℕ) → i < iterations heads → j < iterations heads → i ≢ j → Calm (in_iteration w number directive d.var body) (iteration_log w.site directive d.var heads body s i) (iteration_log w.site directive d.var heads body s j)
parallel_calm w line number directive body d s s2 since flat h q r heads e i j a b n = record {
  kinds = λ k m p x y. apart_by (since_after since1 (events_in 0 (turns (iterations heads) (iteration_run w directive d.var body heads) s).log)) unreported i j n k m p
      (rounds_seen (iterations heads) f s at.last wr plain at.ran since1 i a k p x) (rounds_seen (iterations heads) f s at.last wr plain at.ran since1 j b m p y) (clashes k m) refl;
  shared = r heads e i j a b n;
}
  where
    p0 : ParallelRun w line d directive body s s2
    p0 = parallel_run w line d directive body s s2 h

    same : p0.heads ≡ heads
    same = let g : Ok p0.heads ≡ Ok heads = sym p0.counts ∙ e in cc

    at : RanHeads w line d directive body s heads
    at = subst (λ (x : Heads). RanHeads w line d directive body s x) same (record {
      last = p0.last;
      ran = p0.ran;
      log = ap (λ (t : Traced TrapAt Cells). t.log) (by_body w line d directive body s) ∙ p0.log;
    })

    since1 : List Touch
    since1 = since_after since (events_in 0 (heads_of d (further_head directive body) w.site s).log)

    f : ℕ → Run
    f = iteration_run w directive d.var body heads

    wr : (k : ℕ) (c : Cells) → (f k c).log ≡ within (iteration k) (inner_of (f k c).log)
    wr k c = refl

    plain : (k : ℕ) (c : Cells) → IsPlain (inner_of (f k c).log)
    plain k c = iteration_plain w directive d.var body heads k c (body_flat (is_nest directive body) body flat)

    passed : Passes since1 (events_in 0 (turns (iterations heads) f s).log ++ events_in 0 (both (single (ends line)) (words_of_all heads)))
    passed = (passes_split since (events_in 0 (heads_of d (further_head directive body) w.site s).log) (events_in 0 (turns (iterations heads) f s).log ++ events_in 0 (both (single (ends line)) (words_of_all heads)))
        (subst (λ (l : Log). Passes since (events_in 0 l)) at.log q)).1

    unreported : conflict (since_after since1 (events_in 0 (turns (iterations heads) f s).log)) ≡ None
    unreported = (passes_split since1 (events_in 0 (turns (iterations heads) f s).log) (events_in 0 (both (single (ends line)) (words_of_all heads))) passed).1.0

mutual
  calm_one : (x : Statement) (w : World) (u : Use) (s s2 : Cells) (since : List Touch) → Sound w u x → (run x w.site s).out ≡ Ok s2 → Passes since (events_in 0 (run x w.site s).log) → Pairwise SharedApart x w s → IsCalm x w s
  calm_one (assignment line atomic p e) w u s s2 since sound h q r = tt
  calm_one (branch line arms other) w u s s2 since sound h q r = calm_arms arms line 0 other w u s s2 since sound.1 (λ c since h q r. calm_all other w u s c since sound.2 h q r) h q r
  calm_one (loop line number None var first last step body) w u s s2 since sound h q r =
      λ t e k i s1 g.
      let tp = turn_start w line var first last step body s s2 since h q t e k i s1 g in
      calm_all body (in_turn w var) (scope_with var 0 u) (set_at (place_of w.site var []) (Some (Index (value_at t k))) s1) tp.last tp.since (sound.1 0) tp.out tp.passes (r t e k i s1 g)
  calm_one (loop line number (Some directive) var first last step body) w u s s2 since sound h q r = parallel_calm w line number directive body (record { line = line; var = var; first = first; last = last; step = step }) s s2 since sound.5 h q r

  calm_all : (xs : Statements) (w : World) (u : Use) (s s2 : Cells) (since : List Touch) → SoundAll w u xs → (run_all xs w.site s).out ≡ Ok s2 → Passes since (events_in 0 (run_all xs w.site s).log) → PairwiseAll SharedApart xs w s → IsCalmAll xs w s
  calm_all no_statements w u s s2 since sound h q r = tt
  calm_all (statement x xs) w u s s2 since sound h q r =
      let b = bound (run x w.site s) (run_all xs w.site) s2 h in
      let q1 = passes_split since (events_in 0 (run x w.site s).log) (events_in 0 (run_all xs w.site b.value).log) (subst (λ (l : Log). Passes since (events_in 0 l)) b.log q) in (
        calm_one x w u s b.value since sound.0 b.first q1.0 r.0,
        λ s1 e.
            let same : Ok b.value ≡ Ok s1 = sym b.first ∙ e in
            let at : b.value ≡ s1 = cc in
            subst (λ (c : Cells). IsCalmAll xs w c) at (calm_all xs w u b.value s2 (since_after since (events_in 0 (run x w.site s).log)) sound.1 b.second q1.1 (r.1 b.value b.first)),
      )

  calm_arms : (arms : Arms) (line m : ℕ) (others : Statements) (w : World) (u : Use) (s s2 : Cells) (since : List Touch) → SoundArms w u arms
      → ((c : Cells) (since : List Touch) → (run_all others w.site s).out ≡ Ok c → Passes since (events_in 0 (run_all others w.site s).log) → PairwiseAll SharedApart others w s → IsCalmAll others w s) → (run_arms arms line m (run_all others) w.site s).out ≡ Ok s2
      → Passes since (events_in 0 (run_arms arms line m (run_all others) w.site s).log) → PairwiseArms SharedApart arms (PairwiseAll SharedApart others w s) w s → IsCalmArms arms (IsCalmAll others w s) w s
  calm_arms no_arms line m others w u s s2 since sound more h q r =
      let b = bound (run_all others w.site s) (with_log (single (pushes (Some (Index (pos m)))))) s2 h in
      let q1 = passes_split since (events_in 0 (run_all others w.site s).log) (events_in 0 (single (pushes (Some (Index (pos m)))))) (subst (λ (l : Log). Passes since (events_in 0 l)) b.log q) in
      more b.value since b.first q1.0 r
  calm_arms (arm test body arms) line m others w u s s2 since sound more h q r =
      let b = bound (inside (condition m) (at_line line (holds test w.site s))) (λ p. choice p (in_arm m (run_all body w.site)) (run_arms arms line (m + 1) (run_all others) w.site) s) s2 h in
      let l = lined line (holds test w.site s) b.value b.first in
      let since1 : List Touch = since_after since (events_in 0 (at_line line (holds test w.site s)).log) in
      let q1 = passes_split since (events_in 0 (at_line line (holds test w.site s)).log) (events_in 0 (choice b.value (in_arm m (run_all body w.site)) (run_arms arms line (m + 1) (run_all others) w.site) s).log) (subst (λ (l : Log). Passes since (events_in 0 l)) b.log q) in
      λ p e.
      let same : Ok b.value ≡ Ok p = sym l.out ∙ e in
      let at : b.value ≡ p = cc in
      arm_calm p (IsCalmAll body w s) (IsCalmArms arms (IsCalmAll others w s) w s) (PairwiseAll SharedApart body w s) (PairwiseArms SharedApart arms (PairwiseAll SharedApart others w s) w s) m (run_all body w.site) (run_arms arms line (m + 1) (run_all others) w.site) s s2 since1
      (subst (λ (c : Bool). (choice c (in_arm m (run_all body w.site)) (run_arms arms line (m + 1) (run_all others) w.site) s).out ≡ Ok s2) at b.second)
      (subst (λ (c : Bool). Passes since1 (events_in 0 (choice c (in_arm m (run_all body w.site)) (run_arms arms line (m + 1) (run_all others) w.site) s).log)) at q1.1)
      (r p e)
      (λ c since h q r. calm_all body w u s c since sound.0 h q r)
      (λ since h q r. calm_arms arms line (m + 1) others w u s s2 since sound.1 more h q r)

pub unstopped : UnstoppedIsCalm
unstopped w u xs limits s s2 sound h e r = calm_all xs w u s s2 [] sound h (passes_of limits nothing_seen (events_in 0 (run_all xs w.site s).log) e) r

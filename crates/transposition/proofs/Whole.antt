-- The whole language: what runs keep, and that they are undone.
use Rattle.std.proofs.Common.{◌≡◌, ℕ, zero, suc, ◌+◌, ◌<◌, ◌^◌, List, [], ap, sym, ◌∙◌, subst, arith, Bool, true, false, ◌||◌, Option, Some, None, Ok, ℤ, pos}
use Rattle.std.specs.Prelude.{slice_set, bytes_eq, if◌then◌else◌, ◌+ℤ◌}
use Rattle.std.specs.Int.{w64, cast_unsigned}
use Rattle.ring_core.specs.Index.{IsIndex}
use Rattle.fl_ast.specs.declared.directive.Directive.{Directive}
use Rattle.fl_ast.specs.Tree.{Expression, Statement, assignment, branch, loop, Statements, no_statements, statement, Arms, no_arms, arm}
use Rattle.fl_types.specs.Increment.{increment_terms}
use Rattle.meaning.specs.declared.value.Value.{Value}
use Rattle.meaning.specs.declared.value.Value.TheVariants.{Index}
use Rattle.meaning.specs.declared.value.TrapAt.{TrapAt}
use Rattle.meaning.specs.declared.value.IterationCount.{IterationCount}
use Rattle.meaning.specs.Logs.{Log, Traced, inside, at_line, condition, ◌>>=◌}
use Rattle.meaning.specs.Sites.{Cells, Site, place_of, word_of}
use Rattle.meaning.specs.Expressions.{content, holds}
use Rattle.meaning.specs.Statements.{Run, with_log, assignment_by, turns_of, value_at, set_at, turns, loop_words, one_turn, run_turns, Heads, iterations, words_of_all, heads_of, run_parallel, choice, in_arm, run, run_all, run_inner, run_arms}
use Rattle.meaning.proofs.Parts.{bound}
use Rattle.transposition.specs.Worlds.{World, in_turn, in_iteration, name_at}
use Rattle.transposition.specs.Law.{Use, Fit, Within, Undoes}
use Rattle.transposition.specs.Sound.{scope_with, writes, writes_in, writes_in_arms, arm_count, Sound, SoundAll, SoundArms, SoundInner, SoundWithin}
use Rattle.transposition.proofs.RoundFacts.{round_facts}
use Rattle.transposition.proofs.Keys.{stands}
use Rattle.std.specs.Prelude.{int_div, ◌-ℤ◌}
use Rattle.store_core.specs.Bounds.{clipped}
use Rattle.meaning.proofs.Variables.{variables_fit}
use Rattle.meaning.specs.Sites.{in_turn as site_in_turn}
use Rattle.transposition.proofs.Kept.{Keeps, keeps_itself, keeps_both, keeps_wider, assigned_kept}
use Rattle.std.proofs.Common.{inr}
use Rattle.meaning.specs.Logs.{both, within, single, pushes, ends, rounds}
use Rattle.operations.specs.Tree.{Tree}
use Rattle.transposition.specs.Tapes.{Tape, word, tape_after, iteration_tapes}
use Rattle.transposition.specs.Worlds.{Local}
use Rattle.transposition.specs.Back.{assignment_back, turns_back, one_turn_back, loop_back, parallel_back, back, back_all}
use Rattle.transposition.proofs.Taping.{wordless_holds}
use Rattle.transposition.proofs.Runs.{lined, turns_run, held_here, fit_turn, fit_outside, variable_kept, turn_index, turn_out, noted_out, turns_kept}
use Rattle.fl_types.specs.Sharing.{has_name}
use Rattle.std.specs.Prelude.{cond}
use Rattle.transposition.specs.Calms.{IsCalm, IsCalmAll, IsCalmArms, IsFlat, AreFlat, AreFlatArms}
use Rattle.transposition.proofs.Runs.{or_first}
use Rattle.transposition.proofs.Undone.{undone_both, undone_none, undone_tape, within_left, within_right, within_instance, within_same, assigned_undone, turns_wordless, arm_word, turn_undone, within_taken, arm_moved, arm_chosen, words_undone, ArmUndone, turn_told}
use Rattle.transposition.proofs.Iterations.{KeptBody, UndoneBody, iteration_run}
use Rattle.transposition.proofs.Parallel.{iteration_kept, loop_tape, parallel_undone}
use Rattle.transposition.proofs.Heads.{heads_run, names_set, all_index}
use Rattle.transposition.proofs.Nesting.{body_run, body_back}
use Rattle.fl_types.specs.Nests.{Head, is_nest, further_head, iteration_body, inner_body, statements_in}

-- the run of a parallel loop: its heads, its iterations, and its words
pub record ParallelRun (w : World) (line : ℕ) (d : Head) (directive : Directive) (body : Statements) (s s2 : Cells) : Type 0 where
  pub heads : Heads
  pub counts : (heads_of d (further_head directive body) w.site s).out ≡ Ok heads
  pub last : Cells
  pub ran : (turns (iterations heads) (iteration_run w directive d.var body heads) s).out ≡ Ok last
  pub last_is : last ≡ s2
  pub log : (heads_of d (further_head directive body) w.site s >>= (λ heads. run_parallel line directive d.var body (run_all (iteration_body directive body)) w.site heads s)).log
      ≡ both (heads_of d (further_head directive body) w.site s).log (both (within rounds (turns (iterations heads) (iteration_run w directive d.var body heads) s).log) (both (single (ends line)) (words_of_all heads)))

parallel_parts : (w : World) (line : ℕ) (d : Head) (directive : Directive) (body : Statements) (s s2 : Cells) → (heads_of d (further_head directive body) w.site s >>= (λ heads. run_parallel line directive d.var body (run_all (iteration_body directive body)) w.site heads s)).out ≡ Ok s2 → ParallelRun w line d directive body s s2
parallel_parts w line d directive body s s2 h =
    let b = bound (heads_of d (further_head directive body) w.site s) (λ heads. run_parallel line directive d.var body (run_all (iteration_body directive body)) w.site heads s) s2 h in
    let c = bound (inside rounds (turns (iterations b.value) (iteration_run w directive d.var body b.value) s)) (with_log (both (single (ends line)) (words_of_all b.value))) s2 b.second in
    record {
      heads = b.value;
      counts = b.first;
      last = c.value;
      ran = c.first;
      last_is = noted_out (both (single (ends line)) (words_of_all b.value)) c.value s2 c.second;
      log = b.log ∙ ap (λ (l : Log). both (heads_of d (further_head directive body) w.site s).log l) c.log;
    }

-- by the statements of an iteration
pub by_body : (w : World) (line : ℕ) (d : Head) (directive : Directive) (body : Statements) (s : Cells) → (heads_of d (further_head directive body) w.site s >>= (λ heads. run_parallel line directive d.var body (if is_nest directive body then run_inner body else run_all body) w.site heads s))
    ≡ (heads_of d (further_head directive body) w.site s >>= (λ heads. run_parallel line directive d.var body (run_all (iteration_body directive body)) w.site heads s))
by_body w line d directive body s = ap (λ (f : Site → Run). heads_of d (further_head directive body) w.site s >>= (λ heads. run_parallel line directive d.var body f w.site heads s)) (body_run (is_nest directive body) body)

pub parallel_run : (w : World) (line : ℕ) (d : Head) (directive : Directive) (body : Statements) (s s2 : Cells) → (heads_of d (further_head directive body) w.site s >>= (λ heads. run_parallel line directive d.var body (if is_nest directive body then run_inner body else run_all body) w.site heads s)).out ≡ Ok s2 → ParallelRun w line d directive body s s2
parallel_run w line d directive body s s2 h = parallel_parts w line d directive body s s2 (ap (λ (t : Traced TrapAt Cells). t.out) (sym (by_body w line d directive body s)) ∙ h)

kept_none : (w : World) (u : Use) (s s2 : Cells) → Fit w u s → (run_all no_statements w.site s).out ≡ Ok s2 → Keeps w u (λ y. false) s s2
kept_none w u s s2 fit h = let e : s ≡ s2 = cc in subst (λ (x : Cells). Keeps w u (λ y. false) s x) e (keeps_itself w u (λ y. false) s fit)

pub kept_body : (b : Bool) (tree : Statements) (w : World) (u : Use) → cond b (SoundInner w u tree) (SoundAll w u tree) → (SoundAll w u tree → KeptBody w u tree) → (SoundInner w u tree → KeptBody w u (inner_body tree)) → KeptBody w u (if b then inner_body tree else tree)
kept_body true tree w u q f g = g q
kept_body false tree w u q f g = f q

pub sound_undone : (b : Bool) (tree : Statements) (w : World) (u : Use) → cond b (SoundInner w u tree) (SoundAll w u tree) → (SoundAll w u tree → (s : Cells) → UndoneBody w u tree s) → (SoundInner w u tree → (s : Cells) → UndoneBody w u (inner_body tree) s) → (s : Cells) → UndoneBody w u (if b then inner_body tree else tree) s
sound_undone true tree w u q f g = g q
sound_undone false tree w u q f g = f q

mutual
  pub kept : (x : Statement) (w : World) (u : Use) (s s2 : Cells) → Fit w u s → Sound w u x → (run x w.site s).out ≡ Ok s2 → Keeps w u (λ y. writes y x) s s2
  kept (assignment line atomic p e) w u s s2 fit sound h =
      let l = lined line (assignment_by w.site s atomic p e (increment_terms w.site.ring p e)) s2 h in
      assigned_kept w u s atomic p e (increment_terms w.site.ring p e) s2 fit sound l.out
  kept (branch line arms other) w u s s2 fit sound h =
      kept_arms arms line 0 (run_all other) (λ y. writes_in y other) w u s s2 fit sound.1 (λ s s2 fit h. kept_all other w u s s2 fit sound.2 h) h
  kept (loop line number None var first last step body) w u s s2 fit sound h =
      let b = bound (at_line line (turns_of first last step w.site s)) (λ t. run_turns var (run_all body) w.site t s) s2 h in
      let l = lined line (turns_of first last step w.site s) b.value b.first in
      let t = turns_run w u s fit first last step sound.0.literals b.value l.out in
      let c = bound (turns b.value.count (one_turn w.site var b.value (run_all body)) s) (with_log (loop_words b.value)) s2 b.second in
      let e : c.value ≡ s2 = noted_out (loop_words b.value) c.value s2 c.second in
      subst (λ (x : Cells). Keeps w u (λ y. bytes_eq y var || writes_in y body) s x) e
      (turns_kept w u (λ y. bytes_eq y var || writes_in y body) b.value.count (one_turn w.site var b.value (run_all body))
      (λ k i s s2 fit h.
      let o = turn_out w u var first last step b.value (run_all body) k s sound.0 s2 h in
      let m = variable_kept w u var first last step s (value_at b.value k) sound.0 fit (turn_index w s first last step b.value k (record { low = t.low; high = t.high; by = t.by; count = t.count }) i) in
      let n = cast_unsigned w64 (value_at b.value k) in
      let d = kept_all body (in_turn w var) (scope_with var n u) (slice_set s sound.0.q (Some (Index (value_at b.value k)))) s2 (fit_turn w u var first last step sound.0 (value_at b.value k) s fit.long m.fit) (sound.1 n) o in
      keeps_both w u (λ y. bytes_eq y var) (λ y. writes_in y body) s (slice_set s sound.0.q (Some (Index (value_at b.value k)))) s2 m (record { fit = fit_outside w u var n s2 sound.0.unheld d.fit; same = d.same }))
      s c.value fit c.first)
  kept (loop line number (Some directive) var first last step body) w u s s2 fit sound h =
      let d : Head = record { line = line; var = var; first = first; last = last; step = step } in
      let p = parallel_run w line d directive body s s2 h in
      let r = heads_run w u s fit d (further_head directive body) sound.2 sound.3 p.heads p.counts in
      subst (λ (x : Cells). Keeps w u (λ y. bytes_eq y var || (has_name y directive.privates || writes_in y body)) s x) p.last_is
      (turns_kept w u (λ y. bytes_eq y var || (has_name y directive.privates || writes_in y body)) (iterations p.heads) (iteration_run w directive var body p.heads)
      (λ k i s s2 fit h. iteration_kept w u sound.0 number directive var body (round_facts w u sound.0 number directive var body sound.5 sound.1)
      (kept_body (is_nest directive body) body (in_iteration w number directive var body) sound.0 sound.4
      (λ q s s2 fit h. kept_all body (in_iteration w number directive var body) sound.0 s s2 fit q h)
      (λ q s s2 fit h. kept_inner body (in_iteration w number directive var body) sound.0 s s2 fit q h))
      p.heads k s s2 (names_set p.heads k ∙ r.names) (all_index p.heads k r.counted i) fit h)
      s p.last fit p.ran)

  pub kept_all : (xs : Statements) (w : World) (u : Use) (s s2 : Cells) → Fit w u s → SoundAll w u xs → (run_all xs w.site s).out ≡ Ok s2 → Keeps w u (λ y. writes_in y xs) s s2
  kept_all no_statements w u s s2 fit sound h = let e : s ≡ s2 = cc in subst (λ (x : Cells). Keeps w u (λ y. false) s x) e (keeps_itself w u (λ y. false) s fit)
  kept_all (statement x xs) w u s s2 fit sound h =
      let b = bound (run x w.site s) (run_all xs w.site) s2 h in
      let one = kept x w u s b.value fit sound.0 b.first in
      keeps_both w u (λ y. writes y x) (λ y. writes_in y xs) s b.value s2 one (kept_all xs w u b.value s2 one.fit sound.1 b.second)

  -- the loop in a body
  pub kept_inner : (xs : Statements) (w : World) (u : Use) (s s2 : Cells) → Fit w u s → SoundInner w u xs → (run_all (inner_body xs) w.site s).out ≡ Ok s2 → Keeps w u (λ y. writes_in y (inner_body xs)) s s2
  kept_inner no_statements w u s s2 fit sound h = kept_none w u s s2 fit h
  kept_inner (statement x xs) w u s s2 fit sound h = kept_within x w u s s2 fit sound h

  kept_within : (x : Statement) (w : World) (u : Use) (s s2 : Cells) → Fit w u s → SoundWithin w u x → (run_all (statements_in x) w.site s).out ≡ Ok s2 → Keeps w u (λ y. writes_in y (statements_in x)) s s2
  kept_within (assignment line atomic p e) w u s s2 fit sound h = kept_none w u s s2 fit h
  kept_within (branch line arms other) w u s s2 fit sound h = kept_none w u s s2 fit h
  kept_within (loop line number directive var first last step body) w u s s2 fit sound h = kept_all body w u s s2 fit sound h

  pub kept_arms : (arms : Arms) (line m : ℕ) (other : Site → Run) (test : List ℕ → Bool) (w : World) (u : Use) (s s2 : Cells) → Fit w u s → SoundArms w u arms
      → ((s s2 : Cells) → Fit w u s → (other w.site s).out ≡ Ok s2 → Keeps w u test s s2) → (run_arms arms line m other w.site s).out ≡ Ok s2 → Keeps w u (λ y. writes_in_arms y arms || test y) s s2
  kept_arms no_arms line m other test w u s s2 fit sound k h =
      let b = bound (other w.site s) (with_log (single (pushes (Some (Index (pos m)))))) s2 h in
      let e : b.value ≡ s2 = noted_out (single (pushes (Some (Index (pos m))))) b.value s2 b.second in
      subst (λ (x : Cells). Keeps w u test s x) e (k s b.value fit b.first)
  kept_arms (arm test1 body arms) line m other test w u s s2 fit sound k h =
      let b = bound (inside (condition m) (at_line line (holds test1 w.site s))) (λ p. choice p (in_arm m (run_all body w.site)) (run_arms arms line (m + 1) other w.site) s) s2 h in
      by_test b.value b.second
      (λ g. let c = bound (run_all body w.site s) (with_log (single (pushes (Some (Index (pos m)))))) s2 g in
      let e : c.value ≡ s2 = noted_out (single (pushes (Some (Index (pos m))))) c.value s2 c.second in
      subst (λ (x : Cells). Keeps w u (λ y. writes_in y body) s x) e (kept_all body w u s c.value fit sound.0 c.first))
      (λ g. kept_arms arms line (m + 1) other test w u s s2 fit sound.1 k g)
    where
      by_test : (t : Bool) → (choice t (in_arm m (run_all body w.site)) (run_arms arms line (m + 1) other w.site) s).out ≡ Ok s2
          → ((in_arm m (run_all body w.site) s).out ≡ Ok s2 → Keeps w u (λ y. writes_in y body) s s2) → ((run_arms arms line (m + 1) other w.site s).out ≡ Ok s2 → Keeps w u (λ y. writes_in_arms y arms || test y) s s2)
          → Keeps w u (λ y. (writes_in y body || writes_in_arms y arms) || test y) s s2
      by_test true g f1 f2 = keeps_wider w u (λ y. writes_in y body) (λ y. (writes_in y body || writes_in_arms y arms) || test y) s s2 (λ x e. or_first (writes_in x body) (writes_in_arms x arms) (or_first (writes_in x body || writes_in_arms x arms) (test x) e)) (f1 g)
      by_test false g f1 f2 = keeps_wider w u (λ y. writes_in_arms y arms || test y) (λ y. (writes_in y body || writes_in_arms y arms) || test y) s s2 (λ x e. or_later (writes_in x body) (writes_in_arms x arms) (test x) e) (f2 g)
        where
          or_later : (a b c : Bool) → ((a || b) || c) ≡ false → (b || c) ≡ false
          or_later true b c e = cc
          or_later false b c e = e

picked : (p : Bool) (A B : Type 0) → A → B → cond p A B
picked true A B a b = a
picked false A B a b = b

turns_undone_from : (w : World) (u : Use) (ts : Log) (test : List ℕ → Bool) (n : ℕ) (f : ℕ → Run) (g : ℕ → Local → Tree Local) (s : Cells)
    → ((k : ℕ) → k < n → (s s2 : Cells) → Fit w u s → (f k s).out ≡ Ok s2 → Keeps w u test s s2)
    → ((k : ℕ) → k < n → (s1 s2 : Cells) (t : Tape) → (turns k f s).out ≡ Ok s1 → Fit w u s1 → Within w.active (f k s1).log ts → (f k s1).out ≡ Ok s2 → Undoes w u ts (g k) t (tape_after (f k s1).log t) s1 s2)
    → (s2 : Cells) (t : Tape) → Fit w u s → Within w.active (turns n f s).log ts → (turns n f s).out ≡ Ok s2 → Undoes w u ts (turns_back n g) t (tape_after (turns n f s).log t) s s2
turns_undone_from w u ts test zero f g s keep step s2 t fit ins h = undone_none w u ts t s s2 (let e : s ≡ s2 = cc in e)
turns_undone_from w u ts test (suc n) f g s keep step s2 t fit ins h =
    let b = bound (turns n f s) (f n) s2 h in
    let one = turns_kept w u test n f (λ k i. keep k (omega arith)) s b.value fit b.first in
    let first = turns_undone_from w u ts test n f g s (λ k i. keep k (omega arith)) (λ k i. step k (omega arith)) b.value t fit (within_left w.active _ _ _ ts b.log ins) b.first in
    let second = step n (omega arith) b.value s2 (tape_after (turns n f s).log t) b.first one.fit (within_right w.active _ _ _ ts b.log ins) b.second in
    undone_tape w u ts (turns_back (suc n) g) t _ _ s s2 (ap (λ (l : Log). tape_after l t) (sym b.log)) (undone_both w u ts (turns_back n g) (g n) t (tape_after (turns n f s).log t) _ s b.value s2 first second)

calm_at : (body : Statements) (w : World) (o : Option ℕ) (v : Option Value) (s : Cells) {q : ℕ} → o ≡ Some q → IsCalmAll body w (set_at o v s) → IsCalmAll body w (slice_set s q v)
calm_at body w o v s e h = subst (λ (x : Option ℕ). IsCalmAll body w (set_at x v s)) e h

mutual
  flat_one : (x : Statement) (w : World) (s : Cells) → IsFlat x → IsCalm x w s
  flat_one (assignment line atomic p e) w s h = tt
  flat_one (branch line arms other) w s h = flat_arms arms other w s (flat_calm other w s h.1) h.0
  flat_one (loop line number None var first last step body) w s h = λ t e k i s1 f. flat_calm body (in_turn w var) _ h
  flat_one (loop line number (Some directive) var first last step body) w s h = absurd h

  pub flat_calm : (xs : Statements) (w : World) (s : Cells) → AreFlat xs → IsCalmAll xs w s
  flat_calm no_statements w s h = tt
  flat_calm (statement x xs) w s h = (flat_one x w s h.0, λ s1 e. flat_calm xs w s1 h.1)

  flat_arms : (arms : Arms) (o : Statements) (w : World) (s : Cells) → IsCalmAll o w s → AreFlatArms arms → IsCalmArms arms (IsCalmAll o w s) w s
  flat_arms no_arms o w s c h = c
  flat_arms (arm test body arms) o w s c h = λ p e. picked p (IsCalmAll body w s) (IsCalmArms arms (IsCalmAll o w s) w s) (flat_calm body w s h.0) (flat_arms arms o w s c h.1)

-- a turn, with what is known of its body
turn_kept : (line number : ℕ) (var : List ℕ) (first last : Expression) (step : Option Expression) (body : Statements) (w : World) (u : Use) (s s2 : Cells) (t : IterationCount) (k : ℕ) → k < t.count → Fit w u s → Sound w u (loop line number None var first last step body)
    → IsIndex t.first → IsIndex t.last → t.count ≡ clipped (int_div ((t.last -ℤ t.first) +ℤ t.step) t.step) → (one_turn w.site var t (run_all body) k s).out ≡ Ok s2 → ((n : ℕ) → KeptBody (in_turn w var) (scope_with var n u) body) → Keeps w u (λ y. bytes_eq y var || writes_in y body) s s2
turn_kept line number var first last step body w u s s2 t k i fit sound low high count h keeping =
    let o = turn_out w u var first last step t (run_all body) k s sound.0 s2 h in
    let z : IsIndex (value_at t k) = variables_fit t.first t.last t.step k low high (subst (λ (n : ℕ). k < n) count i) in
    let m = variable_kept w u var first last step s (value_at t k) sound.0 fit z in
    let n = cast_unsigned w64 (value_at t k) in
    let d = keeping n (slice_set s sound.0.q (Some (Index (value_at t k)))) s2 (fit_turn w u var first last step sound.0 (value_at t k) s fit.long m.fit) o in
    keeps_both w u (λ y. bytes_eq y var) (λ y. writes_in y body) s (slice_set s sound.0.q (Some (Index (value_at t k)))) s2 m (record { fit = fit_outside w u var n s2 sound.0.unheld d.fit; same = d.same })

turn_step : (line number : ℕ) (var : List ℕ) (first last : Expression) (step : Option Expression) (body : Statements) (w : World) (u : Use) (ts : Log) (s s2 : Cells) (t : Tape) (tr : IterationCount) (k : ℕ) → k < tr.count → Fit w u s → Sound w u (loop line number None var first last step body)
    → IsIndex tr.first → IsIndex tr.last → tr.count ≡ clipped (int_div ((tr.last -ℤ tr.first) +ℤ tr.step) tr.step) → Within w.active (one_turn w.site var tr (run_all body) k s).log ts → (one_turn w.site var tr (run_all body) k s).out ≡ Ok s2
    → ((n : ℕ) → KeptBody (in_turn w var) (scope_with var n u) body) → ((n q : ℕ) → place_of w.site var [] ≡ Some q → UndoneBody (in_turn w var) (scope_with var n u) body (slice_set s q (Some (Index (value_at tr k)))))
    → Undoes w u ts (one_turn_back w var tr (back_all body) k) t (tape_after (one_turn w.site var tr (run_all body) k s).log t) s s2
turn_step line number var first last step body w u ts s s2 t tr k i fit sound low high count ins h keeping under =
    let v = sound.0 in
    let z : ℤ = value_at tr k in
    let s1 : Cells = slice_set s v.q (Some (Index z)) in
    let st = stands w.site.keys var [] v.q v.place in
    let o = turn_out w u var first last step tr (run_all body) k s v s2 h in
    let iz : IsIndex z = variables_fit tr.first tr.last tr.step k low high (subst (λ (n : ℕ). k < n) count i) in
    let m = variable_kept w u var first last step s z v fit iz in
    let n : ℕ = cast_unsigned w64 z in
    let fit1 = fit_turn w u var first last step v z s fit.long m.fit in
    let d = keeping n s1 s2 fit1 o in
    let told : Within w.active (turn_told (run_all body) w.site var z s (Some v.q)).log ts = subst (λ (x : Option ℕ). Within w.active (turn_told (run_all body) w.site var z s x).log ts) v.place (record { touches = ins.touches; differentiated = ins.differentiated }) in
    let in-body : Within w.active (run_all body (site_in_turn w.site var) s1).log ts = record { touches = λ a p j. told.touches a p (inr j); differentiated = λ p j. told.differentiated p (inr j) } in
    let held : (y : Value) → content s2 v.q ≡ Some y → word_of (Some y) ≡ n = λ y e. d.fit.held v.q n y e (held_here var n u (name_at w.site.keys v.q) st.named) in
    undone_tape w u ts (one_turn_back w var tr (back_all body) k) t (tape_after (run_all body (site_in_turn w.site var) s1).log t) _ s s2
    (ap (λ (x : Option ℕ). tape_after (turn_told (run_all body) w.site var z s x).log t) (sym v.place))
    (turn_undone w u ts var first last step v tr k (back_all body) t _ s s2 fit.long (held, under n v.q v.place ts s2 t fit1 in-body o))

-- ---- statements

mutual
  pub undone : (x : Statement) (w : World) (u : Use) (ts : Log) (s s2 : Cells) (t : Tape) → Fit w u s → Sound w u x → IsCalm x w s → Within w.active (run x w.site s).log ts → (run x w.site s).out ≡ Ok s2 → Undoes w u ts (back x w) t (tape_after (run x w.site s).log t) s s2
  undone (assignment line atomic p e) w u ts s s2 t fit sound calm ins h =
      let o = increment_terms w.site.ring p e in
      let l = lined line (assignment_by w.site s atomic p e o) s2 h in
      undone_tape w u ts (λ l. assignment_back w atomic p e o l) t _ _ s s2 (ap (λ (m : Log). tape_after m t) (sym l.log))
      (assigned_undone w u ts atomic p e o sound s t fit (within_same w.active _ _ ts l.log (within_instance w.active _ ts ins)) s2 l.out)
  undone (branch line arms other) w u ts s s2 t fit sound calm ins h =
      let a = arms_undone arms line 0 other w u ts s s2 t fit (omega (arith, sound.0)) sound.1 calm (λ c s2 t ins h. undone_all other w u ts s s2 t fit sound.2 c ins h) (within_instance w.active _ ts ins) h in
      let e : 0 + a.k ≡ a.k = omega arith in
      undone_tape w u ts (back (branch line arms other) w) t (word (0 + a.k) a.body) _ s s2 (sym a.tape) (rw e a.undone)
  undone (loop line number None var first last step body) w u ts s s2 t fit sound calm ins h =
      let b = bound (at_line line (turns_of first last step w.site s)) (λ t. run_turns var (run_all body) w.site t s) s2 h in
      let l = lined line (turns_of first last step w.site s) b.value b.first in
      let tr = turns_run w u s fit first last step sound.0.literals b.value l.out in
      let n = b.value.count in
      let f = one_turn w.site var b.value (run_all body) in
      let c = bound (turns n f s) (with_log (loop_words b.value)) s2 b.second in
      let e : c.value ≡ s2 = noted_out (loop_words b.value) c.value s2 c.second in
      let in-loop = within_right w.active _ _ _ ts b.log (within_instance w.active _ ts ins) in
      let in-turns = within_left w.active _ _ _ ts c.log in-loop in
      let tape = tape_after (turns n f s).log t in
      let turned : Undoes w u ts (turns_back n (one_turn_back w var b.value (back_all body))) t tape s c.value =
      turns_undone_from w u ts (λ y. bytes_eq y var || writes_in y body) n f (one_turn_back w var b.value (back_all body)) s
      (λ k i s s2 fit h. turn_kept line number var first last step body w u s s2 b.value k i fit sound tr.low tr.high tr.count h (λ n s s2 fit h. kept_all body (in_turn w var) (scope_with var n u) s s2 fit (sound.1 n) h))
      (λ k i s1 s2 t met fit ins h. turn_step line number var first last step body w u ts s1 s2 t b.value k i fit sound tr.low tr.high tr.count ins h (λ n s s2 fit h. kept_all body (in_turn w var) (scope_with var n u) s s2 fit (sound.1 n) h)
      (λ n q pl ts s2 t fit ins h. undone_all body (in_turn w var) (scope_with var n u) ts _ s2 t fit (sound.1 n) (calm_at body (in_turn w var) _ _ s1 pl (calm b.value l.out k i s1 met)) ins h))
      c.value t fit in-turns c.first in
      let counted : Undoes w u ts (turns_back n (one_turn_back w var b.value (back_all body))) t tape s s2 =
      subst (λ (x : Cells). Undoes w u ts (turns_back n (one_turn_back w var b.value (back_all body))) t tape s x) e turned in
      let words : Undoes w u ts (loop_back w var (back_all body)) t (word (cast_unsigned w64 b.value.step) (word (cast_unsigned w64 b.value.last) (word (cast_unsigned w64 b.value.first) tape))) s s2 =
      words_undone w u ts var body b.value tape t s s2 tr.low tr.high tr.by tr.count counted in
      undone_tape w u ts (back (loop line number None var first last step body) w) t _ _ s s2
      (sym (ap (λ (m : Log). tape_after m t) b.log ∙ (ap (λ (m : Log). tape_after m (tape_after (at_line line (turns_of first last step w.site s)).log t)) c.log
      ∙ ap (λ (x : Tape). tape_after (loop_words b.value) (tape_after (turns n f s).log x)) (ap (λ (m : Log). tape_after m t) l.log ∙ turns_wordless first last step w.site s t)))) words
  undone (loop line number (Some directive) var first last step body) w u ts s s2 t fit sound calm ins h =
      let d : Head = record { line = line; var = var; first = first; last = last; step = step } in
      let v = in_iteration w number directive var body in
      let p = parallel_run w line d directive body s s2 h in
      let r = heads_run w u s fit d (further_head directive body) sound.2 sound.3 p.heads p.counts in
      let n = iterations p.heads in
      let f = iteration_run w directive var body p.heads in
      let words : Undoes w u ts (parallel_back w number directive var body (back_all (iteration_body directive body))) t (loop_tape p.heads (iteration_tapes (turns n f s).log) t) s s2 =
      λ vs bs lk wide long small. (parallel_undone w u sound.0 ts number directive var body (round_facts w u sound.0 number directive var body sound.5 sound.1)
      (kept_body (is_nest directive body) body v sound.0 sound.4 (λ q s s2 fit h. kept_all body v sound.0 s s2 fit q h) (λ q s s2 fit h. kept_inner body v sound.0 s s2 fit q h))
      (sound_undone (is_nest directive body) body v sound.0 sound.4
      (λ q s ts s2 t fit ins h. undone_all body v sound.0 ts s s2 t fit q (flat_calm body v s sound.5) ins h)
      (λ q s ts s2 t fit ins h. undone_inner body v sound.0 ts s s2 t fit q sound.5 ins h))
      p.heads r.names r.counted s s2 fit (p.ran ∙ ap (λ (x : Cells). Ok x) p.last_is) (calm p.heads p.counts) t vs bs lk wide long small).ends in
      undone_tape w u ts (back (loop line number (Some directive) var first last step body) w) t (loop_tape p.heads (iteration_tapes (turns n f s).log) t) _ s s2
      (sym (ap (λ (x : Traced TrapAt Cells). tape_after x.log t) (by_body w line d directive body s) ∙ (ap (λ (m : Log). tape_after m t) p.log
      ∙ ap (λ (x : Tape). loop_tape p.heads (iteration_tapes (turns n f s).log) x) (r.quiet t))))
      (subst (λ (g : World → Local → Tree Local). Undoes w u ts (parallel_back w number directive var body g) t (loop_tape p.heads (iteration_tapes (turns n f s).log) t) s s2) (sym (body_back (is_nest directive body) body)) words)

  pub undone_all : (xs : Statements) (w : World) (u : Use) (ts : Log) (s s2 : Cells) (t : Tape) → Fit w u s → SoundAll w u xs → IsCalmAll xs w s → Within w.active (run_all xs w.site s).log ts → (run_all xs w.site s).out ≡ Ok s2 → Undoes w u ts (back_all xs w) t (tape_after (run_all xs w.site s).log t) s s2
  undone_all no_statements w u ts s s2 t fit sound calm ins h = undone_none w u ts t s s2 (let e : s ≡ s2 = cc in e)
  undone_all (statement x xs) w u ts s s2 t fit sound calm ins h =
      let b = bound (run x w.site s) (run_all xs w.site) s2 h in
      let one = kept x w u s b.value fit sound.0 b.first in
      let first = undone x w u ts s b.value t fit sound.0 calm.0 (within_left w.active _ _ _ ts b.log ins) b.first in
      let second = undone_all xs w u ts b.value s2 (tape_after (run x w.site s).log t) one.fit sound.1 (calm.1 b.value b.first) (within_right w.active _ _ _ ts b.log ins) b.second in
      undone_tape w u ts (back_all (statement x xs) w) t _ _ s s2 (ap (λ (l : Log). tape_after l t) (sym b.log)) (undone_both w u ts (back x w) (back_all xs w) t (tape_after (run x w.site s).log t) _ s b.value s2 first second)

  -- the loop in a body
  pub undone_inner : (xs : Statements) (w : World) (u : Use) (ts : Log) (s s2 : Cells) (t : Tape) → Fit w u s → SoundInner w u xs → AreFlat xs → Within w.active (run_all (inner_body xs) w.site s).log ts → (run_all (inner_body xs) w.site s).out ≡ Ok s2
      → Undoes w u ts (back_all (inner_body xs) w) t (tape_after (run_all (inner_body xs) w.site s).log t) s s2
  undone_inner no_statements w u ts s s2 t fit sound calm ins h = undone_none w u ts t s s2 (let e : s ≡ s2 = cc in e)
  undone_inner (statement x xs) w u ts s s2 t fit sound calm ins h = undone_within x w u ts s s2 t fit sound calm.0 ins h

  undone_within : (x : Statement) (w : World) (u : Use) (ts : Log) (s s2 : Cells) (t : Tape) → Fit w u s → SoundWithin w u x → IsFlat x → Within w.active (run_all (statements_in x) w.site s).log ts → (run_all (statements_in x) w.site s).out ≡ Ok s2
      → Undoes w u ts (back_all (statements_in x) w) t (tape_after (run_all (statements_in x) w.site s).log t) s s2
  undone_within (assignment line atomic p e) w u ts s s2 t fit sound calm ins h = undone_none w u ts t s s2 (let e : s ≡ s2 = cc in e)
  undone_within (branch line arms other) w u ts s s2 t fit sound calm ins h = undone_none w u ts t s s2 (let e : s ≡ s2 = cc in e)
  undone_within (loop line number None var first last step body) w u ts s s2 t fit sound calm ins h = undone_all body w u ts s s2 t fit sound (flat_calm body w s calm) ins h
  undone_within (loop line number (Some directive) var first last step body) w u ts s s2 t fit sound calm ins h = absurd calm

  arms_undone : (arms : Arms) (line m : ℕ) (others : Statements) (w : World) (u : Use) (ts : Log) (s s2 : Cells) (t : Tape) → Fit w u s → m + arm_count arms < 2 ^ 64 → SoundArms w u arms → IsCalmArms arms (IsCalmAll others w s) w s
      → (IsCalmAll others w s → (s2 : Cells) (t : Tape) → Within w.active (run_all others w.site s).log ts → (run_all others w.site s).out ≡ Ok s2 → Undoes w u ts (back_all others w) t (tape_after (run_all others w.site s).log t) s s2)
      → Within w.active (run_arms arms line m (run_all others) w.site s).log ts → (run_arms arms line m (run_all others) w.site s).out ≡ Ok s2 → ArmUndone w u ts arms (back_all others) m t (tape_after (run_arms arms line m (run_all others) w.site s).log t) s s2
  arms_undone no_arms line m others w u ts s s2 t fit few sound calm k ins h =
      let b = bound (run_all others w.site s) (with_log (single (pushes (Some (Index (pos m)))))) s2 h in
      let e : b.value ≡ s2 = noted_out (single (pushes (Some (Index (pos m))))) b.value s2 b.second in
      record {
        k = 0;
        body = tape_after (run_all others w.site s).log t;
        tape = ap (λ (l : Log). tape_after l t) b.log ∙ ap (λ (i : ℕ). word i (tape_after (run_all others w.site s).log t)) (arm_word m (omega arith) ∙ omega arith);
        undone = subst (λ (x : Cells). Undoes w u ts (back_all others w) t (tape_after (run_all others w.site s).log t) s x) e (k calm b.value t (within_left w.active _ _ _ ts b.log (within_taken w.active m _ ts ins)) b.first);
      }
  arms_undone (arm test body arms) line m others w u ts s s2 t fit few sound calm k ins h =
      let b = bound (inside (condition m) (at_line line (holds test w.site s))) (λ p. choice p (in_arm m (run_all body w.site)) (run_arms arms line (m + 1) (run_all others) w.site) s) s2 h in
      let l = lined line (holds test w.site s) b.value b.first in
      let quiet : tape_after (within (condition m) (at_line line (holds test w.site s)).log) t ≡ t = ap (λ (x : Log). tape_after x t) l.log ∙ wordless_holds test w.site s t in
      let tape-is : tape_after (run_arms (arm test body arms) line m (run_all others) w.site s).log t ≡ tape_after (choice b.value (in_arm m (run_all body w.site)) (run_arms arms line (m + 1) (run_all others) w.site) s).log t =
      ap (λ (x : Log). tape_after x t) b.log ∙ ap (tape_after (choice b.value (in_arm m (run_all body w.site)) (run_arms arms line (m + 1) (run_all others) w.site) s).log) quiet in
      arm_moved w u ts (arm test body arms) (back_all others) m t _ _ s s2 (sym tape-is)
      (arm_chosen w u ts test body arms line m (run_all others) (back_all others) t s s2 b.value b.second (within_right w.active _ _ _ ts b.log ins)
      (calm b.value l.out)
      (λ q i g. let c = bound (run_all body w.site s) (with_log (single (pushes (Some (Index (pos m)))))) s2 g in
      let e : c.value ≡ s2 = noted_out (single (pushes (Some (Index (pos m))))) c.value s2 c.second in
      record {
        k = 0;
        body = tape_after (run_all body w.site s).log t;
        tape = ap (λ (x : Log). tape_after x t) c.log ∙ ap (λ (i : ℕ). word i (tape_after (run_all body w.site s).log t)) (arm_word m (omega arith) ∙ omega arith);
        undone = subst (λ (x : Cells). Undoes w u ts (back_all body w) t (tape_after (run_all body w.site s).log t) s x) e (undone_all body w u ts s c.value t fit sound.0 q (within_left w.active _ _ _ ts c.log (within_taken w.active m _ ts i)) c.first);
      })
      (λ q i g. arms_undone arms line (m + 1) others w u ts s s2 t fit (omega arith) sound.1 q k i g))

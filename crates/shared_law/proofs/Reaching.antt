-- A calm run comes to each parallel loop without a conflict: where the reads of each such instance are apart, they are so along the run.
use Rattle.std.proofs.Common.{◌≡◌, ◌≢◌, inl, ℕ, suc, ◌+◌, ◌<◌, Bool, true, false, cond, if◌then◌else◌, List, [], Option, Some, None, Result, Ok, refl, sym, subst, pos}
use Rattle.std.proofs.lemmas.Bool.{and_from}
use Rattle.fl_ast.specs.declared.decl.Decl.{Decl}
use Rattle.fl_ast.specs.declared.directive.Directive.{Directive}
use Rattle.fl_ast.specs.Tree.{Expression, Statement, assignment, branch, loop, Statements, no_statements, statement, Arms, no_arms, arm}
use Rattle.fl_types.specs.Nests.{Head, is_nest, inner_body, iteration_body}
use Rattle.fl_types.specs.Sharing.{is_ring_name, ParallelLoop}
use Rattle.meaning.specs.declared.value.Cause.{Cause}
use Rattle.meaning.specs.declared.value.Value.TheVariants.{Index}
use Rattle.meaning.specs.declared.value.IterationCount.{IterationCount}
use Rattle.meaning.specs.Logs.{single, pushes, ends, rounds, condition, both, after, inside, at_line, ◌>>=◌}
use Rattle.meaning.specs.Sites.{Cells, Site, place_of, in_turn as site_in_turn, in_iteration as site_in_iteration}
use Rattle.meaning.specs.Expressions.{holds}
use Rattle.meaning.specs.Statements.{Run, with_log, turns_of, value_at, set_at, turns, loop_words, one_turn, run_turns, with_all_unset, unset_log, private_words, with_variables, Heads, iterations, words_of_all, heads_of, one_iteration, run_parallel, choice, in_arm, run, run_all, run_inner, run_arms}
use Rattle.meaning.specs.Conflicts.{conflict}
use Rattle.meaning.specs.Sequential.{is_sequential, are_sequential, are_arms_sequential}
use Rattle.meaning.specs.Touches.{touches_in}
use Rattle.meaning.specs.Reached.{HoldsAtEach, HoldsAtAll, HoldsInArms, HoldsInLoop, IsSound, iteration_cells}
use Rattle.meaning.specs.Groups.{iteration_of}
use Rattle.meaning.proofs.Parts.{bound, lined, result_once}
use Rattle.transposition.specs.Worlds.{World, is_one_step, name_at, in_iteration}
use Rattle.transposition.specs.Law.{HasDifferentiatedRead, SharedApart, Calm}
use Rattle.transposition.specs.Calms.{state_at, iteration_log, Pairwise, PairwiseAll, PairwiseArms, IsFlat, AreFlat, AreFlatArms}
use Rattle.transposition.proofs.Nesting.{body_run, body_flat}
use Rattle.transposition.proofs.Parallel.{state_end, chained}
use Rattle.transposition.proofs.PlainLogs.{plain_bind, plain_all, plain_settings, plain_unset, plain_words}
use Rattle.meaning.specs.Statements.{private_names}
use Rattle.index_forms.specs.Loops.{HeadedLoop, headed_loops, headed_loops_of_all, headed_loops_of_arms, inside as statements_of, further}
use Rattle.index_law.specs.Meetings.{FreeRun}
use Rattle.sound_programs.proofs.Lists.{Each, each_left, each_right}
use Rattle.apart_law.specs.Apart.{IsInstance}
use Rattle.shared_law.proofs.Free.{ArePassages, ArePeaceful, no_conflict}
use Rattle.shared_law.proofs.Loops.{IsLone}

-- ---- parts of a loop

mutual
  sequential_one : (a : Statement) → IsFlat a → is_sequential a ≡ true
  sequential_one (assignment line atomic p e) h = refl
  sequential_one (branch line arms other) h =
      and_from (are_arms_sequential arms) (are_sequential other) (sequential_arms arms h.0) (sequential_all other h.1)
  sequential_one (loop line number None var first last step body) h = sequential_all body h
  sequential_one (loop line number (Some d) var first last step body) h = absurd h

  sequential_all : (ss : Statements) → AreFlat ss → are_sequential ss ≡ true
  sequential_all no_statements h = refl
  sequential_all (statement a ss) h = and_from (is_sequential a) (are_sequential ss) (sequential_one a h.0) (sequential_all ss h.1)

  sequential_arms : (arms : Arms) → AreFlatArms arms → are_arms_sequential arms ≡ true
  sequential_arms no_arms h = refl
  sequential_arms (arm test body arms) h = and_from (are_sequential body) (are_arms_sequential arms) (sequential_all body h.0) (sequential_arms arms h.1)

-- of an iteration's statements
held_inside : (b : Bool) (body : Statements) (site : Site) (cells : Cells)
    → cond b (HoldsInLoop IsSound body site cells) (HoldsAtAll IsSound body site cells)
    → HoldsAtAll IsSound (if b then inner_body body else body) site cells
held_inside false body site cells h = h
held_inside true no_statements site cells h = tt
held_inside true (statement (assignment line atomic p e) ss) site cells h = tt
held_inside true (statement (branch line arms other) ss) site cells h = tt
held_inside true (statement (loop line number directive var first last step body) ss) site cells h = h

-- an iteration, by its statements
abbrev pub iteration_by : Site → Directive → List ℕ → Heads → Statements → ℕ → Run
iteration_by site d var heads body = one_iteration site d var heads body (run_all (iteration_body d body))

pub are_passages : (site : Site) (d : Directive) (var : List ℕ) (heads : Heads) (body : Statements) → AreFlat body → ArePassages (iteration_by site d var heads body)
are_passages site d var heads body flat = record {
  log = λ k c. refl;
  plain = λ k c.
      let names = private_names site d var body in
      let f : Run = run_all (iteration_body d body) (site_in_iteration site d var body) in
      plain_bind (after (unset_log site names) (with_variables site heads k f (with_all_unset site names c))) (λ c. with_log (private_words site body names c) c)
      (plain_unset site names, plain_settings site heads k f (with_all_unset site names c) (λ c. plain_all (iteration_body d body) (site_in_iteration site d var body) c (body_flat (is_nest d body) body flat)))
      (λ c. plain_words site body names c);
}

-- a turn goes through where all do
turn_ran : (n : ℕ) (f : ℕ → Run) (s s2 : Cells) → (turns n f s).out ≡ Ok s2 → (k : ℕ) → k < n → (s1 : Cells) → (turns k f s).out ≡ Ok s1
    → (f k s1).out ≡ Ok (state_at f s (suc k))
turn_ran n f s s2 h k i s1 e = subst (λ (c : Cells). (f k c).out ≡ Ok (state_at f s (suc k))) (state_end k f s s1 e) (chained n f s s2 h k i)

-- ---- an instance of a parallel loop

abbrev head_at : ℕ → List ℕ → Expression → Expression → Option Expression → Head
head_at line var first last step = record { line = line; var = var; first = first; last = last; step = step }

abbrev headed : ℕ → ℕ → Directive → List ℕ → Expression → Expression → Option Expression → Statements → List (List ℕ) → HeadedLoop
headed line number d var first last step body outer = record {
  head = head_at line var first last step;
  loop = record { line = line; number = number; outer = outer; directive = d; var = var; body = body };
}

-- its run, which no two iterations' touches stop
free_run : (site : Site) (l : ParallelLoop) (heads : Heads) (s last : Cells) → AreFlat l.body → (turns (iterations heads) (iteration_of site l heads) s).out ≡ Ok last
    → ArePeaceful (iterations heads) (iteration_by site l.directive l.var heads l.body) s → FreeRun site l heads s
free_run site l heads s last flat ran peace = record {
  sequential = sequential_all (iteration_body l.directive l.body) (body_flat (is_nest l.directive l.body) l.body flat);
  end = last;
  ran = ran;
  free = subst (λ (g : Site → Run). conflict (touches_in 0 (turns (iterations heads) (one_iteration site l.directive l.var heads l.body g) s).log) ≡ None) (sym same)
      (no_conflict (iterations heads) (iteration_by site l.directive l.var heads l.body) s last (are_passages site l.directive l.var heads l.body flat)
      (subst (λ (g : Site → Run). (turns (iterations heads) (one_iteration site l.directive l.var heads l.body g) s).out ≡ Ok last) same ran) peace);
}
  where
    same : (if is_nest l.directive l.body then run_inner l.body else run_all l.body) ≡ run_all (iteration_body l.directive l.body)
    same = body_run (is_nest l.directive l.body) l.body

-- the iterations of a parallel loop that goes through
record Iterated (site : Site) (l : HeadedLoop) (heads : Heads) (s : Cells) : Type 0 where
  pub last : Cells
  pub ran : (turns (iterations heads) (iteration_of site l.loop heads) s).out ≡ Ok last

iterated : (site : Site) (l : HeadedLoop) (s s2 : Cells)
    → (heads_of l.head (further l) site s
    >>= (λ heads. run_parallel l.loop.line l.loop.directive l.loop.var l.loop.body (if is_nest l.loop.directive l.loop.body then run_inner l.loop.body else run_all l.loop.body) site heads s)).out ≡ Ok s2
    → (heads : Heads) → (heads_of l.head (further l) site s).out ≡ Ok heads → Iterated site l heads s
iterated site l s s2 h heads e =
    let g : Site → Run = if is_nest l.loop.directive l.loop.body then run_inner l.loop.body else run_all l.loop.body in
    let b = bound (heads_of l.head (further l) site s) (λ heads. run_parallel l.loop.line l.loop.directive l.loop.var l.loop.body g site heads s) s2 h in
    let c = bound (inside rounds (turns (iterations b.value) (one_iteration site l.loop.directive l.loop.var b.value l.loop.body g) s))
    (with_log (both (single (ends l.loop.line)) (words_of_all b.value))) s2 b.second in
    subst (λ (x : Heads). Iterated site l x s) (result_once (heads_of l.head (further l) site s).out b.value heads b.first e) (record { last = c.value; ran = c.first })

-- the arm that was taken
arm_apart : (o : Result Bool Cause) (p : Bool) (A B C D : Type 0) (m : ℕ) (f g : Run) (s s2 : Cells) → o ≡ Ok p
    → (choice p (in_arm m f) g s).out ≡ Ok s2 → cond p C D → (o ≡ Ok true → (c : Cells) → (f s).out ≡ Ok c → C → A)
    → (o ≡ Ok false → (g s).out ≡ Ok s2 → D → B) → cond p A B
arm_apart o true A B C D m f g s s2 e h r x y = let b = bound (f s) (with_log (single (pushes (Some (Index (pos m)))))) s2 h in x e b.value b.first r
arm_apart o false A B C D m f g s s2 e h r x y = y e h r

-- ---- along a run

-- what is to be shown of a loop: it has no other parallel one in it, and no two iterations of an instance have differentiated reads of a
-- name without one-step choices at one place
abbrev pub IsShown : List Decl → World → HeadedLoop → Type 0
IsShown decls w l =
    IsLone l × ((site : Site) (heads : Heads) (cells : Cells) → IsInstance decls l site heads cells → (p : ℕ)
    → is_one_step (w.choices l.loop.number (name_at site.keys p)) ≡ false → (i j : ℕ) → i < iterations heads → j < iterations heads → i ≢ j
    → HasDifferentiatedRead w.active p (iteration_log site l.loop.directive l.loop.var heads l.loop.body cells i)
    → HasDifferentiatedRead w.active p (iteration_log site l.loop.directive l.loop.var heads l.loop.body cells j) → ⊥)

-- a world where a run stands
abbrev pub standing : World → Site → World
standing w site = record w { site = site }

module _ (decls : List Decl) (w v : World) where
  parallel_apart : (l : HeadedLoop) (site : Site) (s s2 : Cells) → IsShown decls w l → site.outer ≡ l.loop.outer → site.ring ≡ is_ring_name decls
      → ((heads : Heads) → (heads_of l.head (further l) site s).out ≡ Ok heads → (k : ℕ) → k < iterations heads → (c : Cells)
      → (turns k (iteration_of site l.loop heads) s).out ≡ Ok c
      → HoldsAtAll IsSound (statements_of l) (site_in_iteration site l.loop.directive l.loop.var l.loop.body) (iteration_cells site l.loop.directive l.loop.var l.loop.body heads k c))
      → (heads_of l.head (further l) site s
      >>= (λ heads. run_parallel l.loop.line l.loop.directive l.loop.var l.loop.body (if is_nest l.loop.directive l.loop.body then run_inner l.loop.body else run_all l.loop.body) site heads s)).out ≡ Ok s2
      → ((heads : Heads) → (heads_of l.head (further l) site s).out ≡ Ok heads → (i j : ℕ) → i < iterations heads → j < iterations heads → i ≢ j
      → Calm (in_iteration (standing v site) l.loop.number l.loop.directive l.loop.var l.loop.body) (iteration_log site l.loop.directive l.loop.var heads l.loop.body s i) (iteration_log site l.loop.directive l.loop.var heads l.loop.body s j))
      → (heads : Heads) → (heads_of l.head (further l) site s).out ≡ Ok heads → (i j : ℕ) → i < iterations heads → j < iterations heads → i ≢ j
      → SharedApart (in_iteration (standing w site) l.loop.number l.loop.directive l.loop.var l.loop.body) (iteration_log site l.loop.directive l.loop.var heads l.loop.body s i) (iteration_log site l.loop.directive l.loop.var heads l.loop.body s j)
  parallel_apart l site s s2 shown outer ring held h calm heads e i j a b n p o x y =
      let k = iterated site l s s2 h heads e in
      let run = free_run site l.loop heads s k.last shown.0.flat k.ran (λ i j a b n. (calm heads e i j a b n).kinds) in
      shown.1 site heads s (record {
        begun = record { sequential = run.sequential; variable = shown.0.variable; apart = shown.0.apart; counted = e };
        outer = outer;
        ring = ring;
        run = run;
        sound = held heads e;
      }) p o i j a b n x y

  mutual
    one_apart : (a : Statement) (site : Site) (s s2 : Cells) → site.ring ≡ is_ring_name decls → Each (IsShown decls w) (headed_loops site.outer a)
        → HoldsAtEach IsSound a site s → (run a site s).out ≡ Ok s2 → Pairwise Calm a (standing v site) s → Pairwise SharedApart a (standing w site) s
    one_apart (assignment line atomic p e) site s s2 ring shown held h calm = tt
    one_apart (branch line arms other) site s s2 ring shown held h calm =
        arms_apart arms line 0 other site s s2 ring (each_left (IsShown decls w) (headed_loops_of_arms site.outer arms) (headed_loops_of_all site.outer other) shown) held.1
        (λ c g k r. all_apart other site s c ring (each_right (IsShown decls w) (headed_loops_of_arms site.outer arms) (headed_loops_of_all site.outer other) shown) k g r)
        h calm
    one_apart (loop line number None var first last step body) site s s2 ring shown held h calm = λ t e k i s1 g.
        let b = bound (at_line line (turns_of first last step site s)) (λ t. run_turns var (run_all body) site t s) s2 h in
        let l = lined line (turns_of first last step site s) b.value b.first in
        let c = bound (turns b.value.count (one_turn site var b.value (run_all body)) s) (with_log (loop_words b.value)) s2 b.second in
        let same : b.value ≡ t = result_once (turns_of first last step site s).out b.value t l.out e in
        let ran = subst (λ (x : IterationCount). (turns x.count (one_turn site var x (run_all body)) s).out ≡ Ok c.value) same c.first in
        all_apart body (site_in_turn site var) (set_at (place_of site var []) (Some (Index (value_at t k))) s1) (state_at (one_turn site var t (run_all body)) s (suc k)) ring shown
        (held.1 t e k i s1 g) (turn_ran t.count (one_turn site var t (run_all body)) s c.value ran k i s1 g) (calm t e k i s1 g)
    one_apart (loop line number (Some d) var first last step body) site s s2 ring shown held h calm =
        let l = headed line number d var first last step body site.outer in
        parallel_apart l site s s2 (shown l (inl refl)) refl ring
        (λ heads e k i c g. held_inside (is_nest d body) body (site_in_iteration site d var body) (iteration_cells site d var body heads k c) (held.1 heads e k i c g))
        h calm

    pub all_apart : (ss : Statements) (site : Site) (s s2 : Cells) → site.ring ≡ is_ring_name decls → Each (IsShown decls w) (headed_loops_of_all site.outer ss)
        → HoldsAtAll IsSound ss site s → (run_all ss site s).out ≡ Ok s2 → PairwiseAll Calm ss (standing v site) s → PairwiseAll SharedApart ss (standing w site) s
    all_apart no_statements site s s2 ring shown held h calm = tt
    all_apart (statement a ss) site s s2 ring shown held h calm =
        let b = bound (run a site s) (run_all ss site) s2 h in (
          one_apart a site s b.value ring (each_left (IsShown decls w) (headed_loops site.outer a) (headed_loops_of_all site.outer ss) shown) held.0 b.first calm.0,
          λ s1 e.
              let same : b.value ≡ s1 = result_once (run a site s).out b.value s1 b.first e in
              all_apart ss site s1 s2 ring (each_right (IsShown decls w) (headed_loops site.outer a) (headed_loops_of_all site.outer ss) shown) (held.1 s1 e)
              (subst (λ (c : Cells). (run_all ss site c).out ≡ Ok s2) same b.second) (calm.1 s1 e),
        )

    arms_apart : (arms : Arms) (line m : ℕ) (others : Statements) (site : Site) (s s2 : Cells) → site.ring ≡ is_ring_name decls
        → Each (IsShown decls w) (headed_loops_of_arms site.outer arms) → HoldsInArms IsSound arms (HoldsAtAll IsSound others) site s
        → ((c : Cells) → (run_all others site s).out ≡ Ok c → HoldsAtAll IsSound others site s → PairwiseAll Calm others (standing v site) s → PairwiseAll SharedApart others (standing w site) s)
        → (run_arms arms line m (run_all others) site s).out ≡ Ok s2 → PairwiseArms Calm arms (PairwiseAll Calm others (standing v site) s) (standing v site) s
        → PairwiseArms SharedApart arms (PairwiseAll SharedApart others (standing w site) s) (standing w site) s
    arms_apart no_arms line m others site s s2 ring shown held more h calm =
        let b = bound (run_all others site s) (with_log (single (pushes (Some (Index (pos m)))))) s2 h in
        more b.value b.first held calm
    arms_apart (arm test body arms) line m others site s s2 ring shown held more h calm =
        let b = bound (inside (condition m) (at_line line (holds test site s))) (λ p. choice p (in_arm m (run_all body site)) (run_arms arms line (m + 1) (run_all others) site) s) s2 h in
        let l = lined line (holds test site s) b.value b.first in
        λ p e.
        let same : b.value ≡ p = result_once (holds test site s).out b.value p l.out e in
        arm_apart (holds test site s).out p (PairwiseAll SharedApart body (standing w site) s) (PairwiseArms SharedApart arms (PairwiseAll SharedApart others (standing w site) s) (standing w site) s)
        (PairwiseAll Calm body (standing v site) s) (PairwiseArms Calm arms (PairwiseAll Calm others (standing v site) s) (standing v site) s) m (run_all body site) (run_arms arms line (m + 1) (run_all others) site) s s2 e
        (subst (λ (c : Bool). (choice c (in_arm m (run_all body site)) (run_arms arms line (m + 1) (run_all others) site) s).out ≡ Ok s2) same b.second)
        (calm p e)
        (λ g c h r. all_apart body site s c ring (each_left (IsShown decls w) (headed_loops_of_all site.outer body) (headed_loops_of_arms site.outer arms) shown) (held.0 g) h r)
        (λ g h r. arms_apart arms line (m + 1) others site s s2 ring (each_right (IsShown decls w) (headed_loops_of_all site.outer body) (headed_loops_of_arms site.outer arms) shown) (held.1 g) more h r)

-- Statements do what the meaning tells, by induction on their steps.
use Rattle.std.specs.Prelude.{◌≡◌, ℕ, ◌+◌, ℤ, pos, Bool, true, false, ◌&&◌, if◌then◌else◌, is_none, is_some, List, ◌∷◌, map, Option, Some, None, Ok, refl}
use Rattle.std.proofs.Common.{ap, sym, subst, ◌∙◌}
use Rattle.std.proofs.lemmas.Bool.{and_parts}
use Rattle.fl_ast.specs.Tree.{Expression, Designator, Condition, Statement, assignment, branch, loop, Statements, no_statements, statement, Arms, no_arms, arm}
use Rattle.fl_types.specs.declared.access.AccessKind.{AccessKind}
use Rattle.fl_types.specs.Accesses.{increment_kind}
use Rattle.fl_types.specs.Increment.{Signed, increment_terms}
use Rattle.fl_types.specs.Kinds.{is_well_kinded_statement, are_well_kinded_statements, are_well_kinded_arms, is_well_kinded_condition, is_well_kinded_head, has_scalar_privates}
use Rattle.fl_types.specs.Nests.{Head, is_nest, inner_body, further_head, iteration_body}
use Rattle.meaning.specs.declared.value.Value.TheVariants.{Index}
use Rattle.meaning.specs.declared.value.TrapAt.{TrapAt}
use Rattle.meaning.specs.declared.value.IterationCount.{IterationCount}
use Rattle.meaning.specs.Logs.{Log, single, pushes, instance, taken, condition, Traced, ◌>>=◌, inside, at_line}
use Rattle.meaning.specs.Sites.{Cells, Site, in_turn, in_iteration, place_of}
use Rattle.meaning.specs.Fitting.{names_at, Fits, IsWellKinded}
use Rattle.meaning.specs.Defined.{IsFittingCount}
use Rattle.meaning.specs.Expressions.{holds}
use Rattle.meaning.specs.Statements.{Run, with_log, assignment_by, plain_assignment, increment, turns_of, run_turns, heads_of, run_parallel, choice, in_arm, run, run_all, run_inner, run_arms}
use Rattle.meaning.proofs.Gives.{line_gives}
use Rattle.meaning.proofs.RunsFit.{head_parts, turns_of_fit, further_is_fit, either_fits, run_fits, run_inner_fits, run_all_fits}
use Rattle.store_core.specs.Tapes.{Item, IterationLists}
use Rattle.transposition.specs.Tapes.{Tape, tape_after}
use Rattle.resolved.specs.SlotTables.{Names}
use Rattle.sweep_trees.specs.Split.{SpotTree, TestTree}
use Rattle.sweep_trees.specs.Standing.{spot_back, test_back}
use Rattle.split_trees.specs.Codes.{CodeTree, code_back, TestStandsFor}
use Rattle.sweep_steps.specs.Steps.{TermTree, HeadTree, StoreTree, assign, update, AroundTree, in_turns, in_iterations, StepTree, store_step, if_step, loop_step, StepTrees, no_steps, step, ArmTrees, no_step_arms, step_arm}
use Rattle.sweep_steps.specs.StepsStand.{flags_at, signed_back, AssignStands, UpdateStands, HeadStands, StoreStands, Stands, AllStand, ArmsStand}
use Rattle.sweep_evaluation.specs.Machine.{test_value}
use Rattle.sweep_law.specs.Telling.{Scene, ForwardTape, Standing, told, goes_on, IsSame}
use Rattle.forward_state.specs.Steps.{begun, pushed, on_line}
use Rattle.forward_sweep.specs.Machine.{is_going, assign_run, update_run, store_run, head_run, turns_run, words_run, loop_run, inner_run, iterations_run, arm_run, step_run, steps_run, arms_run}
use Rattle.forward_sweep.specs.Machine.{one_turn as turn_run}
use Rattle.forward_law.specs.Forward.{unlined, Beside, tape_back, TapeView, outside_loops, in_loop, view_by, view, on_tape, ForwardIsTold, OutsideIsTold, is_flat, are_flat, are_arms_flat}
use Rattle.forward_law.proofs.Following.{taped, Follows, Lands}
use Rattle.forward_law.proofs.Combining.{Rests, rests_here, rests_at, rests_then, alike_follows, follows_then, stuck_follows}
use Rattle.forward_law.proofs.Stillness.{Leaves, still_test, still_pushed, still_both}
use Rattle.forward_law.proofs.Leaves.{test_settles, beside_moved}
use Rattle.forward_law.proofs.Assigned.{assigned_follows, updated_follows}
use Rattle.forward_law.proofs.Heads.{from_line, head_follows, head_rests, head_beside, instance_follows, begun_beside, place_at, number_follows, words_still}
use Rattle.forward_law.proofs.Parallel.{parallel_follows}
use Rattle.forward_law.proofs.Rounds.{taped_inside}
use Rattle.forward_law.proofs.Turning.{taped_outside, beside_at, BodyFollows, nothing_follows, stopped_turns, turns_of_loop_follow}

-- ---- after a stop

pub steps_still : (names : Names) (ts : StepTrees) → Leaves (steps_run names ts)
steps_still names no_steps s h = refl
steps_still names (step t ts) s h = rw h refl

arm_still : (m : ℕ) (f : Standing → Standing) → Leaves f → Leaves (arm_run m f)
arm_still m f h = still_both f (λ s. pushed s (Some (Index (pos m)))) h (λ s g. still_pushed s (Some (Index (pos m))) g)

either_still : (b : Bool) (f g : Standing → Standing) → Leaves f → Leaves g → Leaves (λ s. if b then f s else g s)
either_still true f g h k s e = h s e
either_still false f g h k s e = k s e

arms_still : (names : Names) (as' : ArmTrees) (m : ℕ) (other : Standing → Standing) → Leaves other → Leaves (arms_run names as' m other)
arms_still names no_step_arms m other h s g = arm_still m other h s g
arms_still names (step_arm test body as') m other h s g =
    let b = test_value told names test s in
    let e = still_test names test s g in
    either_still b.out (arm_run m (steps_run names body)) (arms_run names as' (m + 1) other) (arm_still m (steps_run names body) (steps_still names body)) (arms_still names as' (m + 1) other h)
    b.state (subst (λ (z : Standing). goes_on z.kept.seen ≡ false) (sym e) g) ∙ e

-- ---- assignments

assign_stands : (names : Names) (site : Site) (within : Bool) (line : ℕ) (atomic old : Bool) (target : SpotTree) (a : CodeTree) (p : Designator) (e : Expression) → AssignStands names site old target a p e
    → (s : Standing) (c : Cells) → Beside names site within s c
    → (let r = assign_run names old target a (on_line line s) in Follows s (at_line line (assignment_by site c atomic p e (increment_terms site.ring p e))) (Lands r) r)
assign_stands names site within line atomic old target a p e h s c b =
    let w = on_line line s in
    let r = assign_run names old target a w in
    let bw = beside_moved names site within s w c refl refl refl b in
    let q = subst (λ (x : Designator). old ≡ site.pushed x.name) (sym h.place.back) h.pushing in
    let f = assigned_follows names site within w c bw (λ k. true) target (h.place.fit (λ k. true) refl) old q a h.content.fit in
    let g = subst (λ (x : Designator). Follows w (at_line line (plain_assignment site c x (code_back names.0 a))) (Lands r) r) h.place.back f in
    let i = subst (λ (x : Expression). Follows w (at_line line (plain_assignment site c p x)) (Lands r) r) h.content.back g in
    subst (λ (o : Option (List Signed)). Follows s (at_line line (assignment_by site c atomic p e o)) (Lands r) r) (sym h.plain) (from_line line s (at_line line (plain_assignment site c p e)) (Lands r) r i)

update_stands : (names : Names) (site : Site) (within : Bool) (line : ℕ) (atomic : Bool) (n : AccessKind) (target : SpotTree) (ts : List TermTree) (p : Designator) (e : Expression) → UpdateStands names site atomic n target ts p e
    → (s : Standing) (c : Cells) → Beside names site within s c
    → (let r = update_run names n target ts (on_line line s) in Follows s (at_line line (assignment_by site c atomic p e (increment_terms site.ring p e))) (Lands r) r)
update_stands names site within line atomic n target ts p e h s c b =
    let w = on_line line s in
    let r = update_run names n target ts w in
    let bw = beside_moved names site within s w c refl refl refl b in
    let rest = map (signed_back names.0) ts in
    let f = updated_follows names site within w c bw (λ k. true) target (h.place.fit (λ k. true) refl) h.data_kind n ts h.fit in
    let g = subst (λ (x : Designator). Follows w (at_line line (increment site c x rest n)) (Lands r) r) h.place.back f in
    let i = subst (λ k. Follows w (at_line line (increment site c p rest k)) (Lands r) r) h.access g in
    subst (λ (o : Option (List Signed)). Follows s (at_line line (assignment_by site c atomic p e o)) (Lands r) r) (sym h.rest)
    (from_line line s (at_line line (increment site c p rest (increment_kind atomic (site.pluses p.name)))) (Lands r) r i)

pub store_follows : (names : Names) (site : Site) (within : Bool) (x : StoreTree) (line : ℕ) (atomic : Bool) (p : Designator) (e : Expression) → StoreStands names site x line atomic p e
    → BodyFollows names site within (run (assignment line atomic p e) site) (step_run names (store_step x))
store_follows names site within (assign l old target a) line atomic p e h s c b =
    let r = assign_run names old target a (on_line l (begun s)) in
    instance_follows s r (at_line line (assignment_by site c atomic p e (increment_terms site.ring p e))) (Lands r)
    (subst (λ (n : ℕ). Follows (begun s) (at_line n (assignment_by site c atomic p e (increment_terms site.ring p e))) (Lands r) r) h.0 (assign_stands names site within l atomic old target a p e h.1 (begun s) c (begun_beside names site within s c b)))
store_follows names site within (update l n target ts) line atomic p e h s c b =
    let r = update_run names n target ts (on_line l (begun s)) in
    instance_follows s r (at_line line (assignment_by site c atomic p e (increment_terms site.ring p e))) (Lands r)
    (subst (λ (k : ℕ). Follows (begun s) (at_line k (assignment_by site c atomic p e (increment_terms site.ring p e))) (Lands r) r) h.0 (update_stands names site within l atomic n target ts p e h.1 (begun s) c (begun_beside names site within s c b)))

-- ---- choices

pub arm_follows : (names : Names) (site : Site) (within : Bool) (m : ℕ) (f : Run) (g : Standing → Standing) → BodyFollows names site within f g → BodyFollows names site within (in_arm m f) (arm_run m g)
arm_follows names site within m f g h s c b =
    let v = Some (Index (pos m)) in
    let n = g s in
    let r = pushed n v in
    let l = single (pushes v) in
    alike_follows s (in_arm m f c) (f c >>= with_log l) (Lands r) r (record { notes = λ k. refl; tapes = λ w. refl; out = refl })
    (follows_then s n r (f c) (with_log l) (Lands n) (Lands r) (h s c b) (λ a d o e. number_follows n (pos m) d e) (λ a. rests_at n r (still_pushed n v a)))

chosen_follows : (b : Bool) (f g : Run) (m n : Standing → Standing) (s : Standing) (c : Cells) → Follows s (f c) (Lands (m s)) (m s) → Follows s (g c) (Lands (n s)) (n s)
    → Follows s (choice b f g c) (Lands (if b then m s else n s)) (if b then m s else n s)
chosen_follows true f g m n s c h k = h
chosen_follows false f g m n s c h k = k

pub test_follows : (names : Names) (site : Site) (within : Bool) (test : Condition) (a : TestTree) → TestStandsFor names (flags_at names site) test a → (line m : ℕ) (f g : Run) (x y : Standing → Standing)
    → ((s : Standing) (c : Cells) → s.scene.line ≡ line → Beside names site within s c → Follows s (f c) (Lands (x s)) (x s)) → ((s : Standing) (c : Cells) → s.scene.line ≡ line → Beside names site within s c → Follows s (g c) (Lands (y s)) (y s))
    → Leaves x → Leaves y → (s : Standing) (c : Cells) → s.scene.line ≡ line → Beside names site within s c
    → (let b = test_value told names a s in let r = if b.out then x b.state else y b.state in
    Follows s (inside (condition m) (at_line line (holds test site c)) >>= (λ p. choice p f g c)) (Lands r) r)
test_follows names site within test a t line m f g x y hf hg lx ly s c l bs =
    let b = test_value told names a s in
    let r = if b.out then x b.state else y b.state in
    let d = test_settles names site within s c bs a t.fit in
    let bb = beside_moved names site within s b.state c d.cells (ap unlined d.scene) d.same_tape bs in
    let lb : b.state.scene.line ≡ line = ap (λ (z : Scene). z.line) d.scene ∙ l in
    let e : Follows s (at_line line (holds test site c)) (λ p. IsSame p b.out) b.state =
    subst (λ (n : ℕ). Follows s (at_line n (holds test site c)) (λ p. IsSame p b.out) b.state) l
    (subst (λ (z : Condition). Follows s (at_line s.scene.line (holds z site c)) (λ p. IsSame p b.out) b.state) t.back d.follows) in
    let i : Follows s (inside (condition m) (at_line line (holds test site c))) (λ p. IsSame p b.out) b.state =
    alike_follows s (inside (condition m) (at_line line (holds test site c))) (at_line line (holds test site c)) (λ p. IsSame p b.out) b.state (record { notes = λ k. refl; tapes = λ w. refl; out = refl }) e in
    follows_then s b.state r (inside (condition m) (at_line line (holds test site c))) (λ p. choice p f g c) (λ p. IsSame p b.out) (Lands r) i
    (λ k p o q. subst (λ z. Follows b.state (choice z f g c) (Lands r) r) (sym q) (chosen_follows b.out f g x y b.state c (hf b.state c lb bb) (hg b.state c lb bb)))
    (λ k. rests_at b.state r (either_still b.out x y lx ly b.state k))

-- ---- all of it

-- nothing runs from a stop on
guarded_follows : (s r : Standing) (t : Traced TrapAt Cells) → Follows s t (Lands r) r → (b : Bool) → is_going s ≡ b → Follows s t (Lands (if b then r else s)) (if b then r else s)
guarded_follows s r t h true e = h
guarded_follows s r t h false e = stuck_follows taped s t (Lands s) e

-- the statements of an iteration
nest_runs : (b : Bool) (body : Statements) (site : Site) (c : Cells) → (if b then run_inner body else run_all body) site c ≡ run_all (if b then inner_body body else body) site c
nest_runs false body site c = refl
nest_runs true no_statements site c = refl
nest_runs true (statement (assignment line atomic p e) xs) site c = refl
nest_runs true (statement (branch line arms other) xs) site c = refl
nest_runs true (statement (loop line number directive var first last by body) xs) site c = refl

nest_follows : (names : Names) (site : Site) (b : Bool) (body : Statements) (m : Standing → Standing) → BodyFollows names site true (run_all (if b then inner_body body else body) site) m → BodyFollows names site true ((if b then run_inner body else run_all body) site) m
nest_follows names site b body m h s c i = subst (λ (t : Traced TrapAt Cells). Follows s t (Lands (m s)) (m s)) (sym (nest_runs b body site c)) (h s c i)

nest_kinded : (site : Site) (b : Bool) (body : Statements) → IsWellKinded site body → IsWellKinded site (if b then inner_body body else body)
nest_kinded site false body k = k
nest_kinded site true no_statements k = refl
nest_kinded site true (statement (assignment line atomic p e) xs) k = refl
nest_kinded site true (statement (branch line arms other) xs) k = refl
nest_kinded site true (statement (loop line number directive var first last by body) xs) k =
    let a = and_parts (is_well_kinded_statement (names_at site) (loop line number directive var first last by body)) (are_well_kinded_statements (names_at site) xs) k in
    let q = and_parts (is_well_kinded_head (names_at site) var first last by) (has_scalar_privates (names_at site) directive && are_well_kinded_statements (names_at site) body) a.0 in
    (and_parts (has_scalar_privates (names_at site) directive) (are_well_kinded_statements (names_at site) body) q.1).1

nest_flat : (b : Bool) (body : Statements) → are_flat true body ≡ true → are_flat true (if b then inner_body body else body) ≡ true
nest_flat false body q = q
nest_flat true no_statements q = refl
nest_flat true (statement (assignment line atomic p e) xs) q = refl
nest_flat true (statement (branch line arms other) xs) q = refl
nest_flat true (statement (loop line number None var first last by body) xs) q = (and_parts (are_flat true body) (are_flat true xs) q).0
nest_flat true (statement (loop line number (Some directive) var first last by body) xs) q = cc

mutual
  step_follows : (names : Names) (site : Site) (within : Bool) (t : StepTree) (x : Statement) → Stands names site t x → is_well_kinded_statement (names_at site) x ≡ true → is_flat within x ≡ true
      → BodyFollows names site within (run x site) (step_run names t)
  step_follows names site within (store_step y) (assignment line atomic p e) h k q s c b = store_follows names site within y line atomic p e h s c b
  step_follows names site within (store_step y) (branch line arms other) h k q s c b = absurd h
  step_follows names site within (store_step y) (loop line number directive var first last by body) h k q s c b = absurd h
  step_follows names site within (if_step l as' os) (assignment line atomic p e) h k q s c b = absurd h
  step_follows names site within (if_step l as' os) (loop line number directive var first last by body) h k q s c b = absurd h
  step_follows names site within (if_step l as' os) (branch line arms other) h k q s c b =
      let kp = and_parts (are_well_kinded_arms (names_at site) arms) (are_well_kinded_statements (names_at site) other) k in
      let qp = and_parts (are_arms_flat within arms) (are_flat within other) q in
      let w = on_line l (begun s) in
      let r = arms_run names as' 0 (steps_run names os) w in
      instance_follows s r (run_arms arms line 0 (run_all other) site c) (Lands r)
      (from_line l (begun s) (run_arms arms line 0 (run_all other) site c) (Lands r) r
      (arms_follow names site within as' arms h.1 kp.0 qp.0 line 0 (run_all other) (steps_run names os) (λ z d e. steps_follow names site within os other h.2 kp.1 qp.1 z d e) (steps_still names os) w c h.0
      (beside_moved names site within (begun s) w c refl refl refl (begun_beside names site within s c b))))
  step_follows names site within (loop_step l around ss) (assignment line atomic p e) h k q s c b = absurd h
  step_follows names site within (loop_step l around ss) (branch line arms other) h k q s c b = absurd h
  step_follows names site within (loop_step l (in_iterations hd inner privates) ss) (loop line number None var first last by body) h k q s c b = absurd h.1
  step_follows names site within (loop_step l (in_turns hd) ss) (loop line number (Some directive) var first last by body) h k q s c b = absurd h.1
  step_follows names site true (loop_step l (in_iterations hd inner qs) ss) (loop line number (Some directive) var first last by body) h k q s c b = cc
  step_follows names site false (loop_step l (in_iterations hd inner qs) ss) (loop line number (Some directive) var first last by body) h k q s c b =
      let x : Head = record { line = line; var = var; first = first; last = last; step = by } in
      let o = further_head directive body in
      let there = in_iteration site directive var body in
      let f = if is_nest directive body then run_inner body else run_all body in
      let kp = and_parts (is_well_kinded_head (names_at site) var first last by) (has_scalar_privates (names_at site) (Some directive) && are_well_kinded_statements (names_at site) body) k in
      let kb = (and_parts (has_scalar_privates (names_at site) (Some directive)) (are_well_kinded_statements (names_at site) body) kp.1).1 in
      let body_run = steps_run names ss in
      let s1 = begun s in
      let m = head_run names hd s1 in
      let u = inner_run names inner m.state in
      let r = iterations_run body_run hd qs m.out u.out u.state in
      instance_follows s r (heads_of x o site c >>= (λ heads. run_parallel line directive var body f site heads c)) (Lands r)
      (parallel_follows names site directive x o body f body_run hd inner qs h.1.outer h.1.further h.1.scalars (head_parts site var first last by kp.0) (further_is_fit site directive body kb)
      (nest_follows names there (is_nest directive body) body body_run
      (λ z d i. steps_follow names there true ss (iteration_body directive body) h.2 (nest_kinded there (is_nest directive body) body kb) (nest_flat (is_nest directive body) body q) z d i))
      (steps_still names ss)
      (either_fits there (is_nest directive body) (run_inner body) (run_all body) (λ d. run_inner_fits body there kb d) (λ d. run_all_fits body there kb d))
      s1 c (begun_beside names site false s c b))
  step_follows names site within (loop_step l (in_turns hd) ss) (loop line number None var first last by body) h k q s c b =
      let x : Head = record { line = line; var = var; first = first; last = last; step = by } in
      let kp = and_parts (is_well_kinded_head (names_at site) var first last by) (has_scalar_privates (names_at site) None && are_well_kinded_statements (names_at site) body) k in
      let hp = head_parts site var first last by kp.0 in
      let b1 = begun_beside names site within s c b in
      let s1 = begun s in
      let m = head_run names hd s1 in
      let bm = head_beside names site within s1 c b1 x hd h.1 in
      let body_run = steps_run names ss in
      let r = words_run m.out (turns_run m.out.count 0 (turn_run body_run hd.place m.out) m.state) in
      instance_follows s r (at_line line (turns_of first last by site c) >>= (λ t. run_turns var (run_all body) site t c)) (Lands r)
      (follows_then s1 m.state r (at_line line (turns_of first last by site c)) (λ t. run_turns var (run_all body) site t c) (λ t. IsSame t m.out) (Lands r) (head_follows names site within s1 c b1 x hd h.1)
      (λ g t o e. subst (λ (u : IterationCount). Follows m.state (run_turns var (run_all body) site u c) (Lands r) r) (sym e)
      (turns_of_loop_follow names site within var m.out hd.place (run_all body) body_run
      (h.1.place ∙ place_at names site within (flags_at names site) b.site_is hd.slot var h.1.within h.1.variable) hp.kind
      (subst IsFittingCount e (line_gives line (turns_of first last by site c) IsFittingCount (turns_of_fit site c b.fits first last by hp.from hp.to hp.by) t o))
      (λ d. run_all_fits body (in_turn site var) kp.1 d)
      (λ z d i. steps_follow names (in_turn site var) within ss body h.2 kp.1 q z d i) (steps_still names ss) m.state c bm))
      (λ g. rests_at m.state r (ap (words_run m.out) (stopped_turns m.out.count 0 (turn_run body_run hd.place m.out) m.state g) ∙ words_still m.out m.state g)))

  steps_follow : (names : Names) (site : Site) (within : Bool) (ts : StepTrees) (xs : Statements) → AllStand names site ts xs → IsWellKinded site xs → are_flat within xs ≡ true → BodyFollows names site within (run_all xs site) (steps_run names ts)
  steps_follow names site within no_steps no_statements h k q s c b = nothing_follows s c b.cells
  steps_follow names site within no_steps (statement x xs) h k q s c b = absurd h
  steps_follow names site within (step t ts) no_statements h k q s c b = absurd h
  steps_follow names site within (step t ts) (statement x xs) h k q s c b =
      let kp = and_parts (is_well_kinded_statement (names_at site) x) (are_well_kinded_statements (names_at site) xs) k in
      let qp = and_parts (is_flat within x) (are_flat within xs) q in
      let m = step_run names t s in
      let r = steps_run names ts m in
      guarded_follows s r (run x site c >>= run_all xs site)
      (follows_then s m r (run x site c) (run_all xs site) (Lands m) (Lands r) (step_follows names site within t x h.0 kp.0 qp.0 s c b)
      (λ g d o l. steps_follow names site within ts xs h.1 kp.1 qp.1 m d (beside_at names site within s m c d (run x site c).log b (step_follows names site within t x h.0 kp.0 qp.0 s c b).scene ((step_follows names site within t x h.0 kp.0 qp.0 s c b).tape g) (run_fits x site kp.0 c b.fits d o) l))
      (λ g. rests_at m r (steps_still names ts m g)))
      (is_going s) refl

  arms_follow : (names : Names) (site : Site) (within : Bool) (as' : ArmTrees) (arms : Arms) → ArmsStand names site as' arms → are_well_kinded_arms (names_at site) arms ≡ true → are_arms_flat within arms ≡ true
      → (line m : ℕ) (other : Site → Run) (o : Standing → Standing) → BodyFollows names site within (other site) o → Leaves o
      → (s : Standing) (c : Cells) → s.scene.line ≡ line → Beside names site within s c → Follows s (run_arms arms line m other site c) (Lands (arms_run names as' m o s)) (arms_run names as' m o s)
  arms_follow names site within no_step_arms no_arms h k q line m other o ho lo s c l b = arm_follows names site within m (other site) o ho s c b
  arms_follow names site within no_step_arms (arm test body arms) h k q line m other o ho lo s c l b = absurd h
  arms_follow names site within (step_arm a ss as') no_arms h k q line m other o ho lo s c l b = absurd h
  arms_follow names site within (step_arm a ss as') (arm test body arms) h k q line m other o ho lo s c l b =
      let kp = and_parts (is_well_kinded_condition (names_at site) test) (are_well_kinded_statements (names_at site) body && are_well_kinded_arms (names_at site) arms) k in
      let kq = and_parts (are_well_kinded_statements (names_at site) body) (are_well_kinded_arms (names_at site) arms) kp.1 in
      let qp = and_parts (are_flat within body) (are_arms_flat within arms) q in
      test_follows names site within test a h.0 line m (in_arm m (run_all body site)) (run_arms arms line (m + 1) other site) (arm_run m (steps_run names ss)) (arms_run names as' (m + 1) o)
      (λ z d e i. arm_follows names site within m (run_all body site) (steps_run names ss) (λ y f j. steps_follow names site within ss body h.1 kq.0 qp.0 y f j) z d i)
      (λ z d e i. arms_follow names site within as' arms h.2 kq.1 qp.1 line (m + 1) other o ho lo z d e i)
      (arm_still m (steps_run names ss) (steps_still names ss)) (arms_still names as' (m + 1) o lo) s c l b

-- ---- the laws

-- what a log leaves is its tape
taped_is : (l : Log) (w : TapeView) → taped l w ≡ on_tape (tape_after l) w
taped_is l (outside_loops t) = taped_outside l t
taped_is l (in_loop items bounds outer ts) = taped_inside l items bounds outer ts

pub forward_told : ForwardIsTold
forward_told = λ names site ts body h k within q s c b.
    let r = steps_run names ts s in
    let f = steps_follow names site within ts body h k q s c b in
    record { kept = f.kept; scene = f.scene; cells = f.value; tape = λ g. f.tape g ∙ taped_is (run_all body site c).log (view s.tape) }

items_of : (items : List Item) (o : Option IterationLists) (t : Tape) → view_by items o ≡ outside_loops t → (tape_back items ≡ t) × (o ≡ None)
items_of items None t e = let p : tape_back items ≡ t = cc in (p, refl)
items_of items (Some l) t e = absurd (cc)

outside_view : (f : Tape → Tape) (t : ForwardTape) → t.running ≡ None → on_tape f (view t) ≡ outside_loops (f (tape_back t.items))
outside_view f t e = ap (λ (o : Option IterationLists). on_tape f (view_by t.items o)) e

pub outside_told : OutsideIsTold
outside_told = λ names site ts body h k q s c b.
    let r = steps_run names ts s in
    let l = (run_all body site c).log in
    let f = forward_told names site ts body h k false q s c b in
    let there : goes_on r.kept.seen ≡ true → (tape_back r.tape.items ≡ tape_after l (tape_back s.tape.items)) × (r.tape.running ≡ None) =
    λ g. items_of r.tape.items r.tape.running (tape_after l (tape_back s.tape.items)) (f.tape g ∙ outside_view (tape_after l) s.tape (b.outside refl).1) in
    record { told = f; items = λ g. (there g).0; running = λ g. (there g).1 }

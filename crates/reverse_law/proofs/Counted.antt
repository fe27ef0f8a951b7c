-- Outside of parallel loops: what the machine of reverse sweeps comes to, with what it counts.
use Rattle.std.proofs.Common.{◌≡◌, ℕ, zero, suc, ◌+◌, List, [], ◌∷◌, ◌++◌, refl, ap, sym, ◌∙◌, subst, append_assoc, append-nil, Bool, true, false, not, ◌&&◌, cond, nat_lt, Option, Some, None, arith}
use Rattle.std.specs.Prelude.{◌-◌, if◌then◌else◌}
use Rattle.std.proofs.lemmas.Bool.{and_parts}
use Rattle.fl_ast.specs.declared.directive.Directive.{Directive}
use Rattle.fl_ast.specs.Tree.{Statement, assignment, branch, loop, Statements, no_statements, statement, Arms, no_arms, arm}
use Rattle.fl_types.specs.Nests.{is_nest, iteration_body}
use Rattle.operations.specs.declared.op.Op.{Op}
use Rattle.operations.specs.declared.op.Op.TheVariants.{Load, Store, Bump, Add}
use Rattle.operations.specs.Order.{rounds}
use Rattle.operations.specs.Tree.{Tree, done, ◌giving◌, Played, play, then_play}
use Rattle.operations.proofs.Trees.{bind}
use Rattle.meaning.specs.declared.value.IterationCount.{IterationCount}
use Rattle.meaning.specs.Statements.{iterations}
use Rattle.resolved.specs.SlotTables.{Names, names_of}
use Rattle.transposition.specs.Tapes.{top}
use Rattle.transposition.specs.Worlds.{World, Local, in_turn, in_iteration, name_at}
use Rattle.transposition.specs.Back.{after_pop, turns_back, one_turn_back, with_variable_word, loop_back, loop_heads, below_heads, loop_iterations, parallel_back, back, back_all, back_inner, back_arms}
use Rattle.transposition.specs.Programs.{program_world}
use Rattle.sweep_steps.specs.declared.step.PrivateScalar.{PrivateScalar}
use Rattle.undo_steps.specs.UndoSteps.{back_turns, back_iterations, UndoTree, undo_store, undo_choice, undo_loop, UndoTrees, no_undos, undos, UndoArms, no_undo_arms, undo_arm}
use Rattle.undo_steps.specs.UndosStand.{scalar_place, IterationsUndo, UndoStands, AllUndoStand, UndoArmsStand}
use Rattle.sweep_evaluation.specs.Machine.{Ran, ran}
use Rattle.reverse_sweep.specs.Reversing.{Stage, Reversing, reversing, popped, on_tape}
use Rattle.reverse_sweep.specs.Machine.{below_words, bounds_on, variable_set, turns_undone, turn_undone, loop_undone, parallel_undone, undo_run, undos_run, arm_run}
use Rattle.reverse_law.specs.Reverse.{IsNamed, at_first}
use Rattle.reverse_law.specs.Adds.{is_atomic, is_atomic_cell, adds_on, round_adds, turn_adds, loop_adds, parallel_adds, adds_of, adds_of_all, arm_adds, is_flat, are_flat, are_arms_flat}
use Rattle.reverse_law.specs.Counting.{at_later, IsOutside, AddsAreCounted, ProgramAddsAreCounted, SerialAddsAreCounted}
use Rattle.reverse_law.proofs.Going.{adds_append, go, go_plain, landed}
use Rattle.reverse_law.proofs.Landing.{shown, seen_cells, LandsBy}
use Rattle.reverse_law.proofs.Assigned.{lands_store}
use Rattle.reverse_law.proofs.Looping.{variable_is, scalar_placed, named_in_turn, named_in_iteration}
use Rattle.reverse_law.proofs.Undoing.{nest_flat, lands_parallel_body, lands_all}
use Rattle.reverse_law.proofs.Reversed.{program_named}

-- ---- what a tree plays, and so many atomic additions more

abbrev tallied_play : List Op → ℕ → Played Local → Reversing
tallied_play os n r = reversing r.out (at_later r.cells (os ++ r.ops) n)

abbrev Tallies : Local → Tree Local → (List ℕ → ℕ) → (Reversing → Reversing) → Type 0
Tallies l t k m = (c : List ℕ) (os : List Op) (n : ℕ) → m (reversing l (at_later c os n)) ≡ tallied_play os (n + k c) (play t c)

none_more : (n : ℕ) → n ≡ n + 0
none_more n = omega arith

tallies_done : (l : Local) → Tallies l (done l) (λ c. 0) (λ s. s)
tallies_done l c os n = ap (λ (us : List Op). reversing l (at_later c us n)) (sym (append-nil os)) ∙ ap (λ (k : ℕ). reversing l (at_later c (os ++ []) k)) (none_more n)

tallies_both : (l : Local) (t : Tree Local) (f : Local → Tree Local) (k : List ℕ → ℕ) (j : Local → List ℕ → ℕ) (m n : Reversing → Reversing) → Tallies l t k m → ((i : Local) → Tallies i (f i) (j i) n)
    → Tallies l (t giving f) (λ c. k c + j (play t c).out (play t c).cells) (λ s. n (m s))
tallies_both l t f k j m n d e c os a =
    let r = play t c in
    let q = play (f r.out) r.cells in
    ap n (d c os a)
    ∙ (e r.out r.cells (os ++ r.ops) (a + k c)
    ∙ (ap (λ (us : List Op). reversing q.out (at_later q.cells us ((a + k c) + j r.out r.cells))) (append_assoc os r.ops q.ops)
    ∙ (ap (λ (i : ℕ). reversing q.out (at_later q.cells (os ++ (r.ops ++ q.ops)) i)) (grouped a (k c) (j r.out r.cells))
    ∙ ap (tallied_play os (a + (k c + j r.out r.cells))) (sym (bind t f c)))))
  where
    grouped : (a b c : ℕ) → (a + b) + c ≡ a + (b + c)
    grouped a b c = omega arith

tallies_as : (l : Local) (t : Tree Local) (k j : List ℕ → ℕ) (m : Reversing → Reversing) → ((c : List ℕ) → k c ≡ j c) → Tallies l t k m → Tallies l t j m
tallies_as l t k j m e d c os n = d c os n ∙ ap (λ (i : ℕ). tallied_play os (n + i) (play t c)) (e c)

-- where each addition is counted by its cell
tallies_landed : (w : World) (l : Local) (t : Tree Local) (m : Reversing → Reversing) → LandsBy true w l t m → Tallies l t (λ c. adds_on (is_atomic_cell w) (play t c).ops) m
tallies_landed w l t m d c os n = d (at_later c os n) ∙ ap landed (go_plain (seen_cells true w) t c os n)

-- ---- assignments

none_before : (n : ℕ) → 0 + n ≡ n
none_before n = omega arith

adds_none : (cells : ℕ → Bool) → ((q : ℕ) → cells q ≡ false) → (os : List Op) → adds_on cells os ≡ 0
adds_none cells h [] = refl
adds_none cells h (Load p ∷ os) = adds_none cells h os
adds_none cells h (Store p x ∷ os) = adds_none cells h os
adds_none cells h (Bump p a ∷ os) = adds_none cells h os
adds_none cells h (Add p a ∷ os) = rw (h p) (none_before (adds_on cells os) ∙ adds_none cells h os)

outside_cell : (w : World) → IsOutside w → (q : ℕ) → is_atomic_cell w q ≡ false
outside_cell w h q = by_parts (not (nat_lt q w.shared)) (is_atomic (w.choice (name_at w.site.keys (q - w.shared)))) (h (name_at w.site.keys (q - w.shared)))
  where
    by_parts : (a b : Bool) → b ≡ false → (a && b) ≡ false
    by_parts true b e = e
    by_parts false b e = refl

-- ---- sequential loops

tallies_turns : (n : ℕ) (f : ℕ → Local → Tree Local) (adds : ℕ → Local → List ℕ → ℕ) (m : ℕ → Reversing → Reversing) → ((k : ℕ) (l : Local) → Tallies l (f k l) (adds k l) (m k)) → (l : Local)
    → Tallies l (turns_back n f l) (turn_adds f adds n l) (turns_undone n m)
tallies_turns zero f adds m d l = tallies_done l
tallies_turns (suc n) f adds m d l = tallies_both l (f n l) (turns_back n f) (adds n l) (turn_adds f adds n) (m n) (turns_undone n m) (d n l) (λ k. tallies_turns n f adds m d k)

tallies_loop : (names : Names) (w : World) → IsNamed names w.site → (var : List ℕ) (place : Option ℕ) (f : World → Local → Tree Local) (adds : World → Local → List ℕ → ℕ) (m : Reversing → Reversing) → place ≡ scalar_place names var
    → ((l : Local) → Tallies l (f (in_turn w var) l) (adds (in_turn w var) l) m) → (l : Local) → Tallies l (loop_back w var f l) (loop_adds w var f adds l) (loop_undone w.shared place m)
tallies_loop names w s var place f adds m e d l c os n =
    let t : IterationCount = bounds_on l.tape in
    tallies_turns t.count (one_turn_back w var t f) (λ k i. adds (in_turn w var) (with_variable_word w var t k i)) (turn_undone w.shared place t m)
    (λ k i c os n. subst (λ (x : Local). m (reversing (variable_set w.shared place t k i) (at_later c os n)) ≡ tallied_play os (n + adds (in_turn w var) x c) (play (f (in_turn w var) x) c))
    (sym (variable_is w var place t k i (e ∙ sym (scalar_placed names w.site s var)))) (d (variable_set w.shared place t k i) c os n))
    (on_tape (below_words l.tape) l) c os n

-- ---- parallel loops

none_after : (cells : ℕ → Bool) (os us : List Op) (n : ℕ) → us ≡ os ++ [] → adds_on cells os ≡ n → adds_on cells us ≡ n
none_after cells os us n e f = ap (adds_on cells) (e ∙ append-nil os) ∙ f

rounds_add : {A : Type 0} (cells : ℕ → Bool) (t : ℕ → Tree A) (n : ℕ) (c : List ℕ) → adds_on cells (play (rounds t n) c).ops ≡ round_adds cells t n c
rounds_add cells t zero c = refl
rounds_add {A} cells t (suc n) c =
    let r = play (rounds t n) c in
    let last = t n giving (λ _. done (tt {0})) in
    ap (λ (q : Played (Unit {0})). adds_on cells q.ops) (bind (rounds t n) (λ _. last) c)
    ∙ (adds_append cells r.ops (play last r.cells).ops
    ∙ (ap (λ (k : ℕ). adds_on cells r.ops + k) (none_after cells (play (t n) r.cells).ops (play last r.cells).ops (adds_on cells (play (t n) r.cells).ops) (ap (λ (q : Played (Unit {0})). q.ops) (bind (t n) (λ _. done (tt {0})) r.cells)) refl)
    ∙ ap (λ (k : ℕ). k + adds_on cells (play (t n) r.cells).ops) (rounds_add cells t n c)))

parallel_add : (w : World) (number : ℕ) (directive : Directive) (var : List ℕ) (body : Statements) (f : World → Local → Tree Local) (l : Local) (c : List ℕ)
    → adds_on (is_atomic_cell (in_iteration w number directive var body)) (play (parallel_back w number directive var body f l) c).ops ≡ parallel_adds w number directive var body f l c
parallel_add w number directive var body f l c =
    let cells = is_atomic_cell (in_iteration w number directive var body) in
    let its = loop_iterations w number directive var body f l in
    let n = iterations (loop_heads directive var body l) in
    none_after cells (play (rounds its n) c).ops (play (parallel_back w number directive var body f l) c).ops (parallel_adds w number directive var body f l c)
    (ap (λ (q : Played Local). q.ops) (bind (rounds its n) (λ _. done (after_pop (below_heads directive var body l))) c)) (rounds_add cells its n c)

tallies_parallel : (names : Names) (w : World) → IsNamed names w.site → (number : ℕ) (directive : Directive) (var : List ℕ) (body : Statements) (places : List (Option ℕ)) (qs : List PrivateScalar) (rs : List ℕ) → IterationsUndo names w number directive var body places qs rs
    → (us : UndoTrees) → AllUndoStand names (in_iteration w number directive var body) us (iteration_body directive body) → are_flat true body ≡ true → (l : Local)
    → let f = if is_nest directive body then back_inner body else back_all body in
    Tallies l (parallel_back w number directive var body f l) (parallel_adds w number directive var body f l) (parallel_undone w.shared places qs rs (undos_run names w.shared us))
tallies_parallel names w s number directive var body places qs rs h us i q l =
    let v = in_iteration w number directive var body in
    let f = if is_nest directive body then back_inner body else back_all body in
    let t = parallel_back w number directive var body f l in
    let m = parallel_undone w.shared places qs rs (undos_run names w.shared us) in
    tallies_as l t (λ c. adds_on (is_atomic_cell v) (play t c).ops) (parallel_adds w number directive var body f l) m (parallel_add w number directive var body f l)
    (tallies_landed v l t m
    (lands_parallel_body names true w s number directive var body places qs rs h (undos_run names w.shared us)
    (λ k. lands_all names true us (iteration_body directive body) v (named_in_iteration names w s number directive var body) i (λ e. nest_flat (is_nest directive body) body q) k) l))

-- ---- statements

mutual
  tallies_undo : (names : Names) (u : UndoTree) (x : Statement) (w : World) → IsNamed names w.site → IsOutside w → UndoStands names w u x → is_flat false x ≡ true → (l : Local) → Tallies l (back x w l) (adds_of x w l) (undo_run names w.shared u)
  tallies_undo names (undo_store t) (assignment line atomic p e) w s o h q l =
      tallies_as l (back (assignment line atomic p e) w l) (λ c. adds_on (is_atomic_cell w) (play (back (assignment line atomic p e) w l) c).ops) (λ c. 0) (undo_run names w.shared (undo_store t))
      (λ c. adds_none (is_atomic_cell w) (outside_cell w o) (play (back (assignment line atomic p e) w l) c).ops)
      (tallies_landed w l (back (assignment line atomic p e) w l) (undo_run names w.shared (undo_store t)) (lands_store names w s t atomic p e h l true))
  tallies_undo names (undo_store t) (branch line arms other) w s o h q l = absurd h
  tallies_undo names (undo_store t) (loop line number directive var first last step body) w s o h q l = absurd h
  tallies_undo names (undo_choice as' other) (assignment line atomic p e) w s o h q l = absurd h
  tallies_undo names (undo_choice as' other) (branch line arms other') w s o h q l =
      let f = and_parts (are_arms_flat false arms) (are_flat false other') q in
      λ c os n. tallies_arms names as' arms w s o h.0 f.0 (back_all other') (adds_of_all other') (undos_run names w.shared other) (λ k. tallies_all names other other' w s o h.1 f.1 k) (top l.tape) (popped l) c os n
  tallies_undo names (undo_choice as' other) (loop line number directive var first last step body) w s o h q l = absurd h
  tallies_undo names (undo_loop around us) (assignment line atomic p e) w s o h q l = absurd h
  tallies_undo names (undo_loop around us) (branch line arms other) w s o h q l = absurd h
  tallies_undo names (undo_loop (back_turns place) us) (loop line number None var first last step body) w s o h q l =
      tallies_loop names w s var place (back_all body) (adds_of_all body) (undos_run names w.shared us) h.0 (λ k. tallies_all names us body (in_turn w var) (named_in_turn names w s var) o h.1 q k) l
  tallies_undo names (undo_loop (back_iterations places qs rs) us) (loop line number None var first last step body) w s o h q l = absurd h.0
  tallies_undo names (undo_loop (back_turns place) us) (loop line number (Some directive) var first last step body) w s o h q l = absurd h.0
  tallies_undo names (undo_loop (back_iterations places qs rs) us) (loop line number (Some directive) var first last step body) w s o h q l =
      tallies_parallel names w s number directive var body places qs rs h.0 us h.1 q l

  pub tallies_all : (names : Names) (us : UndoTrees) (xs : Statements) (w : World) → IsNamed names w.site → IsOutside w → AllUndoStand names w us xs → are_flat false xs ≡ true → (l : Local) → Tallies l (back_all xs w l) (adds_of_all xs w l) (undos_run names w.shared us)
  tallies_all names no_undos no_statements w s o h q l = tallies_done l
  tallies_all names no_undos (statement x xs) w s o h q l = absurd h
  tallies_all names (undos u us) no_statements w s o h q l = absurd h
  tallies_all names (undos u us) (statement x xs) w s o h q l =
      let f = and_parts (is_flat false x) (are_flat false xs) q in
      tallies_both l (back_all xs w l) (back x w) (adds_of_all xs w l) (adds_of x w) (undos_run names w.shared us) (undo_run names w.shared u) (tallies_all names us xs w s o h.1 f.1 l) (λ k. tallies_undo names u x w s o h.0 f.0 k)

  tallies_arms : (names : Names) (as' : UndoArms) (arms : Arms) (w : World) → IsNamed names w.site → IsOutside w → UndoArmsStand names w as' arms → are_arms_flat false arms ≡ true
      → (f : World → Local → Tree Local) (adds : World → Local → List ℕ → ℕ) (m : Reversing → Reversing) → ((l : Local) → Tallies l (f w l) (adds w l) m) → (k : ℕ) (l : Local) → Tallies l (back_arms arms f k w l) (arm_adds arms adds k w l) (arm_run names w.shared as' m k)
  tallies_arms names no_undo_arms no_arms w s o h q f adds m d k l = d l
  tallies_arms names no_undo_arms (arm test body arms) w s o h q f adds m d k l = absurd h
  tallies_arms names (undo_arm us as') no_arms w s o h q f adds m d k l = absurd h
  tallies_arms names (undo_arm us as') (arm test body arms) w s o h q f adds m d zero l = tallies_all names us body w s o h.0 (and_parts (are_flat false body) (are_arms_flat false arms) q).0 l
  tallies_arms names (undo_arm us as') (arm test body arms) w s o h q f adds m d (suc k) l = tallies_arms names as' arms w s o h.1 (and_parts (are_flat false body) (are_arms_flat false arms) q).1 f adds m d k l

-- ---- what is counted

pub adds_counted : AddsAreCounted
adds_counted names w us xs l c s o h q = ap (λ (r : Reversing). r.stage.adds) (tallies_all names us xs w s o h q l c [] 0) ∙ none_before (adds_of_all xs w l c)

pub program_counted : ProgramAddsAreCounted
program_counted p shapes pushed active choices us l c h q =
    adds_counted (names_of shapes p.decls) (program_world p shapes pushed active choices) us p.body l c (program_named p shapes pushed active choices) (λ x. refl) h q

pub serial_adds_counted : SerialAddsAreCounted
serial_adds_counted names w us xs l c os n s h q =
    ap (λ (r : Reversing). r.stage.adds) (tallies_landed w l (back_all xs w l) (undos_run names w.shared us) (lands_all names true us xs w s h (λ e. q) l) c os n)

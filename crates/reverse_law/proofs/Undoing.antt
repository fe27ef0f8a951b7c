-- By induction on statements of reverse sweeps: the machine comes to what the trees play.
use Rattle.std.proofs.Common.{◌≡◌, ℕ, zero, suc, List, refl, sym, subst, Bool, true, false, ◌&&◌, Option, Some, None}
use Rattle.std.specs.Prelude.{if◌then◌else◌}
use Rattle.std.proofs.lemmas.Bool.{and_parts}
use Rattle.fl_ast.specs.declared.directive.Directive.{Directive}
use Rattle.fl_ast.specs.Tree.{Statement, assignment, branch, loop, Statements, no_statements, statement, Arms, no_arms, arm}
use Rattle.fl_types.specs.Nests.{is_nest, inner_body, iteration_body}
use Rattle.operations.specs.Tree.{Tree}
use Rattle.resolved.specs.SlotTables.{Names}
use Rattle.transposition.specs.Tapes.{top}
use Rattle.transposition.specs.Worlds.{World, Local, in_turn, in_iteration}
use Rattle.transposition.specs.Back.{parallel_back, back, back_all, back_inner, back_arms}
use Rattle.sweep_steps.specs.declared.step.PrivateScalar.{PrivateScalar}
use Rattle.undo_steps.specs.UndoSteps.{back_turns, back_iterations, UndoTree, undo_store, undo_choice, undo_loop, UndoTrees, no_undos, undos, UndoArms, no_undo_arms, undo_arm}
use Rattle.undo_steps.specs.UndosStand.{IterationsUndo, UndoStands, AllUndoStand, UndoArmsStand}
use Rattle.reverse_sweep.specs.Reversing.{Reversing, popped}
use Rattle.reverse_sweep.specs.Machine.{parallel_undone, undo_run, undos_run, arm_run}
use Rattle.reverse_law.specs.Reverse.{IsNamed}
use Rattle.reverse_law.specs.Adds.{is_flat, are_flat, are_arms_flat}
use Rattle.reverse_law.proofs.Landing.{LandsBy, by_done, by_both}
use Rattle.reverse_law.proofs.Assigned.{lands_store}
use Rattle.reverse_law.proofs.Looping.{lands_loop, lands_parallel, named_in_turn, named_in_iteration, iteration_is}

-- ---- parallel loops that are in no other

pub nest_flat : (b : Bool) (body : Statements) → are_flat true body ≡ true → are_flat true (if b then inner_body body else body) ≡ true
nest_flat false body q = q
nest_flat true no_statements q = refl
nest_flat true (statement (assignment line atomic p e) xs) q = refl
nest_flat true (statement (branch line arms other) xs) q = refl
nest_flat true (statement (loop line number None var first last by body) xs) q = (and_parts (are_flat true body) (are_flat true xs) q).0
nest_flat true (statement (loop line number (Some directive) var first last by body) xs) q = cc

-- where additions are seen, no parallel loop is in these statements
abbrev Seen : Bool → Bool → Type 0
Seen b flat = b ≡ true → flat ≡ true

left : (b p q : Bool) → Seen b (p && q) → Seen b p
left b p q h e = (and_parts p q (h e)).0

right : (b p q : Bool) → Seen b (p && q) → Seen b q
right b p q h e = (and_parts p q (h e)).1

-- ---- statements

-- a parallel loop, from what the statements of its iterations come to
pub lands_parallel_body : (names : Names) (b : Bool) (w : World) → IsNamed names w.site → (number : ℕ) (directive : Directive) (var : List ℕ) (body : Statements) (places : List (Option ℕ)) (qs : List PrivateScalar) (rs : List ℕ) → IterationsUndo names w number directive var body places qs rs
    → (m : Reversing → Reversing) → ((l : Local) → LandsBy b (in_iteration w number directive var body) l (back_all (iteration_body directive body) (in_iteration w number directive var body) l) m) → (l : Local)
    → LandsBy b (in_iteration w number directive var body) l (parallel_back w number directive var body (if is_nest directive body then back_inner body else back_all body) l) (parallel_undone w.shared places qs rs m)
lands_parallel_body names b w s number directive var body places qs rs h m d l =
    let v = in_iteration w number directive var body in
    lands_parallel names b w s number directive var body places qs rs h (if is_nest directive body then back_inner body else back_all body) m
    (λ k. subst (λ (t : Tree Local). LandsBy b v k t m) (sym (iteration_is directive body v k)) (d k)) l

-- a parallel loop in another, or where nothing is seen
lands_within : (names : Names) (b : Bool) (w : World) → IsNamed names w.site → (number : ℕ) (directive : Directive) (var : List ℕ) (body : Statements) (places : List (Option ℕ)) (qs : List PrivateScalar) (rs : List ℕ) → IterationsUndo names w number directive var body places qs rs
    → Seen b false → (m : Reversing → Reversing) → ((l : Local) → LandsBy b (in_iteration w number directive var body) l (back_all (iteration_body directive body) (in_iteration w number directive var body) l) m) → (l : Local)
    → LandsBy b w l (parallel_back w number directive var body (if is_nest directive body then back_inner body else back_all body) l) (parallel_undone w.shared places qs rs m)
lands_within names true w s number directive var body places qs rs h q m d l = let e : false ≡ true = q refl in absurd (cc)
lands_within names false w s number directive var body places qs rs h q m d l = lands_parallel_body names false w s number directive var body places qs rs h m d l

mutual
  lands_undo : (names : Names) (b : Bool) (u : UndoTree) (x : Statement) (w : World) → IsNamed names w.site → UndoStands names w u x → Seen b (is_flat true x) → (l : Local) → LandsBy b w l (back x w l) (undo_run names w.shared u)
  lands_undo names b (undo_store t) (assignment line atomic p e) w s h q l = lands_store names w s t atomic p e h l b
  lands_undo names b (undo_store t) (branch line arms other) w s h q l = absurd h
  lands_undo names b (undo_store t) (loop line number directive var first last step body) w s h q l = absurd h
  lands_undo names b (undo_choice as' other) (assignment line atomic p e) w s h q l = absurd h
  lands_undo names b (undo_choice as' other) (branch line arms other') w s h q l =
      λ g. lands_arms names b as' arms w s h.0 (left b (are_arms_flat true arms) (are_flat true other') q) (back_all other') (undos_run names w.shared other)
      (λ k. lands_all names b other other' w s h.1 (right b (are_arms_flat true arms) (are_flat true other') q) k) (top l.tape) (popped l) g
  lands_undo names b (undo_choice as' other) (loop line number directive var first last step body) w s h q l = absurd h
  lands_undo names b (undo_loop around us) (assignment line atomic p e) w s h q l = absurd h
  lands_undo names b (undo_loop around us) (branch line arms other) w s h q l = absurd h
  lands_undo names b (undo_loop (back_turns place) us) (loop line number None var first last step body) w s h q l =
      lands_loop names b w s var place (back_all body) (undos_run names w.shared us) h.0 (λ k. lands_all names b us body (in_turn w var) (named_in_turn names w s var) h.1 q k) l
  lands_undo names b (undo_loop (back_iterations places qs rs) us) (loop line number None var first last step body) w s h q l = absurd h.0
  lands_undo names b (undo_loop (back_turns place) us) (loop line number (Some directive) var first last step body) w s h q l = absurd h.0
  lands_undo names b (undo_loop (back_iterations places qs rs) us) (loop line number (Some directive) var first last step body) w s h q l =
      lands_within names b w s number directive var body places qs rs h.0 q (undos_run names w.shared us)
      (λ k. lands_all names b us (iteration_body directive body) (in_iteration w number directive var body) (named_in_iteration names w s number directive var body) h.1 (λ e. let f : false ≡ true = q e in absurd (cc)) k) l

  pub lands_all : (names : Names) (b : Bool) (us : UndoTrees) (xs : Statements) (w : World) → IsNamed names w.site → AllUndoStand names w us xs → Seen b (are_flat true xs) → (l : Local) → LandsBy b w l (back_all xs w l) (undos_run names w.shared us)
  lands_all names b no_undos no_statements w s h q l = by_done b w l
  lands_all names b no_undos (statement x xs) w s h q l = absurd h
  lands_all names b (undos u us) no_statements w s h q l = absurd h
  lands_all names b (undos u us) (statement x xs) w s h q l =
      by_both b w l (back_all xs w l) (back x w) (undos_run names w.shared us) (undo_run names w.shared u) (lands_all names b us xs w s h.1 (right b (is_flat true x) (are_flat true xs) q) l)
      (λ k. lands_undo names b u x w s h.0 (left b (is_flat true x) (are_flat true xs) q) k)

  lands_arms : (names : Names) (b : Bool) (as' : UndoArms) (arms : Arms) (w : World) → IsNamed names w.site → UndoArmsStand names w as' arms → Seen b (are_arms_flat true arms)
      → (f : World → Local → Tree Local) (m : Reversing → Reversing) → ((l : Local) → LandsBy b w l (f w l) m) → (k : ℕ) (l : Local) → LandsBy b w l (back_arms arms f k w l) (arm_run names w.shared as' m k)
  lands_arms names b no_undo_arms no_arms w s h q f m d k l = d l
  lands_arms names b no_undo_arms (arm test body arms) w s h q f m d k l = absurd h
  lands_arms names b (undo_arm us as') no_arms w s h q f m d k l = absurd h
  lands_arms names b (undo_arm us as') (arm test body arms) w s h q f m d zero l = lands_all names b us body w s h.0 (left b (are_flat true body) (are_arms_flat true arms) q) l
  lands_arms names b (undo_arm us as') (arm test body arms) w s h q f m d (suc k) l = lands_arms names b as' arms w s h.1 (right b (are_flat true body) (are_arms_flat true arms) q) f m d k l

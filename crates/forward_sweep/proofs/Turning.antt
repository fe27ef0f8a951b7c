-- Turns and statements so far, and after a stop.
use Rattle.std.specs.Prelude.{◌≡◌, ℕ, zero, suc, ◌+◌, ◌-◌, ◌≤◌, Bool, true, false, ◌||◌, if◌then◌else◌, List, [], ◌∷◌, ◌++◌, take, is_some, Result, Ok, Err, refl}
use Rattle.std.proofs.Common.{ap, sym, subst, ◌∙◌, arith}
use Rattle.meaning.specs.Logs.{Touch}
use Rattle.meaning.specs.Stops.{Judge, Seen, Stop}
use Rattle.resolved.specs.SlotTables.{Names}
use Rattle.sweep_law.specs.Telling.{Standing, goes_on}
use Rattle.sweep_steps.specs.Steps.{Step, step_tree, step_trees}
use Rattle.forward_state.specs.declared.run.Run.{Run}
use Rattle.forward_state.specs.Holding.{SeenAs, Holds, Leaves}
use Rattle.forward_sweep.specs.Machine.{is_going, turns_run, step_run, steps_run}

-- ---- what is kept tells whether a run goes on

going_by : (names : Names) (r : Run) (watched : ℕ → List Touch → Type 0) (q : Result Seen Stop) → SeenAs names r watched q → is_some r.stop ≡ false → goes_on q ≡ true
going_by names r watched (Ok seen) h e = refl
going_by names r watched (Err x) h e = let y : is_some r.stop ≡ true = ap is_some h.1.0 in cc

stopped_by : (names : Names) (r : Run) (watched : ℕ → List Touch → Type 0) (q : Result Seen Stop) → SeenAs names r watched q → is_some r.stop ≡ true → goes_on q ≡ false
stopped_by names r watched (Ok seen) h e = let y : is_some r.stop ≡ false = ap is_some h.0 in cc
stopped_by names r watched (Err x) h e = refl

is_stopped : (a b : Bool) → (a || b) ≡ true → b ≡ false → a ≡ true
is_stopped true b e f = refl
is_stopped false b e f = cc

not_stopped : (a b : Bool) → (a || b) ≡ false → a ≡ false
not_stopped true b e = cc
not_stopped false b e = refl

if_true : (b : Bool) (x y : Standing) → b ≡ true → (if b then x else y) ≡ x
if_true true x y e = refl
if_true false x y e = cc

if_false : (b : Bool) (x y : Standing) → b ≡ false → (if b then x else y) ≡ y
if_false true x y e = cc
if_false false x y e = refl

-- nothing was done
pub leaves_nothing : (a : Run) (u : ℕ → List Touch → Type 0) (p : ℕ) (judge : Judge) → Leaves a a u u p p judge (λ s. s)
leaves_nothing a u p judge = record { was = λ l. l; leaves = λ l s h. h }

pub leaves_as : {a b : Run} {u v : ℕ → List Touch → Type 0} {p q : ℕ} {judge : Judge} (m n : Standing → Standing) → Leaves a b u v p q judge m → ((s : Standing) → n s ≡ m s) → Leaves a b u v p q judge n
leaves_as {b = b} {v = v} {q = q} {judge = judge} m n d e = record { was = d.was; leaves = λ l s h. subst (λ t. Holds b v q judge t) (sym (e s)) (d.leaves l s h) }

-- a step more, where the run goes on
pub leaves_next : {a b c : Run} {u v w : ℕ → List Touch → Type 0} {p q t : ℕ} {judge : Judge} (m f : Standing → Standing) → Leaves a b u v p q judge m
    → (over : Bool) → over ≡ (is_some b.stop || b.lost) → over ≡ false
    → Leaves b c v w q t judge f → Leaves a c u w p t judge (λ s. if is_going (m s) then f (m s) else m s)
leaves_next {b = b} {c = c} {v = v} {w = w} {t = t} {judge = judge} m f d over o g e = record {
  was = λ l. d.was (e.was l);
  leaves = λ l s h.
      let k = d.leaves (e.was l) s h in
      let going : is_going (m s) ≡ true = going_by (m s).scene.names b v (m s).kept.seen k.seen (not_stopped (is_some b.stop) b.lost (sym o ∙ g)) in
      subst (λ x. Holds c w t judge x) (sym (if_true (is_going (m s)) (f (m s)) (m s) going)) (e.leaves l (m s) k);
}

-- and where it is over
pub leaves_over : {a b : Run} {u v : ℕ → List Touch → Type 0} {p q : ℕ} {judge : Judge} (m n : Standing → Standing) → Leaves a b u v p q judge m
    → (over : Bool) → over ≡ (is_some b.stop || b.lost) → over ≡ true
    → ((s : Standing) → is_going (m s) ≡ false → n s ≡ m s) → Leaves a b u v p q judge n
leaves_over {b = b} {v = v} {q = q} {judge = judge} m n d over o g e = record {
  was = d.was;
  leaves = λ l s h.
      let k = d.leaves l s h in
      let ended : is_going (m s) ≡ false = stopped_by (m s).scene.names b v (m s).kept.seen k.seen (is_stopped (is_some b.stop) b.lost (sym o ∙ g) l) in
      subst (λ x. Holds b v q judge x) (sym (e s ended)) k;
}

-- ---- turns

turn_by : (b : Bool) (n k : ℕ) (f : ℕ → Standing → Standing) (s : Standing) → is_going s ≡ b
    → turns_run (suc n) (k + 1) f (f k s) ≡ (if is_going (turns_run n (k + 1) f (f k s)) then f ((k + 1) + n) (turns_run n (k + 1) f (f k s)) else turns_run n (k + 1) f (f k s))
    → (if b then turns_run (suc n) (k + 1) f (f k s) else s)
    ≡ (let t = if b then turns_run n (k + 1) f (f k s) else s in if is_going t then f (k + suc n) t else t)
turn_by true n k f s g e =
    let t = turns_run n (k + 1) f (f k s) in
    let j : (k + 1) + n ≡ k + suc n = omega arith in
    e ∙ ap (λ i. if is_going t then f i t else t) j
turn_by false n k f s g e = sym (if_false (is_going s) (f (k + suc n) s) s g)

turns_next : (n k : ℕ) (f : ℕ → Standing → Standing) (s : Standing)
    → turns_run (suc n) k f s ≡ (if is_going (turns_run n k f s) then f (k + n) (turns_run n k f s) else turns_run n k f s)
turns_next zero k f s =
    let j : k ≡ k + 0 = omega arith in
    ap (λ i. if is_going s then f i s else s) j
turns_next (suc n) k f s = turn_by (is_going s) n k f s refl (turns_next n (k + 1) f (f k s))

pub turns_more : (i : ℕ) (f : ℕ → Standing → Standing) (s : Standing)
    → turns_run (i + 1) 0 f s ≡ (if is_going (turns_run i 0 f s) then f i (turns_run i 0 f s) else turns_run i 0 f s)
turns_more i f s =
    let t = turns_run i 0 f s in
    let n : i + 1 ≡ suc i = omega arith in
    let j : 0 + i ≡ i = omega arith in
    ap (λ (m : ℕ). turns_run m 0 f s) n ∙ turns_next i 0 f s ∙ ap (λ (m : ℕ). if is_going t then f m t else t) j

turns_stay : (d i : ℕ) (f : ℕ → Standing → Standing) (s : Standing) → is_going (turns_run i 0 f s) ≡ false → turns_run (d + i) 0 f s ≡ turns_run i 0 f s
turns_stay zero i f s e =
    let n : 0 + i ≡ i = omega arith in
    ap (λ (m : ℕ). turns_run m 0 f s) n
turns_stay (suc d) i f s e =
    let t = turns_run (d + i) 0 f s in
    let n : suc d + i ≡ suc (d + i) = omega arith in
    let h : t ≡ turns_run i 0 f s = turns_stay d i f s e in
    ap (λ (m : ℕ). turns_run m 0 f s) n ∙ turns_next (d + i) 0 f s ∙ if_false (is_going t) (f (0 + (d + i)) t) t (ap is_going h ∙ e) ∙ h

pub turns_ended : (n i : ℕ) (f : ℕ → Standing → Standing) (s : Standing) → i ≤ n → is_going (turns_run i 0 f s) ≡ false → turns_run n 0 f s ≡ turns_run i 0 f s
turns_ended n i f s l e =
    let m : n ≡ (n - i) + i = omega arith in
    ap (λ (j : ℕ). turns_run j 0 f s) m ∙ turns_stay (n - i) i f s e

-- ---- statements

steps_by : (b : Bool) (names : Names) (y x : Step) (xs : List Step) (s : Standing) → is_going s ≡ b
    → steps_run names (step_trees (xs ++ x ∷ [])) (step_run names (step_tree y) s)
    ≡ (let t = steps_run names (step_trees xs) (step_run names (step_tree y) s) in if is_going t then step_run names (step_tree x) t else t)
    → (if b then steps_run names (step_trees (xs ++ x ∷ [])) (step_run names (step_tree y) s) else s)
    ≡ (let t = if b then steps_run names (step_trees xs) (step_run names (step_tree y) s) else s in if is_going t then step_run names (step_tree x) t else t)
steps_by true names y x xs s g e = e
steps_by false names y x xs s g e = sym (if_false (is_going s) (step_run names (step_tree x) s) s g)

pub steps_more : (names : Names) (xs : List Step) (x : Step) (s : Standing)
    → steps_run names (step_trees (xs ++ x ∷ [])) s ≡ (if is_going (steps_run names (step_trees xs) s) then step_run names (step_tree x) (steps_run names (step_trees xs) s) else steps_run names (step_trees xs) s)
steps_more names [] x s = refl
steps_more names (y ∷ xs) x s = steps_by (is_going s) names y x xs s refl (steps_more names xs x (step_run names (step_tree y) s))

ended_by : (b : Bool) (names : Names) (x : Step) (xs : List Step) (i : ℕ) (s : Standing)
    → (is_going (steps_run names (step_trees (take i xs)) (step_run names (step_tree x) s)) ≡ false
    → steps_run names (step_trees xs) (step_run names (step_tree x) s) ≡ steps_run names (step_trees (take i xs)) (step_run names (step_tree x) s))
    → is_going (if b then steps_run names (step_trees (take i xs)) (step_run names (step_tree x) s) else s) ≡ false
    → (if b then steps_run names (step_trees xs) (step_run names (step_tree x) s) else s) ≡ (if b then steps_run names (step_trees (take i xs)) (step_run names (step_tree x) s) else s)
ended_by true names x xs i s h e = h e
ended_by false names x xs i s h e = refl

pub steps_ended : (names : Names) (xs : List Step) (i : ℕ) (s : Standing) → is_going (steps_run names (step_trees (take i xs)) s) ≡ false
    → steps_run names (step_trees xs) s ≡ steps_run names (step_trees (take i xs)) s
steps_ended names [] zero s e = refl
steps_ended names [] (suc i) s e = refl
steps_ended names (x ∷ xs) zero s e = if_false (is_going s) (steps_run names (step_trees xs) (step_run names (step_tree x) s)) s e
steps_ended names (x ∷ xs) (suc i) s e = ended_by (is_going s) names x xs i s (steps_ended names xs i (step_run names (step_tree x) s)) e

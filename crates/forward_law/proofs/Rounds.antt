-- The iterations of a parallel loop: their tapes, and where the loop ends.
use Rattle.std.specs.Prelude.{◌≡◌, ℕ, ℤ, zero, suc, ◌+◌, Bool, true, false, if◌then◌else◌, List, [], ◌∷◌, ◌++◌, Option, Some, None, is_some, Result, Ok, refl}
use Rattle.std.proofs.Common.{ap, sym, subst, ◌∙◌}
use Rattle.store_core.specs.Tapes.{Item, IterationLists}
use Rattle.transposition.specs.Tapes.{Tape, empty, many, Tapes, none, more, both_tapes, tape_after, iteration_tapes}
use Rattle.meaning.specs.declared.value.TrapAt.{TrapAt}
use Rattle.meaning.specs.Logs.{begins, touches, pushes, ends, traps, Log, silence, single, touched, sets, both, within, instance, right_side, rounds, turn, iteration, condition, taken, tells, Traced, inside}
use Rattle.meaning.specs.Sites.{Cells, Site}
use Rattle.meaning.specs.Fitting.{Fits}
use Rattle.resolved.specs.SlotTables.{Names}
use Rattle.sweep_law.specs.Telling.{Scene, ForwardTape, Standing, standing, goes_on}
use Rattle.forward_state.specs.Steps.{noted, no_tapes, entered, with_tape, in_iteration, closed, outside, left}
use Rattle.forward_sweep.specs.Machine.{is_going, turns_run}
use Rattle.forward_law.specs.Forward.{words_on, tapes_back, tape_back, TapeView, outside_loops, in_loop, view_by, view, with_last, unlined, Beside}
use Rattle.forward_law.proofs.Following.{taped, rounded, FollowsBy, Follows, Lands}
use Rattle.forward_law.proofs.Combining.{Rests, rests_at, Joins}
use Rattle.forward_law.proofs.Stillness.{noted_still}
use Rattle.forward_law.proofs.Turning.{taped_outside}

-- ---- tapes

same_last : (ts : Tapes) → with_last (λ t. t) ts ≡ ts
same_last none = refl
same_last (more t none) = refl
same_last (more t (more u us)) = ap (more t) (same_last (more u us))

last_twice : (f g : Tape → Tape) (ts : Tapes) → with_last g (with_last f ts) ≡ with_last (λ t. g (f t)) ts
last_twice f g none = refl
last_twice f g (more t none) = refl
last_twice f g (more t (more u none)) = refl
last_twice f g (more t (more u (more v vs))) = ap (more t) (last_twice f g (more u (more v vs)))

-- in a parallel loop a log leaves its words on the last iteration's tape
pub taped_inside : (l : Log) (items : List Item) (bounds : List ℤ) (outer : List (List ℕ × ℤ)) (ts : Tapes) → taped l (in_loop items bounds outer ts) ≡ in_loop items bounds outer (with_last (tape_after l) ts)
taped_inside silence items bounds outer ts = ap (in_loop items bounds outer) (sym (same_last ts))
taped_inside (single begins) items bounds outer ts = ap (in_loop items bounds outer) (sym (same_last ts))
taped_inside (single (touches u)) items bounds outer ts = ap (in_loop items bounds outer) (sym (same_last ts))
taped_inside (single (pushes v)) items bounds outer ts = refl
taped_inside (single (ends line)) items bounds outer ts = ap (in_loop items bounds outer) (sym (same_last ts))
taped_inside (single (traps u)) items bounds outer ts = ap (in_loop items bounds outer) (sym (same_last ts))
taped_inside (touched p kind) items bounds outer ts = ap (in_loop items bounds outer) (sym (same_last ts))
taped_inside (sets p v) items bounds outer ts = ap (in_loop items bounds outer) (sym (same_last ts))
taped_inside (both a b) items bounds outer ts =
    ap (taped b) (taped_inside a items bounds outer ts) ∙ taped_inside b items bounds outer (with_last (tape_after a) ts) ∙ ap (in_loop items bounds outer) (last_twice (tape_after a) (tape_after b) ts)
taped_inside (within rounds a) items bounds outer ts = refl
taped_inside (within instance a) items bounds outer ts = taped_inside a items bounds outer ts
taped_inside (within (right_side x) a) items bounds outer ts = taped_inside a items bounds outer ts
taped_inside (within (turn k) a) items bounds outer ts = taped_inside a items bounds outer ts
taped_inside (within (iteration k) a) items bounds outer ts = taped_inside a items bounds outer ts
taped_inside (within (condition m) a) items bounds outer ts = taped_inside a items bounds outer ts
taped_inside (within (taken m) a) items bounds outer ts = taped_inside a items bounds outer ts

last_of : (f : Tape → Tape) (ts : Tapes) → with_last f (both_tapes ts (more empty none)) ≡ both_tapes ts (more (f empty) none)
last_of f none = refl
last_of f (more t none) = refl
last_of f (more t (more u us)) = ap (more t) (last_of f (more u us))

tapes_more : (ts : List (List ℕ)) → tapes_back (ts ++ [] ∷ []) ≡ both_tapes (tapes_back ts) (more empty none)
tapes_more [] = refl
tapes_more (t ∷ ts) = ap (more (words_on t empty)) (tapes_more ts)

no_more : (ts : Tapes) → both_tapes ts none ≡ ts
no_more none = refl
no_more (more t ts) = ap (more t) (no_more ts)

in_parts : (ts us vs : Tapes) → both_tapes ts (both_tapes us vs) ≡ both_tapes (both_tapes ts us) vs
in_parts none us vs = refl
in_parts (more t ts) us vs = ap (more t) (in_parts ts us vs)

rounded_silent : (w : TapeView) → rounded silence w ≡ w
rounded_silent (outside_loops t) = refl
rounded_silent (in_loop items bounds outer ts) = ap (in_loop items bounds outer) (no_more ts)

rounded_joined : (l m : Log) (w : TapeView) → rounded (both l m) w ≡ rounded m (rounded l w)
rounded_joined l m (outside_loops t) = refl
rounded_joined l m (in_loop items bounds outer ts) = ap (in_loop items bounds outer) (in_parts ts (iteration_tapes l) (iteration_tapes m))

pub rounded_joins : Joins rounded
rounded_joins = record { silent = rounded_silent; joined = rounded_joined }

-- what an iteration leaves on its own tape is a tape more of the loop
round_taped : (items : List Item) (o : Option IterationLists) (k : ℕ) (l : Log) → taped l (view (with_tape (record { items = items; running = o }))) ≡ rounded (within (iteration k) l) (view_by items o)
round_taped items None k l = taped_outside l (tape_back items)
round_taped items (Some r) k l =
    ap (λ (ts : Tapes). taped l (in_loop items r.bounds r.outer ts)) (tapes_more r.tapes)
    ∙ taped_inside l items r.bounds r.outer (both_tapes (tapes_back r.tapes) (more empty none))
    ∙ ap (in_loop items r.bounds r.outer) (last_of (tape_after l) (tapes_back r.tapes))

-- ---- one iteration

-- where the iteration's number is left aside
abbrev pub uniterated : Standing → Standing
uniterated s = standing (record s.scene { iteration = 0 }) s.tape s.kept

pub round_follows : (k : ℕ) (s r : Standing) (u : Traced TrapAt Cells) → s.scene.iteration ≡ 0 → Follows (in_iteration k s) u (Lands r) r → FollowsBy rounded s (inside (iteration k) u) (Lands (uniterated r)) (uniterated r)
round_follows k s r u e f = record {
  kept = f.kept;
  scene = ap (λ (c : Scene). record c { iteration = 0 }) f.scene ∙ ap (λ (i : ℕ). record (unlined s.scene) { iteration = i }) (sym e);
  value = f.value;
  tape = λ g. f.tape g ∙ round_taped s.tape.items s.tape.running k u.log;
}

-- ---- the end of a loop

closed_view : (t : ForwardTape) (items : List Item) (bounds : List ℤ) (outer : List (List ℕ × ℤ)) (ts : Tapes) → view t ≡ in_loop items bounds outer ts → view (closed t) ≡ outside_loops (many ts (tape_back items))
closed_view t items bounds outer ts e = by_running t.items t.running e
  where
    by_running : (is : List Item) (o : Option IterationLists) → view_by is o ≡ in_loop items bounds outer ts → view (closed (record { items = is; running = o })) ≡ outside_loops (many ts (tape_back items))
    by_running is None h = absurd (cc)
    by_running is (Some l) h = let p : is ≡ items = cc in let q : tapes_back l.tapes ≡ ts = cc in rw (p, q) refl

-- a scene whose parallel loop is over
pub back_outside : (c s : Scene) (line : ℕ) → s.around ≡ None → s.iteration ≡ 0 → unlined c ≡ unlined (record s { around = Some line }) → unlined (record c { around = None; iteration = 0 }) ≡ unlined s
back_outside c s line a i e =
    ap (λ (z : Scene). record z { around = None; iteration = 0 }) e
    ∙ ap (λ (o : Option ℕ). record (unlined s) { around = o; iteration = 0 }) (sym a)
    ∙ ap (λ (n : ℕ). record (unlined s) { iteration = n }) (sym i)

pub none_around : (o : Option ℕ) → is_some o ≡ false → o ≡ None
none_around None h = refl
none_around (Some x) h = cc

-- the iterations of the loop at a line come
abbrev pub entry : ℕ → List ℤ → Standing → Standing
entry line bounds s = standing (record s.scene { around = Some line }) (record s.tape { running = Some (no_tapes bounds []) }) s.kept

pub entered_is : (line : ℕ) (bounds : List ℤ) (s : Standing) → is_some s.scene.around ≡ false → entered line bounds [] s ≡ entry line bounds s
entered_is line bounds s h = rw h refl

-- what the iterations tell is what the loop tells of them
pub rounds_follow : (line : ℕ) (bounds : List ℤ) (s r : Standing) (t : Traced TrapAt Cells) → is_some s.scene.around ≡ false → s.scene.iteration ≡ 0 → s.tape.running ≡ None
    → FollowsBy rounded (entry line bounds s) t (Lands r) r → Follows s (inside rounds t) (Lands (outside r)) (outside r)
rounds_follow line bounds s r t a i n f = record {
  kept = f.kept;
  scene = back_outside r.scene s.scene line (none_around s.scene.around a) i f.scene;
  value = f.value;
  tape = λ g. closed_view r.tape s.tape.items bounds [] (iteration_tapes t.log) (f.tape g) ∙ ap (λ (o : Option IterationLists). taped (within rounds t.log) (view_by s.tape.items o)) (sym n);
}

left_by : (s : Standing) (line : ℕ) → s.scene.around ≡ Some line → left s ≡ noted (outside s) (tells (ends line))
left_by s line e = rw e refl

around_of : (c s : Scene) (line : ℕ) → unlined c ≡ unlined (record s { around = Some line }) → c.around ≡ Some line
around_of c s line e = ap (λ (z : Scene). z.around) e

-- the number of the last iteration is left aside at the end
pub left_is : (line : ℕ) (s raw : Standing) → unlined (uniterated raw).scene ≡ unlined (record s.scene { around = Some line }) → left raw ≡ noted (outside (uniterated raw)) (tells (ends line))
left_is line s raw e = left_by raw line (around_of (uniterated raw).scene s.scene line e)

-- turns whose steps take no notice of the iteration's number
pub turns_uniterated : (n k : ℕ) (f : ℕ → Standing → Standing) → ((j : ℕ) (s : Standing) → f j (uniterated s) ≡ f j s) → (s : Standing)
    → uniterated (turns_run n k f s) ≡ turns_run n k (λ j z. uniterated (f j z)) (uniterated s)
turns_uniterated zero k f h s = refl
turns_uniterated (suc n) k f h s = by_going (is_going s) (turns_uniterated n (k + 1) f h (f k s))
  where
    g : ℕ → Standing → Standing
    g j z = uniterated (f j z)

    by_going : (b : Bool) → uniterated (turns_run n (k + 1) f (f k s)) ≡ turns_run n (k + 1) g (uniterated (f k s))
        → uniterated (if b then turns_run n (k + 1) f (f k s) else s) ≡ (if b then turns_run n (k + 1) g (g k (uniterated s)) else uniterated s)
    by_going true e = e ∙ ap (λ (z : Standing). turns_run n (k + 1) g (uniterated z)) (sym (h k s))
    by_going false e = refl

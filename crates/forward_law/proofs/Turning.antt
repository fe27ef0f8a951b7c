-- Turns of loops, from the first and up to the last.
use Rattle.std.specs.Prelude.{◌≡◌, ℕ, ℤ, zero, suc, ◌+◌, ◌<◌, Bool, true, false, if◌then◌else◌, List, [], Option, Some, None, is_some, Result, Ok, refl}
use Rattle.std.proofs.Common.{ap, sym, subst, ◌∙◌, arith}
use Rattle.fl_ast.specs.declared.kind.Kind.TheVariants as kind
use Rattle.ring_core.specs.Index.{IsIndex}
use Rattle.store_core.specs.Tapes.{Item, IterationLists}
use Rattle.transposition.specs.Tapes.{Tape, tape_after}
use Rattle.meaning.specs.declared.value.Value.TheVariants.{Index}
use Rattle.meaning.specs.declared.value.TrapAt.{TrapAt}
use Rattle.meaning.specs.declared.value.IterationCount.{IterationCount}
use Rattle.meaning.specs.Logs.{begins, touches, pushes, ends, traps, Log, silence, single, touched, sets, both, within, instance, right_side, rounds, turn, iteration, condition, taken, Traced, pure, after, ◌>>=◌, inside}
use Rattle.meaning.specs.Sites.{Cells, Site, in_turn, place_of, kind_of}
use Rattle.meaning.specs.Fitting.{Fits}
use Rattle.meaning.specs.Defined.{IsFittingCount}
use Rattle.meaning.specs.Adjoints.{cells_along}
use Rattle.meaning.specs.Statements.{Run, with_log, value_at, with_variable, turns, one_turn, run_turns, loop_words, set_log_at}
use Rattle.meaning.specs.Statements.{set_at as set_cells_at}
use Rattle.meaning.proofs.Gives.{Gives, turns_give}
use Rattle.meaning.proofs.RunsFit.{KeepsFit, one_turn_fits, turn_index, variable_fits}
use Rattle.resolved.specs.SlotTables.{Names}
use Rattle.sweep_steps.specs.StepsStand.{flags_at}
use Rattle.sweep_law.specs.Telling.{Scene, ForwardTape, Standing, goes_on, IsSite}
use Rattle.forward_state.specs.Steps.{begun}
use Rattle.forward_sweep.specs.Machine.{is_going, variable_run, turns_run, words_run}
use Rattle.forward_sweep.specs.Machine.{one_turn as turn_run}
use Rattle.forward_law.specs.Forward.{tape_back, TapeView, outside_loops, view_by, view, unlined, Beside}
use Rattle.forward_law.proofs.Following.{taped, FollowsBy, Follows, Lands}
use Rattle.forward_law.proofs.Combining.{Rests, rests_here, rests_at, Joins, taped_joins, follows_then_by, follows_then}
use Rattle.forward_law.proofs.Stillness.{Leaves}
use Rattle.forward_law.proofs.Heads.{turn_follows, begun_beside, stored_at, placed_follows, variable_is, stored_scene, stored_tape, stored_still, words_follow, words_still}
use Rattle.forward_law.proofs.Leaves.{beside_moved}

-- ---- where a sweep stands

-- outside parallel loops the tape is one
pub taped_outside : (l : Log) (t : Tape) → taped l (outside_loops t) ≡ outside_loops (tape_after l t)
taped_outside silence t = refl
taped_outside (single begins) t = refl
taped_outside (single (touches u)) t = refl
taped_outside (single (pushes v)) t = refl
taped_outside (single (ends line)) t = refl
taped_outside (single (traps u)) t = refl
taped_outside (touched p kind) t = refl
taped_outside (sets p v) t = refl
taped_outside (both a b) t = ap (taped b) (taped_outside a t) ∙ taped_outside b (tape_after a t)
taped_outside (within rounds a) t = refl
taped_outside (within instance a) t = taped_outside a t
taped_outside (within (right_side x) a) t = taped_outside a t
taped_outside (within (turn k) a) t = taped_outside a t
taped_outside (within (iteration k) a) t = taped_outside a t
taped_outside (within (condition m) a) t = taped_outside a t
taped_outside (within (taken m) a) t = taped_outside a t

none_running : (items : List Item) (o : Option IterationLists) (t : Tape) → view_by items o ≡ outside_loops t → o ≡ None
none_running items None t e = refl
none_running items (Some l) t e = absurd (cc)

still_outside : (a b : ForwardTape) (l : Log) → view b ≡ taped l (view a) → a.running ≡ None → b.running ≡ None
still_outside a b l e h =
    none_running b.items b.running (tape_after l (tape_back a.items)) (e ∙ ap (λ (o : Option IterationLists). taped l (view_by a.items o)) h ∙ taped_outside l (tape_back a.items))

pub beside_at : (names : Names) (site : Site) (inside : Bool) (s r : Standing) (c d : Cells) (l : Log) → Beside names site inside s c → unlined r.scene ≡ unlined s.scene → view r.tape ≡ taped l (view s.tape) → Fits site d → Lands r d → Beside names site inside r d
beside_at names site inside s r c d l b e t f h = record {
  named = ap (λ (z : Scene). z.names) e ∙ b.named;
  limits = ap (λ (z : Scene). z.limits) e ∙ b.limits;
  around = ap (λ (z : Scene). is_some z.around) e ∙ b.around;
  outside = λ o. (ap (λ (z : Scene). z.iteration) e ∙ (b.outside o).0, still_outside s.tape r.tape l t (b.outside o).1);
  site_is = b.site_is;
  fits = f;
  cells = h;
}

-- in a turn of a sequential loop the site is one of the same names
pub beside_turned : (names : Names) (site : Site) (inside : Bool) (var : List ℕ) (s : Standing) (c : Cells) → Beside names site inside s c → Beside names (in_turn site var) inside s c
beside_turned names site inside var s c b = record {
  named = b.named;
  limits = b.limits;
  around = b.around;
  outside = b.outside;
  site_is = record { keys = b.site_is.keys; width = b.site_is.width; kinds = b.site_is.kinds; accesses = b.site_is.accesses };
  fits = b.fits;
  cells = b.cells;
}

-- ---- the last turn

abbrev on_going : Standing → (Standing → Standing) → Standing
on_going m f = if is_going m then f m else m

last_by : (b : Bool) (n k : ℕ) (f : ℕ → Standing → Standing) (s : Standing) → is_going s ≡ b
    → (turns_run (suc n) (k + 1) f (f k s) ≡ on_going (turns_run n (k + 1) f (f k s)) (f (k + 1 + n)))
    → turns_run (suc (suc n)) k f s ≡ on_going (turns_run (suc n) k f s) (f (k + suc n))
last_by true n k f s e h =
    let p : k + 1 + n ≡ k + suc n = omega arith in
    rw (e, h, p) refl
last_by false n k f s e h = rw (e, e) refl

first_by : (b : Bool) (k : ℕ) (f : ℕ → Standing → Standing) (s : Standing) → is_going s ≡ b → turns_run (suc zero) k f s ≡ on_going s (f (k + zero))
first_by true k f s e = let p : k + zero ≡ k = omega arith in rw (e, p) refl
first_by false k f s e = rw e refl

-- n turns and one more
pub last_turn : (n k : ℕ) (f : ℕ → Standing → Standing) (s : Standing) → turns_run (suc n) k f s ≡ on_going (turns_run n k f s) (f (k + n))
last_turn zero k f s = first_by (is_going s) k f s refl
last_turn (suc n) k f s = last_by (is_going s) n k f s refl (last_turn n (k + 1) f (f k s))

pub stopped_turns : (n k : ℕ) (f : ℕ → Standing → Standing) (s : Standing) → goes_on s.kept.seen ≡ false → turns_run n k f s ≡ s
stopped_turns zero k f s h = refl
stopped_turns (suc n) k f s h = rw h refl

-- ---- all turns

pub nothing_follows : (s : Standing) (c : Cells) → Lands s c → Follows s (pure {X = TrapAt} c) (Lands s) s
nothing_follows s c h = record { kept = refl; scene = refl; value = λ g. (c, (refl, h)); tape = λ g. refl }

-- where the sweep stands in the turns of a loop
pub record Turning (T : Log → TapeView → TapeView) (P : Standing → Cells → Type 0) (n : ℕ) (f : ℕ → Run) (m : ℕ → Standing → Standing) : Type 0 where
  pub joins : Joins T
  pub lands : (s : Standing) (c : Cells) → P s c → Lands s c
  pub follows : (k : ℕ) → k < n → (s : Standing) (c : Cells) → P s c → FollowsBy T s (f k c) (Lands (m k s)) (m k s)
  pub keeps : (k : ℕ) → k < n → (s r : Standing) (c d : Cells) → P s c → unlined r.scene ≡ unlined s.scene → view r.tape ≡ T (turns k f c).log (view s.tape) → (turns k f c).out ≡ Ok d → Lands r d → P r d

pub one_more : (T : Log → TapeView → TapeView) (P : Standing → Cells → Type 0) (n : ℕ) (f : ℕ → Run) (m : ℕ → Standing → Standing) → Turning T P n f m → (j : ℕ) → j < n → (s r : Standing) (c : Cells) → P s c
    → FollowsBy T s (turns j f c) (Lands r) r → (b : Bool) → is_going r ≡ b → FollowsBy T s (turns (suc j) f c) (Lands (if b then m j r else r)) (if b then m j r else r)
one_more T P n f m t j below s r c p d true e =
    follows_then_by T t.joins s r (m j r) (turns j f c) (f j) (Lands r) (Lands (m j r)) d (λ g x o l. t.follows j below r x (t.keeps j below s r c x p d.scene (d.tape g) o l)) (λ g. absurd (cc))
one_more T P n f m t j below s r c p d false e = follows_then_by T t.joins s r r (turns j f c) (f j) (Lands r) (Lands r) d (λ g. absurd (cc)) (λ g. rests_here r)

pub turns_follow : (T : Log → TapeView → TapeView) (P : Standing → Cells → Type 0) (n : ℕ) (f : ℕ → Run) (m : ℕ → Standing → Standing) → Turning T P n f m → (j : ℕ) → j < suc n → (s : Standing) (c : Cells) → P s c
    → FollowsBy T s (turns j f c) (Lands (turns_run j zero m s)) (turns_run j zero m s)
turns_follow T P n f m t zero b s c p = record { kept = refl; scene = refl; value = λ g. (c, (refl, t.lands s c p)); tape = λ g. sym (t.joins.silent (view s.tape)) }
turns_follow T P n f m t (suc j) b s c p =
    let r = turns_run j zero m s in
    let z : zero + j ≡ j = omega arith in
    let e : turns_run (suc j) zero m s ≡ (if is_going r then m j r else r) = last_turn j zero m s ∙ ap (λ (k : ℕ). if is_going r then m k r else r) z in
    subst (λ (x : Standing). FollowsBy T s (turns (suc j) f c) (Lands x) x) (sym e) (one_more T P n f m t j (omega arith) s r c p (turns_follow T P n f m t j (omega arith) s c p) (is_going r) refl)

-- ---- one turn

abbrev ok : Cells → Result Cells TrapAt
ok d = Ok d

-- where the cells that came out are these, the sweep has come to these
pub lands_out : (x d : Cells) (z : Standing) → ok d ≡ Ok x → Lands z x → Lands z d
lands_out x d z o l = let q : x ≡ d = cc in subst (Lands z) q l

-- what runs does what the meaning tells from everywhere beside fitting cells
abbrev pub BodyFollows : Names → Site → Bool → Run → (Standing → Standing) → Type 0
BodyFollows names site inside f m = (s : Standing) (c : Cells) → Beside names site inside s c → Follows s (f c) (Lands (m s)) (m s)

-- a loop's variable is set, and then something runs
pub variable_follows : (names : Names) (site : Site) (inside : Bool) (var : List ℕ) (z : ℤ) (place : Option ℕ) (f : Run) (m : Standing → Standing) → place ≡ place_of site var [] → kind_of site var ≡ kind.Index → IsIndex z
    → BodyFollows names site inside f m → Leaves m → BodyFollows names site inside (with_variable site var z f) (λ s. m (stored_at place (Some (Index z)) s))
variable_follows names site inside var z place f m e i fit h still s c b =
    let v = Some (Index z) in
    let s2 = stored_at place v s in
    let r = m s2 in
    let d = set_cells_at place v c in
    let fits : Fits site d = subst (λ o. Fits site (set_cells_at o v c)) (sym e) (variable_fits site c b.fits var z i fit) in
    subst (λ o. Follows s (after (set_log_at o v) (f (set_cells_at o v c))) (Lands r) r) e
    (follows_then s s2 r (record { log = set_log_at place v; out = Ok d }) (λ x. f d) (Lands s2) (Lands r) (placed_follows s c place v b.cells refl)
    (λ g x o l. h s2 d (beside_at names site inside s s2 c d silence b (stored_scene place v s) (stored_tape place v s) fits (lands_out x d s2 o l)))
    (λ g. rests_at s2 r (still s2 g)))

pub one_turn_follows : (names : Names) (site : Site) (inside : Bool) (var : List ℕ) (t : IterationCount) (place : Option ℕ) (body : Site → Run) (m : Standing → Standing)
    → place ≡ place_of site var [] → kind_of site var ≡ kind.Index → IsFittingCount t → BodyFollows names (in_turn site var) inside (body (in_turn site var)) m → Leaves m
    → (k : ℕ) → k < t.count → BodyFollows names site inside (one_turn site var t body k) (turn_run m place t k)
one_turn_follows names site inside var t place body m e i fit h still k below s c b =
    let z = value_at t k in
    let s1 = begun s in
    let r = m (stored_at place (Some (Index z)) s1) in
    let w : turn_run m place t k s ≡ r = ap m (variable_is place t k s1) in
    subst (λ (x : Standing). Follows s (one_turn site var t body k c) (Lands x) x) (sym w)
    (turn_follows k s r (with_variable site var z (body (in_turn site var)) c) (Lands r)
    (variable_follows names site inside var z place (body (in_turn site var)) m e i (turn_index t k fit below) (λ y d q. h y d (beside_turned names site inside var y d q)) still s1 c (begun_beside names site inside s c b)))

-- ---- all of a sequential loop

pub turns_of_loop_follow : (names : Names) (site : Site) (inside : Bool) (var : List ℕ) (t : IterationCount) (place : Option ℕ) (body : Site → Run) (m : Standing → Standing)
    → place ≡ place_of site var [] → kind_of site var ≡ kind.Index → IsFittingCount t → KeepsFit site (body (in_turn site var)) → BodyFollows names (in_turn site var) inside (body (in_turn site var)) m → Leaves m
    → BodyFollows names site inside (run_turns var body site t) (λ s. words_run t (turns_run t.count 0 (turn_run m place t) s))
turns_of_loop_follow names site inside var t place body m e i fit kept h still s c b =
    let f = one_turn site var t body in
    let g = turn_run m place t in
    let r = turns_run t.count 0 g s in
    let q = words_run t r in
    let turning : Turning taped (Beside names site inside) t.count f g = record {
      joins = taped_joins;
      lands = λ z d p. p.cells;
      follows = λ k below z d p. one_turn_follows names site inside var t place body m e i fit h still k below z d p;
      keeps = λ k below z y a d p sc w o l. beside_at names site inside z y a d (turns k f a).log p sc w (turns_give k f (Fits site) (λ j x. one_turn_fits site var t body i fit kept j (omega arith)) a p.fits d o) l;
    } in
    follows_then s r q (turns t.count f c) (with_log (loop_words t)) (Lands r) (Lands q) (turns_follow taped (Beside names site inside) t.count f g turning t.count (omega arith) s c b)
    (λ x d o l. words_follow t r d l) (λ x. rests_at r q (words_still t r x))

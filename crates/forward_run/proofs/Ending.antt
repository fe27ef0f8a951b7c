-- How a sweep ends, by what it keeps and by the meaning.
use Rattle.std.specs.Prelude.{◌≡◌, ℕ, ◌+◌, Bool, true, false, List, [], Some, None, Result, Ok, Err, refl}
use Rattle.std.proofs.Common.{ap, sym, subst, ◌∙◌, arith}
use Rattle.fl_ast.specs.Tree.{Subroutine}
use Rattle.store_core.specs.declared.layout.Shape.{Shape}
use Rattle.store_core.specs.Tapes.{Item}
use Rattle.meaning.specs.declared.value.TrapAt.{TrapAt}
use Rattle.meaning.specs.Logs.{Touch, Traced}
use Rattle.meaning.specs.Sites.{Cells}
use Rattle.meaning.specs.Stops.{Judge, the_limits, Seen, Stop, at_end}
use Rattle.meaning.specs.Adjoints.{cells_along}
use Rattle.meaning.specs.Laws.{values_out}
use Rattle.meaning.specs.Programs.{entry_site, entry_cells, meaning}
use Rattle.first_stops.specs.Kept.{stop_of, KeepsFirstStop}
use Rattle.resolved.specs.SlotTables.{Names}
use Rattle.transposition.specs.Tapes.{empty, tape_after}
use Rattle.sweep_steps.specs.Steps.{StepTrees}
use Rattle.sweep_law.specs.Telling.{Scene, Standing, goes_on}
use Rattle.forward_state.specs.declared.run.Run.{Run}
use Rattle.forward_state.specs.declared.run.SweepStop.{SweepStop}
use Rattle.forward_state.specs.Holding.{stop_back, ticks_of, SeenAs, Holds}
use Rattle.forward_sweep.specs.Machine.{steps_run}
use Rattle.forward_law.specs.Forward.{tape_back, unlined, IsToldOutside}
use Rattle.forward_law.proofs.Statements.{outside_told}
use Rattle.first_stops.proofs.Keeping.{keeping}
use Rattle.forward_run.specs.declared.stop.ForwardStop.{ForwardStop}
use Rattle.forward_run.specs.declared.stop.ForwardStop.TheVariants as stop
use Rattle.forward_run.specs.Swept.{Left, IsStop, Unless, opening_standing, EndsAs, EndsAt, IsOpened, stop_in, ticks_in, ForwardsAs}
use Rattle.forward_run.proofs.Entering.{opened_beside}

-- ---- by what is kept

seen_open : (names : Names) (r : Run) (watched : ℕ → List Touch → Type 0) (q : Result Seen Stop) → SeenAs names r watched q → r.stop ≡ None → goes_on q ≡ true
seen_open names r watched (Ok seen) h e = refl
seen_open names r watched (Err x) h e = let y = h.1.0 in cc

seen_stop : (names : Names) (r : Run) (watched : ℕ → List Touch → Type 0) (q : Result Seen Stop) → SeenAs names r watched q → (y : SweepStop) → r.stop ≡ Some y → stop_of q ≡ stop_back names y
seen_stop names r watched (Ok seen) h y e = let z = h.0 in cc
seen_stop names r watched (Err x) h y e =
    let z : r.stop ≡ Some h.0 = h.1.0 in
    let f : h.0 ≡ y = cc in
    h.1.1 ∙ ap (stop_back names) f

abbrev left_by : Cells → List Item → Left
left_by c t = record { cells = c; tape = t }

kept_as : (c : Cells) (t : List Item) (d : Cells) (u : List Item) → c ≡ d → t ≡ u → left_by c t ≡ left_by d u
kept_as c t d u p q = ap (λ (x : Cells). left_by x t) p ∙ ap (λ (x : List Item). left_by d x) q

stops_at : (e : ForwardStop) (names : Names) (r : Run) (watched : ℕ → List Touch → Type 0) (s : Standing) (after n : ℕ) → (r.lost ≡ false → SeenAs s.scene.names r watched s.kept.seen)
    → Unless e ((r.lost ≡ false) × ((y : SweepStop) × ((r.stop ≡ Some y) × IsStop e (stop_back names y)))) → (r.lost ≡ false → after ≡ n) → s.scene.names ≡ names → IsStop e (stop_of s.kept.seen) × Unless e (after ≡ n)
stops_at (stop.Trap t) names r watched s after n h u k m = (seen_stop s.scene.names r watched s.kept.seen (h u.0) u.1.0 u.1.1.0 ∙ ap (λ (a : Names). stop_back a u.1.0) m ∙ u.1.1.1, k u.0)
stops_at stop.Statements names r watched s after n h u k m = (seen_stop s.scene.names r watched s.kept.seen (h u.0) u.1.0 u.1.1.0 ∙ ap (λ (a : Names). stop_back a u.1.0) m ∙ u.1.1.1, k u.0)
stops_at stop.Touches names r watched s after n h u k m = (seen_stop s.scene.names r watched s.kept.seen (h u.0) u.1.0 u.1.1.0 ∙ ap (λ (a : Names). stop_back a u.1.0) m ∙ u.1.1.1, k u.0)
stops_at stop.Words names r watched s after n h u k m = (seen_stop s.scene.names r watched s.kept.seen (h u.0) u.1.0 u.1.1.0 ∙ ap (λ (a : Names). stop_back a u.1.0) m ∙ u.1.1.1, k u.0)
stops_at (stop.Conflict c) names r watched s after n h u k m = (seen_stop s.scene.names r watched s.kept.seen (h u.0) u.1.0 u.1.1.0 ∙ ap (λ (a : Names). stop_back a u.1.0) m ∙ u.1.1.1, k u.0)
stops_at stop.Memory names r watched s after n h u k m = (tt, tt)

-- a sweep that holds of where it stands ends so
pub ends_at : {T : Type 0} (view : T → Left) (names : Names) (r : Run) (watched : ℕ → List Touch → Type 0) (places : ℕ) (judge : Judge) (s : Standing) (result : Result T ForwardStop) (before after first : ℕ)
    → (r.lost ≡ false → Holds r watched places judge s) → first ≡ 0 → after + first ≡ before + ticks_of r → EndsAs view names r result → EndsAt view names s result before after
ends_at view names r watched places judge s (Ok f) before after first h z k e =
    let a = h e.0 in
    let t : s.kept.ticks ≡ ticks_of r = a.ticks in
    (seen_open s.scene.names r watched s.kept.seen a.seen e.1, e.2 ∙ kept_as r.cells.items r.tape s.kept.cells s.tape.items (sym a.cells) (sym a.items), omega (arith, k, t, z))
ends_at view names r watched places judge s (Err x) before after first h z k e = λ m.
    stops_at x names r watched s after (before + s.kept.ticks) (λ l. (h l).seen) e
    (λ l. let t : s.kept.ticks ≡ ticks_of r = (h l).ticks in omega (arith, k, t, z)) m

-- ---- by the meaning

scene_names : (c d : Scene) → unlined c ≡ unlined d → c.names ≡ d.names
scene_names c d e = ap (λ (x : Scene). x.names) e

open_stop : (q : Result Seen Stop) → goes_on q ≡ true → stop_of q ≡ at_end
open_stop (Ok s) h = refl
open_stop (Err x) h = cc

out_is : (out : Result Cells TrapAt) (d c : Cells) → out ≡ Ok d → c ≡ cells_along [] d → values_out out ≡ Ok c
out_is out d c e f = ap values_out e ∙ ap (λ (x : Cells). Ok x) (sym f)

stops_by : (e : ForwardStop) (s t : Stop) (after n m : ℕ) → s ≡ t → n ≡ m → IsStop e s × Unless e (after ≡ n) → IsStop e t × Unless e (after ≡ m)
stops_by e s t after n m p q h = subst (λ (x : Stop). IsStop e x × Unless e (after ≡ m)) p (subst (λ (k : ℕ). IsStop e s × Unless e (after ≡ k)) q h)

told_ends : {T : Type 0} (view : T → Left) (judge : Judge) (t : Traced TrapAt Cells) (names : Names) (r : Standing) (cells : Cells) (result : Result T ForwardStop) (before after : ℕ)
    → KeepsFirstStop judge the_limits t.log cells r.kept → r.scene.names ≡ names
    → (goes_on r.kept.seen ≡ true → (d : Cells) × ((t.out ≡ Ok d) × (r.kept.cells ≡ cells_along [] d)))
    → (goes_on r.kept.seen ≡ true → tape_back r.tape.items ≡ tape_after t.log empty)
    → EndsAt view names r result before after → ForwardsAs view judge t result before after
told_ends view judge t names r cells (Ok f) before after k m c u h =
    let d = c h.0 in
    let left : view f ≡ left_by r.kept.cells r.tape.items = h.1 in (
      sym k.stop ∙ open_stop r.kept.seen h.0,
      out_is t.out d.0 (view f).cells d.1.0 (ap (λ (x : Left). x.cells) left ∙ d.1.1),
      ap (λ (x : Left). tape_back x.tape) left ∙ u h.0,
      h.2 ∙ ap (λ (n : ℕ). before + n) k.all_ticks,
    )
told_ends view judge t names r cells (Err e) before after k m c u h =
    stops_by e (stop_of r.kept.seen) (stop_in judge t) after (before + r.kept.ticks) (before + ticks_in judge t) k.stop (ap (λ (n : ℕ). before + n) k.all_ticks) (h m)

pub forwards : {T : Type 0} (view : T → Left) (judge : Judge) (p : Subroutine) (shapes : List Shape) (pushed : List ℕ → Bool) (words : List ℕ) (names : Names) (ts : StepTrees) (cells : Cells) (result : Result T ForwardStop) (before after : ℕ)
    → IsOpened p shapes pushed words names ts cells → EndsAt view names (steps_run names ts (opening_standing judge names cells)) result before after
    → ForwardsAs view judge (meaning p shapes pushed words []) result before after
forwards view judge p shapes pushed words names ts cells result before after o h =
    let site = entry_site p shapes pushed in
    let c = cells_along [] (entry_cells p shapes words) in
    let s = opening_standing judge names cells in
    let t : Traced TrapAt Cells = meaning p shapes pushed words [] in
    let r = steps_run names ts s in
    let told : IsToldOutside s t r = outside_told names site ts p.body o.stands o.kinded o.flat s c (opened_beside judge p shapes pushed words names ts cells o) in
    let keep : KeepsFirstStop judge the_limits t.log cells r.kept = subst (KeepsFirstStop judge the_limits t.log cells) (sym told.told.kept) (keeping judge the_limits t.log cells) in
    told_ends view judge t names r cells result before after keep (scene_names r.scene s.scene told.told.scene) told.told.cells told.items h

-- Steps that are told, while nothing has stopped.
use Rattle.std.specs.Result.{is_err}
use Rattle.std.specs.Prelude.{OnOk, ◌≡◌, ℕ, zero, suc, ◌+◌, ◌<◌, Bool, true, false, if◌then◌else◌, ◌&&◌, nat_le, nat_lt, ◌≤◌, List, [], ◌∷◌, ◌++◌, length, Option, Some, None, is_some, Result, Ok, Err, refl}
use Rattle.std.proofs.Common.{ap, sym, subst, ◌∙◌, arith}
use Rattle.std.proofs.lemmas.Bool.Decides.{nat_tests}
use Rattle.fl_types.specs.declared.access.AccessKind.{AccessKind}
use Rattle.fl_types.specs.declared.access.AccessKind.TheVariants.{Read}
use Rattle.store_core.specs.Tapes.{Item, IterationLists}
use Rattle.meaning.specs.declared.value.Value.{Value}
use Rattle.meaning.specs.Sites.{Cells, word_of}
use Rattle.meaning.specs.Expressions.{content}
use Rattle.dual_evaluation.specs.declared.stop.Halt.TheVariants.{Unset}
use Rattle.meaning.specs.Logs.{Touch, Event, begins, touches, pushes, tells}
use Rattle.meaning.specs.Stops.{Judge, Limits, the_limits, Seen, Stop, seen_with, tick_of}
use Rattle.first_stops.specs.Kept.{Kept, taken, with_note}
use Rattle.resolved.specs.SlotTables.{Names}
use Rattle.sweep_law.specs.Telling.{Scene, ForwardTape, Standing, standing, touched_by, loaded_cell, told}
use Rattle.forward_state.specs.declared.run.Run.{Run}
use Rattle.forward_state.specs.declared.run.SweepStop.{SweepStop}
use Rattle.forward_state.specs.Steps.{noted, begun, touched_at, with_tape, with_next_tape}
use Rattle.sweep_evaluation.specs.Machine.{Ran, ran, Does}
use Rattle.forward_state.specs.Holding.{over_by, ticks_of, AreSince, SeenAs, Holds, Leaves}

-- what was seen, where nothing has stopped
pub record IsOpen (r : Run) (watched : ℕ → List Touch → Type 0) (q : Result Seen Stop) : Type 0 where
  pub seen : Seen
  pub is : q ≡ Ok seen
  pub statements : seen.statements ≡ r.statements
  pub touches : seen.touches ≡ r.touches
  pub words : seen.words ≡ r.words
  pub since : AreSince watched r.around seen.since

pub open_seen : (names : Names) (r : Run) (watched : ℕ → List Touch → Type 0) (q : Result Seen Stop) → SeenAs names r watched q → r.stop ≡ None → IsOpen r watched q
open_seen names r watched (Ok seen) h e = record { seen = seen; is = refl; statements = h.1; touches = h.2; words = h.3; since = h.4 }
open_seen names r watched (Err x) h e = let y = h.1.0 in cc

-- an event more
pub noted_event : (s : Standing) (seen : Seen) (e : Event) → s.kept.seen ≡ Ok seen
    → noted s (tells e) ≡ standing s.scene s.tape (record { seen = seen_with s.scene.judge s.scene.limits seen e; ticks = s.kept.ticks + tick_of e; cells = s.kept.cells })
noted_event s seen e q = ap (λ (r : Result Seen Stop). standing s.scene s.tape (taken s.scene.judge s.scene.limits (tells e) s.kept.ticks s.kept.cells r)) q

fits_limit : (b : Bool) (a x : Result Seen Stop) → b ≡ true → (if b then a else x) ≡ a
fits_limit true a x e = refl
fits_limit false a x e = cc

limit_kept : (a b n m : ℕ) → a ≡ b → b < n → n ≡ m → nat_le (a + 1) m ≡ true
limit_kept a b n m p h q = grind (arith, nat_tests)

touched_seen : (judge : Judge) (limits : Limits) (seen : Seen) (t : Touch) (r : Run) → limits ≡ the_limits → seen.touches ≡ r.touches → r.touches < 16777216
    → seen_with judge limits seen (touches t) ≡ Ok (record seen { touches = seen.touches + 1; since = seen.since ++ t ∷ [] })
touched_seen judge limits seen t r e f h = fits_limit (nat_le (seen.touches + 1) limits.touches) _ _ (limit_kept seen.touches r.touches 16777216 limits.touches f h (ap (λ (l : Limits). l.touches) (sym e)))

none_more : (n m : ℕ) → n ≡ m → n + 0 ≡ m
none_more n m e = omega (arith, e)

one_more : (n m : ℕ) → n ≡ m → n + 1 ≡ m + 1
one_more n m e = omega (arith, e)

since_more : (around : Option ℕ) (watched after : ℕ → List Touch → Type 0) (ts : List Touch) (t : Touch) → is_some around ≡ true
    → ((line : ℕ) → watched line ts → after line (ts ++ t ∷ [])) → AreSince watched around ts → AreSince after around (ts ++ t ∷ [])
since_more (Some line) watched after ts t e f h = f line h
since_more None watched after ts t e f h = cc

taken_branch : (b : Bool) (s t : Standing) → b ≡ true → (if b then s else t) ≡ s
taken_branch true s t e = refl
taken_branch false s t e = cc

left_branch : (b : Bool) (s t : Standing) → b ≡ false → (if b then s else t) ≡ t
left_branch true s t e = cc
left_branch false s t e = refl

inside_test : (a : Option ℕ) (p n : ℕ) → is_some a ≡ true → p < n → (is_some a && nat_lt p n) ≡ true
inside_test (Some line) p n e h = grind (arith, nat_tests)
inside_test None p n e h = cc

outside_test : (a : Option ℕ) (p n : ℕ) → is_some a ≡ false → (is_some a && nat_lt p n) ≡ false
outside_test (Some line) p n e = cc
outside_test None p n e = refl

past_test : (a : Option ℕ) (p n : ℕ) → n ≤ p → (is_some a && nat_lt p n) ≡ false
past_test (Some line) p n h = grind (arith, nat_tests)
past_test None p n h = refl

-- outside parallel loops, and past the cells, nothing is touched
pub untouched_outside : (r : Run) (watched : ℕ → List Touch → Type 0) (places : ℕ) (judge : Judge) (s : Standing) (p : ℕ) (kind : AccessKind) → Holds r watched places judge s → is_some r.around ≡ false
    → Holds r watched places judge (touched_at s p kind)
untouched_outside r watched places judge s p kind h e =
    rw (left_branch (is_some s.scene.around && nat_lt p (length s.kept.cells)) _ s (outside_test s.scene.around p (length s.kept.cells) (ap is_some h.around ∙ e))) h

pub untouched_past : (r : Run) (watched : ℕ → List Touch → Type 0) (places : ℕ) (judge : Judge) (s : Standing) (p : ℕ) (kind : AccessKind) → Holds r watched places judge s → length r.cells.items ≤ p
    → Holds r watched places judge (touched_at s p kind)
untouched_past r watched places judge s p kind h e =
    rw (left_branch (is_some s.scene.around && nat_lt p (length s.kept.cells)) _ s (past_test s.scene.around p (length s.kept.cells) (subst (λ (n : ℕ). n ≤ p) (ap length (sym h.cells)) e))) h

pub touched_holds : (r : Run) (watched after : ℕ → List Touch → Type 0) (places placed : ℕ) (judge : Judge) (s : Standing) (p : ℕ) (kind : AccessKind) → Holds r watched places judge s
    → r.stop ≡ None → r.touches < 16777216 → is_some r.around ≡ true → p < length r.cells.items → placed ≡ places
    → (p < places → (line : ℕ) (ts : List Touch) → watched line ts → after line (ts ++ record { place = p; iteration = r.iteration; kind = kind } ∷ []))
    → Holds (record r { touches = r.touches + 1 }) after placed judge (touched_at s p kind)
touched_holds r watched after places placed judge s p kind h stop below around there same told =
    let o = open_seen s.scene.names r watched s.kept.seen h.seen stop in
    let t : Touch = record { place = p; iteration = s.scene.iteration; kind = kind } in
    let q : p < length s.kept.cells = subst (λ (n : ℕ). p < n) (ap length (sym h.cells)) there in
    rw (
      taken_branch (is_some s.scene.around && nat_lt p (length s.kept.cells)) (noted s (tells (touches t))) s (inside_test s.scene.around p (length s.kept.cells) (ap is_some h.around ∙ around) q),
      noted_event s o.seen (touches t) o.is,
      touched_seen s.scene.judge s.scene.limits o.seen t r h.limits o.touches below,
    ) record {
      judged = h.judged;
      limits = h.limits;
      line = h.line;
      around = h.around;
      iteration = h.iteration;
      cells = h.cells;
      watches = same ∙ h.watches;
      ticks = none_more s.kept.ticks (ticks_of r) h.ticks;
      seen = (
        stop,
        o.statements,
        one_more o.seen.touches r.touches o.touches,
        o.words,
        since_more r.around watched after o.seen.since t around
            (λ line w. rw h.iteration (told (subst (λ (n : ℕ). p < n) (sym h.watches) there) line o.seen.since w)) o.since,
      );
      items = h.items;
      running = h.running;
    }

-- one step after the other
pub leaves_both : {a b c : Run} {u v w : ℕ → List Touch → Type 0} {p q t : ℕ} {judge : Judge} (m n : Standing → Standing) → Leaves a b u v p q judge m → Leaves b c v w q t judge n → Leaves a c u w p t judge (λ s. n (m s))
leaves_both m n d e = record { was = λ l. d.was (e.was l); leaves = λ l s h. e.leaves l (m s) (d.leaves (e.was l) s h) }

pub next_held : (r : Run) (watched : ℕ → List Touch → Type 0) (places : ℕ) (judge : Judge) (s : Standing) (i : ℕ) (running : Option IterationLists) → Holds r watched places judge s
    → record { items = r.tape; running = running } ≡ with_tape (record { items = r.tape; running = r.running })
    → Holds (record r { iteration = i; running = running }) watched places judge (with_next_tape i s)
next_held r watched places judge s i running h e =
    let t : with_tape s.tape ≡ record { items = r.tape; running = running } = ap with_tape (tape_is s.tape r.tape r.running h.items h.running) ∙ sym e in
    record {
      judged = h.judged;
      limits = h.limits;
      line = h.line;
      around = h.around;
      iteration = refl;
      cells = h.cells;
      watches = h.watches;
      ticks = h.ticks;
      seen = h.seen;
      items = ap (λ (x : ForwardTape). x.items) t;
      running = ap (λ (x : ForwardTape). x.running) t;
    }
  where
    tape_is : (t : ForwardTape) (items : List Item) (running : Option IterationLists) → t.items ≡ items → t.running ≡ running → t ≡ record { items = items; running = running }
    tape_is t items running p q = ap (λ (x : List Item). record { items = x; running = t.running }) p ∙ ap (λ (x : Option IterationLists). record { items = items; running = x }) q

-- what a load finds
pub absent : (r : Run) (watched : ℕ → List Touch → Type 0) (places : ℕ) (judge : Judge) (s : Standing) (slot p : ℕ) (accessed : Bool) → Holds r watched places judge s → content r.cells.items p ≡ None
    → (told.word s p ≡ 0) × (told.loaded s slot p accessed ≡ told.stopped s (Unset slot))
absent r watched places judge s slot p accessed h e =
    let q : content s.kept.cells p ≡ None = ap (λ (c : Cells). content c p) h.cells ∙ e in
    (ap word_of q, ap (λ (v : Option Value). standing s.scene s.tape (loaded_cell s.scene s.kept slot p accessed v)) q)

there : (cells : Cells) (p : ℕ) (v : Value) → content cells p ≡ Some v → p < length cells
there [] p v e = cc
there (c ∷ cells) zero v e = omega arith
there (c ∷ cells) (suc p) v e = let i = there cells p v e in omega (arith, i)

present : (r : Run) (watched : ℕ → List Touch → Type 0) (places : ℕ) (judge : Judge) (s : Standing) (p : ℕ) → Holds r watched places judge s
    → content s.kept.cells p ≡ content r.cells.items p
present r watched places judge s p h = ap (λ (c : Cells). content c p) h.cells

loaded_touched : (s : Standing) (slot p : ℕ) (v : Value) → content s.kept.cells p ≡ Some v → told.loaded s slot p true ≡ touched_at s p Read
loaded_touched s slot p v e =
    ap (λ (w : Option Value). standing s.scene s.tape (loaded_cell s.scene s.kept slot p true w)) e ∙ by_around (is_some s.scene.around) (nat_lt p (length s.kept.cells)) (let i = there s.kept.cells p v e in grind (arith, nat_tests))
  where
    by_around : (a b : Bool) → b ≡ true
        → standing s.scene s.tape (if true && a then touched_by s.scene s.kept p else s.kept) ≡ (if a && b then noted s (tells (touches (record { place = p; iteration = s.scene.iteration; kind = Read }))) else s)
    by_around true true q = refl
    by_around false b q = refl
    by_around true false q = cc

loaded_untouched : (s : Standing) (slot p : ℕ) (v : Value) → content s.kept.cells p ≡ Some v → told.loaded s slot p false ≡ s
loaded_untouched s slot p v e = ap (λ (w : Option Value). standing s.scene s.tape (loaded_cell s.scene s.kept slot p false w)) e

-- a load of a place that is set, with its touch where it is an access, and without
pub does_touched : (r q : Run) (u v : ℕ → List Touch → Type 0) (n m : ℕ) (judge : Judge) (slot p : ℕ) (c : Value) (x : ℕ) → content r.cells.items p ≡ Some c → x ≡ word_of (Some c)
    → Leaves r q u v n m judge (λ s. touched_at s p Read)
    → q.lost ≡ false → (s : Standing) → Holds r u n judge s → (x ≡ told.word s p) × Holds q v m judge (told.loaded s slot p true)
does_touched r q u v n m judge slot p c x e w d l s h =
    let f = present r u n judge s p h ∙ e in
    (w ∙ sym (ap word_of f), rw (loaded_touched s slot p c f) (d.leaves l s h))

pub does_untouched : (r : Run) (u : ℕ → List Touch → Type 0) (n : ℕ) (judge : Judge) (slot p : ℕ) (c : Value) (x : ℕ) → content r.cells.items p ≡ Some c → x ≡ word_of (Some c)
    → (s : Standing) → Holds r u n judge s → (x ≡ told.word s p) × Holds r u n judge (told.loaded s slot p false)
does_untouched r u n judge slot p c x e w s h =
    let f = present r u n judge s p h ∙ e in
    (w ∙ sym (ap word_of f), rw (loaded_untouched s slot p c f) h)

pub some_of : (o : Option Value) → is_some o ≡ true → (v : Value) × (o ≡ Some v)
some_of (Some v) e = (v, refl)
some_of None e = cc

pub ok_holds : {A E : Type 0} (r : Result A E) (P : Type 0) → is_err r ≡ false → OnOk r P → P
ok_holds (Ok a) P e h = h
ok_holds (Err x) P e h = cc

-- a step by what is held, as a step by what is kept
pub leaves_held : {B : Type 0} (f : B → Standing → Standing) (v : Cells → B) (a b : Run) (u w : ℕ → List Touch → Type 0) (p q : ℕ) (judge : Judge) → Leaves a b u w p q judge (f (v a.cells.items))
    → Leaves a b u w p q judge (λ s. f (v s.kept.cells) s)
leaves_held f v a b u w p q judge d = record { was = d.was; leaves = λ l s h. subst (λ (x : Cells). Holds b w q judge (f (v x) s)) (sym h.cells) (d.leaves l s h) }

-- an evaluation, and then a step by its result
pub does_leaves : {V A : Type 0} (run : V → Run) (watched : V → ℕ → List Touch → Type 0) (places : V → ℕ) (judge : Judge) (u v w : V) (a : A) (m : Standing → Ran Standing A) (f : A → Standing → Standing)
    → Does (λ x s. Holds (run x) (watched x) (places x) judge s) (λ x. (run x).lost) u v a m → Leaves (run v) (run w) (watched v) (watched w) (places v) (places w) judge (f a)
    → Leaves (run u) (run w) (watched u) (watched w) (places u) (places w) judge (λ s. f (m s).out (m s).state)
does_leaves run watched places judge u v w a m f d e = record {
  was = λ l. d.before (e.was l);
  leaves = λ l s h. let r = d.runs (e.was l) s h in subst (λ x. Holds (run w) (watched w) (places w) judge (f x (m s).state)) r.0 (e.leaves l (m s).state r.1);
}

-- a stop
pub stop_leaves : {V : Type 0} (run : V → Run) (watched : V → ℕ → List Touch → Type 0) (places : V → ℕ) (judge : Judge) (u v : V) (x : Unit {0}) (m : Standing → Standing)
    → Does (λ y s. Holds (run y) (watched y) (places y) judge s) (λ y. (run y).lost) u v x (λ s. ran x (m s)) → Leaves (run u) (run v) (watched u) (watched v) (places u) (places v) judge m
stop_leaves run watched places judge u v x m d = record { was = d.before; leaves = λ l s h. (d.runs l s h).1 }

-- What sweeps keep, one step after the other.
use Rattle.std.specs.Prelude.{◌≡◌, ℕ, ◌+◌, ℤ, pos, Bool, true, false, ◌&&◌, if◌then◌else◌, List, [], ◌∷◌, ◌++◌, Option, Some, None, is_some, Result, Ok, Err, refl}
use Rattle.std.proofs.Common.{ap, sym, subst, ◌∙◌}
use Rattle.std.proofs.lemmas.List.{append_assoc}
use Rattle.ring_core.specs.declared.index.IndexTrap.{IndexTrap}
use Rattle.ring_core.specs.declared.index.IndexTrap.TheVariants as trap
use Rattle.fl_ast.specs.declared.kind.Kind.{Kind}
use Rattle.fl_types.specs.declared.access.AccessKind.TheVariants.{Read}
use Rattle.meaning.specs.declared.value.Value.{Value}
use Rattle.meaning.specs.declared.value.Value.TheVariants.{Index}
use Rattle.meaning.specs.declared.value.Cause.{Cause}
use Rattle.meaning.specs.Values.{of_index}
use Rattle.meaning.specs.Logs.{Event, touches, traps, Log, silence, both, single, touched, Note, tells, stores, notes_in, Traced, pure, lift, after, continuation, at_line}
use Rattle.meaning.specs.Sites.{Cells, Site, word_of}
use Rattle.meaning.specs.Stops.{Judge, Limits, Seen, Stop}
use Rattle.meaning.specs.Expressions.{content, after_touch, read_cell, read_place}
use Rattle.meaning.specs.Fitting.{HasKind}
use Rattle.meaning.proofs.Placing.{HoldsKind}
use Rattle.first_stops.specs.Kept.{Kept, taken, with_note, after_notes}
use Rattle.first_stops.proofs.Keeping.{kept_in_parts}
use Rattle.resolved.specs.ResolvedExprs.{slot_name}
use Rattle.dual_evaluation.specs.declared.stop.Halt.{Halt}
use Rattle.dual_evaluation.specs.declared.stop.Halt.TheVariants.{Bounds, Unset}
use Rattle.dual_evaluation.specs.Answers.{halt_cause}
use Rattle.sweep_evaluation.specs.Machine.{Ran, ran, ◌to◌, Told, halt_of, exactly, load_at}
use Rattle.sweep_law.specs.Telling.{Scene, stopped_by, touched_by, loaded_cell, goes_on, IsNumber}

-- ---- at one scene

-- a load gives the word of the place's content, and tells a touch, or that the place is unset
abbrev pub told_by : Scene → Told Kept
told_by c = record {
  word = λ k p. word_of (content k.cells p);
  loaded = λ k slot p accessed. loaded_cell c k slot p accessed (content k.cells p);
  stopped = stopped_by c;
}

pub record Comes {X A : Type 0} (c : Scene) (k : Kept) (t : Traced Cause X) (R : X → A → Type 0) (r : Ran Kept A) : Type 0 where
  pub told : r.state ≡ after_notes c.judge c.limits k (notes_in c.iteration (at_line c.line t).log)
  pub cells : r.state.cells ≡ k.cells
  pub value : goes_on r.state.seen ≡ true → (x : X) × ((t.out ≡ Ok x) × R x r.out)

pub clash : {b : Bool} → b ≡ true → b ≡ false → ⊥
clash p q = cc

-- ---- after a stop nothing changes

still_notes : (j : Judge) (l : Limits) (r : Result Seen Stop) (n : ℕ) (c : Cells) (ns : List Note) → goes_on r ≡ false
    → after_notes j l (record { seen = r; ticks = n; cells = c }) ns ≡ record { seen = r; ticks = n; cells = c }
still_notes j l (Ok s) n c ns h = cc
still_notes j l (Err x) n c [] h = refl
still_notes j l (Err x) n c (tells e ∷ ns) h = still_notes j l (Err x) n c ns h
still_notes j l (Err x) n c (stores p v ∷ ns) h = still_notes j l (Err x) n c ns h

pub still : (j : Judge) (l : Limits) (k : Kept) (ns : List Note) → goes_on k.seen ≡ false → after_notes j l k ns ≡ k
still j l k ns h = still_notes j l k.seen k.ticks k.cells ns h

-- a run that leaves what stopped before
abbrev pub Still : {A : Type 0} → (Kept → Ran Kept A) → Type 0
Still m = (k : Kept) → goes_on k.seen ≡ false → (m k).state ≡ k

pub still_ran : {A : Type 0} (a : A) → Still (ran a)
still_ran a k h = refl

pub still_to : {A B : Type 0} (m : Kept → Ran Kept A) (f : A → Kept → Ran Kept B) → Still m → ((a : A) → Still (f a)) → Still (λ k. m k to f)
still_to m f sm sf k h = let e : (m k).state ≡ k = sm k h in sf (m k).out (m k).state (subst (λ (z : Kept). goes_on z.seen ≡ false) (sym e) h) ∙ e

pub still_two : {A B C : Type 0} (m : Kept → Ran Kept A) (n : Kept → Ran Kept B) (f : A → B → Kept → Ran Kept C) → Still m → Still n → ((a : A) (b : B) → Still (f a b)) → Still (λ k. m k to (λ a t. n t to f a))
still_two m n f sm sn sf = still_to m (λ a t. n t to f a) sm (λ a. still_to n (f a) sn (sf a))

still_stopped : (c : Scene) (why : Halt) (k : Kept) → goes_on k.seen ≡ false → stopped_by c k why ≡ k
still_stopped c why k h = still c.judge c.limits k (tells (traps (record { line = c.line; cause = halt_cause c.names.0 why })) ∷ []) h

pub still_exactly : (c : Scene) (r : Result ℤ IndexTrap) → Still (exactly (told_by c) r)
still_exactly c (Ok z) k h = refl
still_exactly c (Err t) k h = still_stopped c (halt_of t) k h

still_loaded : (c : Scene) (k : Kept) (slot p : ℕ) (accessed : Bool) (v : Option Value) → goes_on k.seen ≡ false → loaded_cell c k slot p accessed v ≡ k
still_loaded c k slot p accessed None h = still_stopped c (Unset slot) k h
still_loaded c k slot p accessed (Some v) h = by_flag (accessed && is_some c.around)
  where
    by_flag : (b : Bool) → (if b then touched_by c k p else k) ≡ k
    by_flag true = still c.judge c.limits k (tells (touches (record { place = p; iteration = c.iteration; kind = Read })) ∷ []) h
    by_flag false = refl

pub still_load : (c : Scene) (slot : ℕ) (accessed : Bool) (o : Option ℕ) → Still (load_at (told_by c) slot accessed o)
still_load c slot accessed None k h = still_stopped c (Bounds slot) k h
still_load c slot accessed (Some p) k h = still_loaded c k slot p accessed (content k.cells p) h

-- ---- one step

pub comes_ran : {X A : Type 0} (c : Scene) (k : Kept) (R : X → A → Type 0) (x : X) (a : A) → R x a → Comes c k (pure {X = Cause} x) R (ran a k)
comes_ran c k R x a h = record { told = refl; cells = refl; value = λ g. (x, (refl, h)) }

cells_told : (j : Judge) (l : Limits) (e : Event) (n : ℕ) (cells : Cells) (r : Result Seen Stop) → (taken j l (tells e) n cells r).cells ≡ cells
cells_told j l e n cells (Ok s) = refl
cells_told j l e n cells (Err x) = refl

never_past : (j : Judge) (l : Limits) (k : Kept) (r : Result Seen Stop) (t : _) → goes_on (taken j l (tells (traps t)) k.ticks k.cells r).seen ≡ false
never_past j l k (Ok s) t = refl
never_past j l k (Err x) t = refl

pub comes_stop : {X A : Type 0} (c : Scene) (k : Kept) (R : X → A → Type 0) (why : Halt) (cause : Cause) (a : A) → halt_cause c.names.0 why ≡ cause
    → Comes c k (lift {A = X} (Err cause)) R (ran a (stopped_by c k why))
comes_stop c k R why cause a e = rw (sym e) record {
  told = refl;
  cells = cells_told c.judge c.limits (traps (record { line = c.line; cause = halt_cause c.names.0 why })) k.ticks k.cells k.seen;
  value = λ g. absurd (clash g (never_past c.judge c.limits k k.seen (record { line = c.line; cause = halt_cause c.names.0 why })));
}

halts_by : (c : Scene) (t : IndexTrap) (cause : Cause) → of_index (Err t) ≡ Err cause → halt_cause c.names.0 (halt_of t) ≡ cause
halts_by c trap.Range cause e = cc
halts_by c trap.ZeroDivisor cause e = cc

pub comes_exactly : (c : Scene) (k : Kept) (r : Result ℤ IndexTrap) → Comes c k (lift (of_index r)) IsNumber (exactly (told_by c) r k)
comes_exactly c k (Ok z) = comes_ran c k IsNumber (Index z) z refl
comes_exactly c k (Err trap.Range) = comes_stop c k IsNumber (halt_of trap.Range) _ (pos 0) refl
comes_exactly c k (Err trap.ZeroDivisor) = comes_stop c k IsNumber (halt_of trap.ZeroDivisor) _ (pos 0) refl

-- ---- loads

-- the word of a value of a kind
abbrev pub IsRead : Kind → Value → ℕ → Type 0
IsRead kd v w = (w ≡ word_of (Some v)) × HasKind kd v

comes_touched : (c : Scene) (k : Kept) (site : Site) (kd : Kind) (x : List ℕ) (flag : Bool) (p : ℕ) (v : Value) → site.accessed x ≡ flag → HasKind kd v
    → Comes c k (after_touch site x p Read (pure v)) (IsRead kd) (ran (word_of (Some v)) (if flag then touched_by c k p else k))
comes_touched c k site kd x true p v e h = rw e record {
  told = refl;
  cells = cells_told c.judge c.limits (touches (record { place = p; iteration = c.iteration; kind = Read })) k.ticks k.cells k.seen;
  value = λ g. (v, (refl, (refl, h)));
}
comes_touched c k site kd x false p v e h = rw e (comes_ran c k (IsRead kd) v (word_of (Some v)) (refl, h))

comes_cell : (c : Scene) (k : Kept) (site : Site) (kd : Kind) (slot : ℕ) (accessed : Bool) (p : ℕ) (cell : Option Value) → site.accessed (slot_name c.names.0 slot) ≡ (accessed && is_some c.around) → HoldsKind kd cell
    → Comes c k (read_cell site (slot_name c.names.0 slot) p cell) (IsRead kd) (ran (word_of cell) (loaded_cell c k slot p accessed cell))
comes_cell c k site kd slot accessed p None e h = comes_stop c k (IsRead kd) (Unset slot) _ 0 refl
comes_cell c k site kd slot accessed p (Some v) e h = comes_touched c k site kd (slot_name c.names.0 slot) (accessed && is_some c.around) p v e h

pub comes_load : (c : Scene) (k : Kept) (site : Site) (cells : Cells) (kd : Kind) (slot : ℕ) (accessed : Bool) (o : Option ℕ) → k.cells ≡ cells → site.accessed (slot_name c.names.0 slot) ≡ (accessed && is_some c.around)
    → ((p : ℕ) → o ≡ Some p → HoldsKind kd (content cells p))
    → Comes c k (read_place site cells (slot_name c.names.0 slot) o) (IsRead kd) (load_at (told_by c) slot accessed o k)
comes_load c k site cells kd slot accessed None q e h = comes_stop c k (IsRead kd) (Bounds slot) _ 0 refl
comes_load c k site cells kd slot accessed (Some p) q e h = rw (sym q) (comes_cell c k site kd slot accessed p (content k.cells p) e (subst (λ (cs : Cells). HoldsKind kd (content cs p)) (sym q) (h p refl)))

-- ---- one step and then another

notes_by : {X : Type 0} (i line : ℕ) (l m : Log) (r : Result X Cause) → notes_in i (at_line line (record { log = both l m; out = r })).log ≡ notes_in i l ++ notes_in i (at_line line (record { log = m; out = r })).log
notes_by i line l m (Ok x) = refl
notes_by i line l m (Err e) = append_assoc (notes_in i l) (notes_in i m) _

stopped_comes : {Y B : Type 0} (c : Scene) (k : Kept) (t : Traced Cause Y) (Q : Y → B → Type 0) (s : Kept) (n : Ran Kept B) → n.state ≡ s → goes_on s.seen ≡ false
    → s ≡ after_notes c.judge c.limits k (notes_in c.iteration (at_line c.line t).log) → s.cells ≡ k.cells → Comes c k t Q n
stopped_comes c k t Q s n e h told cells = record {
  told = e ∙ told;
  cells = ap (λ (z : Kept). z.cells) e ∙ cells;
  value = λ g. absurd (clash (subst (λ (z : Kept). goes_on z.seen ≡ true) e g) h);
}

further : {Y B : Type 0} (c : Scene) (k s : Kept) (l : Log) (u : Traced Cause Y) (Q : Y → B → Type 0) (n : Ran Kept B)
    → s ≡ after_notes c.judge c.limits k (notes_in c.iteration l) → s.cells ≡ k.cells → Comes c s u Q n → Comes c k (after l u) Q n
further c k s l u Q n told cells d = record {
  told = d.told ∙ ap (λ (z : Kept). after_notes c.judge c.limits z (notes_in c.iteration (at_line c.line u).log)) told
      ∙ sym (kept_in_parts c.judge c.limits k (notes_in c.iteration l) (notes_in c.iteration (at_line c.line u).log))
      ∙ ap (after_notes c.judge c.limits k) (sym (notes_by c.iteration c.line l u.log u.out));
  cells = d.cells ∙ cells;
  value = d.value;
}

pub comes_by : {X Y A B : Type 0} (c : Scene) (k : Kept) (l : Log) (r : Result X Cause) (f : X → Traced Cause Y) (R : X → A → Type 0) (Q : Y → B → Type 0) (m : Ran Kept A) (g : A → Kept → Ran Kept B)
    → Comes c k (record { log = l; out = r }) R m → ((a : A) → Still (g a))
    → ((x : X) → R x m.out → Comes c m.state (f x) Q (g m.out m.state))
    → Comes c k (continuation l r f) Q (g m.out m.state)
comes_by c k l (Err e) f R Q m g d s h = by_going (goes_on m.state.seen) refl
  where
    by_going : (b : Bool) → goes_on m.state.seen ≡ b → Comes c k (record { log = l; out = Err e }) Q (g m.out m.state)
    by_going true q = let v = d.value q in cc
    by_going false q = stopped_comes c k (record { log = l; out = Err e }) Q m.state (g m.out m.state) (s m.out m.state q) q d.told d.cells
comes_by c k l (Ok x) f R Q m g d s h = by_going (goes_on m.state.seen) refl
  where
    by_going : (b : Bool) → goes_on m.state.seen ≡ b → Comes c k (after l (f x)) Q (g m.out m.state)
    by_going true q = let v = d.value q in let e : v.0 ≡ x = cc in further c k m.state l (f x) Q (g m.out m.state) d.told d.cells (h x (subst (λ y. R y m.out) e v.1.1))
    by_going false q = let w : Comes c m.state (f x) Q (g m.out m.state) = stopped_comes c m.state (f x) Q m.state (g m.out m.state) (s m.out m.state q) q (sym (still c.judge c.limits m.state (notes_in c.iteration (at_line c.line (f x)).log) q)) refl in
        further c k m.state l (f x) Q (g m.out m.state) d.told d.cells w

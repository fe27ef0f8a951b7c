-- Touches, words and stores of a forward sweep beside those of the meaning.
use Rattle.std.specs.Prelude.{◌≡◌, ℕ, zero, suc, Bool, true, false, ◌&&◌, if◌then◌else◌, nat_lt, List, [], ◌∷◌, ◌++◌, length, Option, Some, None, is_some, Result, Ok, Err, slice_set, refl}
use Rattle.std.proofs.Common.{ap, sym, subst, ◌∙◌}
use Rattle.fl_types.specs.declared.access.AccessKind.{AccessKind}
use Rattle.store_core.specs.Tapes.{Item, IterationLists, with_word}
use Rattle.meaning.specs.declared.value.Value.{Value}
use Rattle.meaning.specs.declared.value.Value.TheVariants.{Index, Ring}
use Rattle.meaning.specs.declared.value.Cause.{Cause}
use Rattle.meaning.specs.declared.value.TrapAt.{TrapAt}
use Rattle.meaning.specs.Logs.{Event, touches, pushes, Log, single, touched, Note, tells, stores, Traced, after, at_line}
use Rattle.meaning.specs.Sites.{Cells, with_tangent, word_of}
use Rattle.meaning.specs.Stops.{Seen, Stop, Judge, Limits}
use Rattle.meaning.specs.Adjoints.{cells_along}
use Rattle.meaning.specs.Expressions.{content}
use Rattle.meaning.specs.Statements.{set_log, store_at}
use Rattle.transposition.specs.Tapes.{Tape, empty, Tapes, none, more}
use Rattle.transposition.specs.Tapes.{word as tape_word}
use Rattle.first_stops.specs.Kept.{Kept, taken, with_note}
use Rattle.sweep_law.specs.Telling.{ForwardTape, Standing, goes_on}
use Rattle.forward_state.specs.Steps.{noted, set_at, pushed, with_word_on}
use Rattle.forward_state.specs.Steps.{touched_if, pushed_if}
use Rattle.forward_law.specs.Forward.{words_on, tapes_back, in_loop, view_by, view, with_last, on_tape, unlined}
use Rattle.forward_law.proofs.Following.{Follows, Lands}
use Rattle.forward_law.proofs.Combining.{alike_follows, lined_after, follows_after}

-- ---- contents without tangents

pub bare_twice : (v : Option Value) → with_tangent 0 (with_tangent 0 v) ≡ with_tangent 0 v
bare_twice None = refl
bare_twice (Some (Index z)) = refl
bare_twice (Some (Ring d)) = refl

pub word_bare : (v : Option Value) → word_of (with_tangent 0 v) ≡ word_of v
word_bare None = refl
word_bare (Some (Index z)) = refl
word_bare (Some (Ring d)) = refl

pub content_bare : (c : Cells) (p : ℕ) → content (cells_along [] c) p ≡ with_tangent 0 (content c p)
content_bare [] p = refl
content_bare (v ∷ c) zero = refl
content_bare (v ∷ c) (suc p) = content_bare c p

set_bare : (c : Cells) (p : ℕ) (v : Option Value) → slice_set (cells_along [] c) p (with_tangent 0 v) ≡ cells_along [] (slice_set c p v)
set_bare [] p v = refl
set_bare (w ∷ c) zero v = refl
set_bare (w ∷ c) (suc p) v = ap (λ (b : Cells). with_tangent 0 w ∷ b) (set_bare c p v)

pub long_bare : (c : Cells) → length (cells_along [] c) ≡ length c
long_bare [] = refl
long_bare (v ∷ c) = ap suc (long_bare c)

-- ---- what one thing more leaves

told_cells : (j : Judge) (l : Limits) (e : Event) (n : ℕ) (c : Cells) (r : Result Seen Stop) → (taken j l (tells e) n c r).cells ≡ c
told_cells j l e n c (Ok s) = refl
told_cells j l e n c (Err x) = refl

pub noted_cells : (s : Standing) (e : Event) → (noted s (tells e)).kept.cells ≡ s.kept.cells
noted_cells s e = told_cells s.scene.judge s.scene.limits e s.kept.ticks s.kept.cells s.kept.seen

stored_cells : (j : Judge) (l : Limits) (p : ℕ) (v : Option Value) (n : ℕ) (c : Cells) (r : Result Seen Stop) → goes_on (taken j l (stores p v) n c r).seen ≡ true → (taken j l (stores p v) n c r).cells ≡ slice_set c p v
stored_cells j l p v n c (Ok s) g = refl
stored_cells j l p v n c (Err x) g = absurd (cc)

pub set_cells : (s : Standing) (p : ℕ) (v : Option Value) → goes_on (set_at s p v).kept.seen ≡ true → (set_at s p v).kept.cells ≡ slice_set s.kept.cells p (with_tangent 0 v)
set_cells s p v g = stored_cells s.scene.judge s.scene.limits p (with_tangent 0 v) s.kept.ticks s.kept.cells s.kept.seen g

-- ---- touches

abbrev touch_at : Standing → ℕ → AccessKind → Standing
touch_at s p kind = noted s (tells (touches (record { place = p; iteration = s.scene.iteration; kind = kind })))

-- a touch where the occurrence is an access in a parallel loop
abbrev pub touched_by : Bool → ℕ → AccessKind → Standing → Standing
touched_by b p kind s = if b then touch_at s p kind else s

pub touched_is : (accessed : Bool) (p : ℕ) (kind : AccessKind) (s : Standing) → nat_lt p (length s.kept.cells) ≡ true → touched_if accessed p kind s ≡ touched_by (accessed && is_some s.scene.around) p kind s
touched_is false p kind s h = refl
touched_is true p kind s h = by_test (nat_lt p (length s.kept.cells)) h (is_some s.scene.around)
  where
    by_test : (b : Bool) → b ≡ true → (a : Bool) → (if a && b then touch_at s p kind else s) ≡ (if a then touch_at s p kind else s)
    by_test true e true = refl
    by_test true e false = refl
    by_test false e a = cc

pub touched_cells : (b : Bool) (p : ℕ) (kind : AccessKind) (s : Standing) → (touched_by b p kind s).kept.cells ≡ s.kept.cells
touched_cells true p kind s = noted_cells s (touches (record { place = p; iteration = s.scene.iteration; kind = kind }))
touched_cells false p kind s = refl

pub touched_scene : (b : Bool) (p : ℕ) (kind : AccessKind) (s : Standing) → unlined (touched_by b p kind s).scene ≡ unlined s.scene
touched_scene true p kind s = refl
touched_scene false p kind s = refl

pub touched_follows : {Y : Type 0} (line : ℕ) (b : Bool) (p : ℕ) (kind : AccessKind) (s r : Standing) (u : Traced Cause Y) (Q : Y → Type 0)
    → Follows (touched_by b p kind s) (at_line line u) Q r → Follows s (at_line line (if b then after (touched p kind) u else u)) Q r
touched_follows line true p kind s r u Q f =
    alike_follows s (at_line line (after (touched p kind) u)) (after (touched p kind) (at_line line u)) Q r (lined_after line (touched p kind) u.log u.out)
    (follows_after s (touch_at s p kind) r (touched p kind) (at_line line u) Q refl refl (λ g. refl) f)
touched_follows line false p kind s r u Q f = f

-- ---- words

word_taped : (t u : ForwardTape) (b : Bool) → b ≡ true → (if b then u else t) ≡ u
word_taped t u true h = refl
word_taped t u false h = absurd (cc)

words_more : (ws : List ℕ) (w : ℕ) (t : Tape) → words_on (ws ++ w ∷ []) t ≡ tape_word w (words_on ws t)
words_more [] w t = refl
words_more (v ∷ ws) w t = words_more ws w (tape_word v t)

last_more : (ts : List (List ℕ)) (w : ℕ) → tapes_back (with_word ts w) ≡ with_last (tape_word w) (tapes_back ts)
last_more [] w = refl
last_more (t ∷ []) w = ap (λ x. more x none) (words_more t w empty)
last_more (t ∷ u ∷ ts) w = ap (more (words_on t empty)) (last_more (u ∷ ts) w)

-- a word more, as it is seen
word_viewed : (items : List Item) (running : Option IterationLists) (w : ℕ) → view (with_word_on (record { items = items; running = running }) w) ≡ on_tape (tape_word w) (view_by items running)
word_viewed items None w = refl
word_viewed items (Some l) w = ap (in_loop items l.bounds l.outer) (last_more l.tapes w)

pub word_follows : {Y : Type 0} (s r : Standing) (v w : Option Value) (u : Traced TrapAt Y) (Q : Y → Type 0) → with_tangent 0 v ≡ with_tangent 0 w
    → Follows (pushed s v) u Q r → Follows s (after (single (pushes (with_tangent 0 w))) u) Q r
word_follows s r v w u Q e f =
    follows_after s (pushed s v) r (single (pushes (with_tangent 0 w))) u Q
    (ap (λ (x : Option Value). with_note s.scene.judge s.scene.limits s.kept (tells (pushes x))) e)
    refl
    (λ g. ap view (word_taped s.tape (with_word_on s.tape (word_of v)) (goes_on (pushed s v).kept.seen) g) ∙ word_viewed s.tape.items s.tape.running (word_of v) ∙ ap (λ x. on_tape (tape_word x) (view s.tape)) (sym (word_bare v) ∙ ap word_of e))
    f

pub pushed_follows : {Y : Type 0} (line : ℕ) (b : Bool) (s r : Standing) (v w : Option Value) (u : Traced Cause Y) (Q : Y → Type 0) → with_tangent 0 v ≡ with_tangent 0 w
    → Follows (pushed_if b v s) (at_line line u) Q r → Follows s (at_line line (if b then after (single (pushes (with_tangent 0 w))) u else u)) Q r
pushed_follows line true s r v w u Q e f =
    alike_follows s (at_line line (after (single (pushes (with_tangent 0 w))) u)) (after (single (pushes (with_tangent 0 w))) (at_line line u)) Q r (lined_after line (single (pushes (with_tangent 0 w))) u.log u.out)
    (word_follows s r v w (at_line line u) Q e f)
pushed_follows line false s r v w u Q e f = f

pub pushed_cells : (s : Standing) (v : Option Value) → (pushed s v).kept.cells ≡ s.kept.cells
pushed_cells s v = noted_cells s (pushes (with_tangent 0 v))

pub pushed_if_cells : (b : Bool) (s : Standing) (v : Option Value) → (pushed_if b v s).kept.cells ≡ s.kept.cells
pushed_if_cells true s v = pushed_cells s v
pushed_if_cells false s v = refl

pub pushed_if_scene : (b : Bool) (s : Standing) (v : Option Value) → unlined (pushed_if b v s).scene ≡ unlined s.scene
pushed_if_scene true s v = refl
pushed_if_scene false s v = refl

-- ---- stores

pub set_follows : (s : Standing) (c : Cells) (p : ℕ) (v w : Option Value) → s.kept.cells ≡ cells_along [] c → with_tangent 0 v ≡ with_tangent 0 w
    → Follows s (record { log = set_log p w; out = Ok (slice_set c p w) }) (Lands (set_at s p v)) (set_at s p v)
set_follows s c p v w h e = record {
  kept = ap (λ (x : Option Value). with_note s.scene.judge s.scene.limits s.kept (stores p x)) e;
  scene = refl;
  value = λ g. (slice_set c p w, (refl, set_cells s p v g ∙ ap (λ (cs : Cells). slice_set cs p (with_tangent 0 v)) h ∙ ap (slice_set (cells_along [] c) p) e ∙ set_bare c p w));
  tape = λ g. refl;
}

-- Statements without parallel loops are undone, and the pairing is kept.
use Rattle.std.proofs.Common.{◌≡◌, ◌≢◌, ℕ, zero, suc, ◌+◌, ◌<◌, ◌^◌, ◌==◌, List, [], ◌++◌, refl, ap, sym, ◌∙◌, subst, arith, length, Bool, true, false, ◌||◌, Option, Some, None, Ok, Err, ℤ, pos}
use Rattle.std.specs.Prelude.{slice_set, bytes_eq, if◌then◌else◌, ◌+ℤ◌}
use Rattle.std.specs.Int.{w64, cast_unsigned}
use Rattle.std.proofs.lemmas.Bool.{eqb-true, eq-eqb}
use Rattle.std.proofs.lemmas.Slice.Eq.{bytes_eq-Decides}
use Rattle.std.proofs.lemmas.List.{length-set}
use Rattle.ring_core.specs.Index.{IsIndex}
use Rattle.pairing.proofs.Sames.{of_equal}
use Rattle.fl_ast.specs.Tree.{Expression, Designator, Statements, Arms, arm, Condition}
use Rattle.fl_types.specs.Increment.{Signed}
use Rattle.meaning.specs.declared.value.Value.{Value}
use Rattle.meaning.specs.declared.value.Value.TheVariants.{Index}
use Rattle.meaning.specs.declared.value.Cause.{Cause}
use Rattle.meaning.specs.declared.value.TrapAt.{TrapAt}
use Rattle.meaning.specs.declared.value.IterationCount.{IterationCount}
use Rattle.meaning.specs.Values.{whole_number}
use Rattle.meaning.specs.Logs.{Log, Traced, pure, lift, after, instance, taken, ◌>>=◌}
use Rattle.meaning.specs.Sites.{Cells, Site, place_of}
use Rattle.meaning.specs.Expressions.{content, value_of}
use Rattle.meaning.specs.Statements.{Run, assignment_by, turns_by, step_value, turns_of, value_at, set_at, set_log_at, turns, choice, in_arm, run_all, run_arms}
use Rattle.meaning.proofs.Parts.{bound}
use Rattle.transposition.specs.Worlds.{World, name_at, in_turn}
use Rattle.transposition.specs.Law.{Use, Fit, Like, Within, flat, local, Ends, Undoes}
use Rattle.transposition.specs.Sound.{SoundVariable, SoundAssigned, scope_with}
use Rattle.transposition.proofs.Keys.{Stands, stands}
use Rattle.transposition.proofs.Places.{content_set_other}
use Rattle.transposition.proofs.Plain.{plain_undone, tangents_off}
use Rattle.transposition.proofs.Increments.{increment_undone}
use Rattle.std.specs.Ordering.{int_eq}
use Rattle.std.specs.Prelude.{int_div, ◌-ℤ◌}
use Rattle.store_core.specs.Bounds.{clipped}
use Rattle.meaning.specs.Sites.{in_turn as site_in_turn}
use Rattle.transposition.proofs.Kept.{Keeps}
use Rattle.std.proofs.Common.{inl, inr, take}
use Rattle.std.specs.Prelude.{slice_index, cond}
use Rattle.std.proofs.lemmas.List.{get_or-set_same, get_or-set_other}
use Rattle.meaning.specs.Logs.{both, within}
use Rattle.meaning.specs.Sites.{word_of}
use Rattle.operations.specs.Tree.{Tree, done, and_then, play}
use Rattle.operations.proofs.Trees.{bind}
use Rattle.pairing.specs.Pair.{pair}
use Rattle.transposition.specs.Tapes.{Tape, word, tape_after}
use Rattle.transposition.specs.Worlds.{Local}
use Rattle.transposition.specs.Back.{turns_on, assignment_back, turns_back, one_turn_back, loop_back, back_all, back_arms, with_variable_word as variable_set}
use Rattle.transposition.proofs.Split.{own_value_set, cells_kept}
use Rattle.transposition.proofs.Flats.{read_back}
use Rattle.transposition.proofs.Reading.{cover_both}
use Rattle.transposition.proofs.Taping.{Wordless, wordless_bind, wordless}
use Rattle.transposition.proofs.Runs.{held_in_turn, held_there, turns_kept}

pub undone_both : (w : World) (u : Use) (ts : Log) (f g : Local → Tree Local) (t t1 t2 : Tape) (s s1 s2 : Cells) → Undoes w u ts f t t1 s s1 → Undoes w u ts g t1 t2 s1 s2 → Undoes w u ts (λ l. and_then (g l) f) t t2 s s2
undone_both w u ts f g t t1 t2 s s1 s2 h k vs bs l wide long small =
    let a = k vs bs l wide long small in
    let b = h a.vs2 a.bs2 a.like a.wide a.long a.words in
    rw (bind (g (local w.shared t2 vs bs)) f (flat w.shared vs bs)) (rw (a.out, a.cells) (record {
      vs2 = b.vs2;
      bs2 = b.bs2;
      out = b.out;
      cells = b.cells;
      like = b.like;
      wide = b.wide;
      long = b.long;
      words = b.words;
      pairs = b.pairs ∙ a.pairs;
      cover = cover_both w ts _ _ a.cover b.cover;
    }))

pub undone_none : (w : World) (u : Use) (ts : Log) (t : Tape) (s s2 : Cells) → s ≡ s2 → Undoes w u ts (λ l. done l) t t s s2
undone_none w u ts t s s2 e vs bs l wide long small =
    record { vs2 = vs; bs2 = bs; out = refl; cells = refl; like = rw e l; wide = wide; long = long; words = small; pairs = rw e refl; cover = tt }

-- the same with another tape, or another end
pub undone_tape : (w : World) (u : Use) (ts : Log) (f : Local → Tree Local) (t t1 t2 : Tape) (s s2 : Cells) → t1 ≡ t2 → Undoes w u ts f t t1 s s2 → Undoes w u ts f t t2 s s2
undone_tape w u ts f t t1 t2 s s2 e h = subst (λ (x : Tape). Undoes w u ts f t x s s2) e h

pub within_left : (on : List ℕ → Bool) (l a b ts : Log) → l ≡ both a b → Within on l ts → Within on a ts
within_left on l a b ts e h =
    let g : Within on (both a b) ts = subst (λ (m : Log). Within on m ts) e h in
    record { touches = λ k p i. g.touches k p (inl i); differentiated = λ p i. g.differentiated p (inl i) }

pub within_right : (on : List ℕ → Bool) (l a b ts : Log) → l ≡ both a b → Within on l ts → Within on b ts
within_right on l a b ts e h =
    let g : Within on (both a b) ts = subst (λ (m : Log). Within on m ts) e h in
    record { touches = λ k p i. g.touches k p (inr i); differentiated = λ p i. g.differentiated p (inr i) }

pub within_instance : (on : List ℕ → Bool) (l ts : Log) → Within on (within instance l) ts → Within on l ts
within_instance on l ts h = record { touches = h.touches; differentiated = h.differentiated }

pub within_same : (on : List ℕ → Bool) (l m ts : Log) → l ≡ m → Within on l ts → Within on m ts
within_same on l m ts e h = subst (λ (x : Log). Within on x ts) e h

-- ---- assignments

pub assigned_undone : (w : World) (u : Use) (ts : Log) (atomic : Bool) (p : Designator) (e : Expression) (o : Option (List Signed)) → SoundAssigned w u p e o → (s : Cells) (t : Tape) → Fit w u s → Within w.active (assignment_by w.site s atomic p e o).log ts
    → (s2 : Cells) → (assignment_by w.site s atomic p e o).out ≡ Ok s2 → Undoes w u ts (λ l. assignment_back w atomic p e o l) t (tape_after (assignment_by w.site s atomic p e o).log t) s s2
assigned_undone w u ts atomic p e None sound s t fit ins s2 h = plain_undone w u ts p e sound.0 s t fit ins s2 h
assigned_undone w u ts atomic p e (Some rs) sound s t fit ins s2 h = increment_undone w u ts atomic p rs sound.0 s t fit ins s2 h

-- ---- words

turns_by_wordless : (a b c : ℤ) → Wordless (turns_by a b c).log
turns_by_wordless a b c t = by_test (int_eq c (pos 0))
  where
    made : IterationCount
    made = record { first = a; last = b; step = c; count = clipped (int_div ((b -ℤ a) +ℤ c) c) }

    by_test : (z : Bool) → tape_after (if z then lift (Err Rattle.meaning.specs.declared.value.Cause.TheVariants.ZeroDivisor) else pure made).log t ≡ t
    by_test true = refl
    by_test false = refl

step_wordless : (o : Option Expression) (site : Site) (s : Cells) → Wordless (step_value o site s).log
step_wordless None site s t = refl
step_wordless (Some e) site s t = wordless e site s t

pub turns_wordless : (first last : Expression) (step : Option Expression) (site : Site) (s : Cells) → Wordless (turns_of first last step site s).log
turns_wordless first last step site s t =
    wordless_bind (value_of first site s) (λ a. value_of last site s >>= (λ b. step_value step site s >>= (λ c. turns_by (whole_number a) (whole_number b) (whole_number c)))) (wordless first site s)
    (λ a. wordless_bind (value_of last site s) (λ b. step_value step site s >>= (λ c. turns_by (whole_number a) (whole_number b) (whole_number c))) (wordless last site s)
    (λ b. wordless_bind (step_value step site s) (λ c. turns_by (whole_number a) (whole_number b) (whole_number c)) (step_wordless step site s) (λ c. turns_by_wordless (whole_number a) (whole_number b) (whole_number c)))) t

-- the bounds that the three words stand for
pub turns_back_on : (t : IterationCount) (tape : Tape) → IsIndex t.first → IsIndex t.last → IsIndex t.step → t.count ≡ clipped (int_div ((t.last -ℤ t.first) +ℤ t.step) t.step)
    → turns_on (word (cast_unsigned w64 t.step) (word (cast_unsigned w64 t.last) (word (cast_unsigned w64 t.first) tape))) ≡ t
turns_back_on t tape a b c count = rw (read_back t.first a, read_back t.last b, read_back t.step c) (ap (λ (n : ℕ). counted n) (sym count))
  where
    counted : ℕ → IterationCount
    counted n = record { first = t.first; last = t.last; step = t.step; count = n }

-- the word of an arm's number
pub arm_word : (m : ℕ) → m < 2 ^ 64 → cast_unsigned w64 (pos m) ≡ m
arm_word m h = omega arith

-- what a turn tells
abbrev pub turn_told : (Site → Run) → Site → List ℕ → ℤ → Cells → Option ℕ → Traced TrapAt Cells
turn_told body site var z s o = after (set_log_at o (Some (Index z))) (body (site_in_turn site var) (set_at o (Some (Index z)) s))

-- ---- the arm that was taken

pub record ArmUndone (w : World) (u : Use) (ts : Log) (arms : Arms) (other : World → Local → Tree Local) (m : ℕ) (t t2 : Tape) (s s2 : Cells) : Type 0 where
  pub k : ℕ
  pub body : Tape
  pub tape : t2 ≡ word (m + k) body
  pub undone : Undoes w u ts (back_arms arms other k w) t body s s2

-- ---- loops

pub turns_undone : (w : World) (u : Use) (ts : Log) (test : List ℕ → Bool) (n : ℕ) (f : ℕ → Run) (g : ℕ → Local → Tree Local)
    → ((k : ℕ) → k < n → (s s2 : Cells) → Fit w u s → (f k s).out ≡ Ok s2 → Keeps w u test s s2)
    → ((k : ℕ) → k < n → (s s2 : Cells) (t : Tape) → Fit w u s → Within w.active (f k s).log ts → (f k s).out ≡ Ok s2 → Undoes w u ts (g k) t (tape_after (f k s).log t) s s2)
    → (s s2 : Cells) (t : Tape) → Fit w u s → Within w.active (turns n f s).log ts → (turns n f s).out ≡ Ok s2 → Undoes w u ts (turns_back n g) t (tape_after (turns n f s).log t) s s2
turns_undone w u ts test zero f g keep step s s2 t fit ins h = undone_none w u ts t s s2 (let e : s ≡ s2 = cc in e)
turns_undone w u ts test (suc n) f g keep step s s2 t fit ins h =
    let b = bound (turns n f s) (f n) s2 h in
    let one = turns_kept w u test n f (λ k i. keep k (omega arith)) s b.value fit b.first in
    let first = turns_undone w u ts test n f g (λ k i. keep k (omega arith)) (λ k i. step k (omega arith)) s b.value t fit (within_left w.active _ _ _ ts b.log ins) b.first in
    let second = step n (omega arith) b.value s2 (tape_after (turns n f s).log t) one.fit (within_right w.active _ _ _ ts b.log ins) b.second in
    undone_tape w u ts (turns_back (suc n) g) t _ _ s s2 (ap (λ (l : Log). tape_after l t) (sym b.log)) (undone_both w u ts (turns_back n g) (g n) t (tape_after (turns n f s).log t) _ s b.value s2 first second)

-- the variable's word, set again in a turn
variable_like : (w : World) (u : Use) (var : List ℕ) (first last : Expression) (step : Option Expression) (v : SoundVariable w u var first last step) (x : ℕ) (vs : List ℕ) (s2 : Cells) → v.q < length vs → ((y : Value) → content s2 v.q ≡ Some y → word_of (Some y) ≡ x)
    → Like u w.site.keys vs s2 → Like (scope_with var x u) w.site.keys (slice_set vs v.q x) s2
variable_like w u var first last step v x vs s2 there held l = record {
  read = λ p y h n. by_place p y h n (p == v.q) refl;
  held = λ p m g. held_in_turn var x u (name_at w.site.keys p) m g
      (λ e i. ap (λ (j : ℕ). slice_index (slice_set vs v.q x) j) (v.only p e) ∙ (get_or-set_same vs v.q x 0 there ∙ i))
      (λ e i. get_or-set_other vs v.q p x 0 (λ k. (let f : true ≡ false = sym ((bytes_eq-Decides (name_at w.site.keys p) var).1 (ap (name_at w.site.keys) k ∙ st.named)) ∙ e in cc)) ∙ l.held p m i);
}
  where
    st : Stands w.site.keys var v.q
    st = stands w.site.keys var [] v.q v.place

    by_place : (p : ℕ) (y : Value) → content s2 p ≡ Some y → (scope_with var x u).needed (name_at w.site.keys p) ≡ true → (b : Bool) → (p == v.q) ≡ b → slice_index (slice_set vs v.q x) p ≡ word_of (Some y)
    by_place p y h n true e =
        let f : p ≡ v.q = eqb-true p v.q e in
        ap (λ (m : ℕ). slice_index (slice_set vs v.q x) m) f ∙ (get_or-set_same vs v.q x 0 there ∙ sym (held y (ap (content s2) (sym f) ∙ h)))
    by_place p y h n false e =
        let f : p ≢ v.q = λ g. (let k : true ≡ false = sym (eq-eqb p v.q g) ∙ e in cc) in
        get_or-set_other vs v.q p x 0 f ∙ l.read p y h (needed_by (u.needed (name_at w.site.keys p)) (bytes_eq (name_at w.site.keys p) var) refl n f)
      where
        needed_by : (a b : Bool) → bytes_eq (name_at w.site.keys p) var ≡ b → (a || b) ≡ true → p ≢ v.q → a ≡ true
        needed_by true b g i f = refl
        needed_by false true g i f = absurd (f (v.only p ((bytes_eq-Decides (name_at w.site.keys p) var).0 g)))
        needed_by false false g i f = cc

-- out of scope again
like_outside : (w : World) (u : Use) (var : List ℕ) (first last : Expression) (step : Option Expression) (v : SoundVariable w u var first last step) (x : ℕ) (c : Option Value) (vs : List ℕ) (s : Cells) → Like (scope_with var x u) w.site.keys vs (slice_set s v.q c) → Like u w.site.keys vs s
like_outside w u var first last step v x c vs s l =
    let st = stands w.site.keys var [] v.q v.place in
    record {
      read = λ p y h n. l.read p y (content_set_other s v.q p c (λ e. (let k : true ≡ false = sym n ∙ (ap u.needed (ap (name_at w.site.keys) e ∙ st.named) ∙ v.unneeded) in cc)) ∙ h) (rw n refl);
      held = λ p m g. l.held p m (held_there var x u (name_at w.site.keys p) m v.unheld g);
    }

pub turn_undone : (w : World) (u : Use) (ts : Log) (var : List ℕ) (first last : Expression) (step : Option Expression) (v : SoundVariable w u var first last step) (b : IterationCount) (k : ℕ) (body : World → Local → Tree Local) (t t2 : Tape) (s s2 : Cells)
    → length s ≡ length w.site.keys → (let z : ℤ = value_at b k in
    ((y : Value) → content s2 v.q ≡ Some y → word_of (Some y) ≡ cast_unsigned w64 z) × Undoes (in_turn w var) (scope_with var (cast_unsigned w64 z) u) ts (body (in_turn w var)) t t2 (slice_set s v.q (Some (Index z))) s2)
    → Undoes w u ts (one_turn_back w var b body k) t t2 s s2
turn_undone w u ts var first last step v b k body t t2 s s2 size h vs bs l wide long small =
    let z : ℤ = value_at b k in
    let x : ℕ = cast_unsigned w64 z in
    let st = stands w.site.keys var [] v.q v.place in
    let vs1 : List ℕ = slice_set vs v.q x in
    let a = h.1 vs1 bs (variable_like w u var first last step v x vs s2 (let i = st.there in omega arith) h.0 l) (length-set vs v.q x ∙ wide) long small in
    let same-local : variable_set w var b k (local w.shared t2 vs bs) ≡ local w.shared t2 vs1 bs =
    own_value_set w (place_of w.site var []) v.q x t2 vs bs v.place v.own in
    let same-cells : flat w.shared vs bs ≡ flat w.shared vs1 bs = ap (λ (c : List ℕ). c ++ take w.shared bs) (cells_kept w.shared v.q x vs v.own) in
    rw (same-local, same-cells) (record {
      vs2 = a.vs2;
      bs2 = a.bs2;
      out = a.out;
      cells = a.cells;
      like = like_outside w u var first last step v x (Some (Index z)) a.vs2 s a.like;
      wide = a.wide;
      long = a.long;
      words = a.words;
      pairs = of_equal _ _ (ap (pair a.bs2) (sym (tangents_off w u s v.q (Some (Index z)) (ap u.live st.named ∙ v.dead)))) ∙ a.pairs;
      cover = a.cover;
    })

pub within_taken : (on : List ℕ → Bool) (m : ℕ) (l ts : Log) → Within on (within (taken m) l) ts → Within on l ts
within_taken on m l ts h = record { touches = h.touches; differentiated = h.differentiated }

pub arm_moved : (w : World) (u : Use) (ts : Log) (arms : Arms) (other : World → Local → Tree Local) (m : ℕ) (t t1 t2 : Tape) (s s2 : Cells) → t1 ≡ t2 → ArmUndone w u ts arms other m t t1 s s2 → ArmUndone w u ts arms other m t t2 s s2
arm_moved w u ts arms other m t t1 t2 s s2 e h = record { k = h.k; body = h.body; tape = sym e ∙ h.tape; undone = h.undone }

-- the arm at hand, or a later one
pub arm_chosen : (w : World) (u : Use) (ts : Log) (test : Condition) (body : Statements) (arms : Arms) (line m : ℕ) (other : Site → Run) (otherback : World → Local → Tree Local) (t : Tape) (s s2 : Cells) (p : Bool) {C D : Type 0}
    → (choice p (in_arm m (run_all body w.site)) (run_arms arms line (m + 1) other w.site) s).out ≡ Ok s2 → Within w.active (choice p (in_arm m (run_all body w.site)) (run_arms arms line (m + 1) other w.site) s).log ts → cond p C D
    → (C → Within w.active (in_arm m (run_all body w.site) s).log ts → (in_arm m (run_all body w.site) s).out ≡ Ok s2 → ArmUndone w u ts (arm test body arms) otherback m t (tape_after (in_arm m (run_all body w.site) s).log t) s s2)
    → (D → Within w.active (run_arms arms line (m + 1) other w.site s).log ts → (run_arms arms line (m + 1) other w.site s).out ≡ Ok s2 → ArmUndone w u ts arms otherback (m + 1) t (tape_after (run_arms arms line (m + 1) other w.site s).log t) s s2)
    → ArmUndone w u ts (arm test body arms) otherback m t (tape_after (choice p (in_arm m (run_all body w.site)) (run_arms arms line (m + 1) other w.site) s).log t) s s2
arm_chosen w u ts test body arms line m other otherback t s s2 true h ins q f g = f q ins h
arm_chosen w u ts test body arms line m other otherback t s s2 false h ins q f g =
    let a = g q ins h in
    record { k = suc a.k; body = a.body; tape = a.tape ∙ ap (λ (i : ℕ). word i a.body) (omega arith); undone = a.undone }

pub words_undone : (w : World) (u : Use) (ts : Log) (var : List ℕ) (body : Statements) (tr : IterationCount) (tape t : Tape) (s s2 : Cells) → IsIndex tr.first → IsIndex tr.last → IsIndex tr.step → tr.count ≡ clipped (int_div ((tr.last -ℤ tr.first) +ℤ tr.step) tr.step)
    → Undoes w u ts (turns_back tr.count (one_turn_back w var tr (back_all body))) t tape s s2
    → Undoes w u ts (loop_back w var (back_all body)) t (word (cast_unsigned w64 tr.step) (word (cast_unsigned w64 tr.last) (word (cast_unsigned w64 tr.first) tape))) s s2
words_undone w u ts var body tr tape t s s2 a b c d h vs bs l wide long small =
    subst (λ (x : IterationCount). Ends w u ts (play (turns_back x.count (one_turn_back w var x (back_all body)) (local w.shared tape vs bs)) (flat w.shared vs bs)) t s s2 bs) (sym (turns_back_on tr tape a b c d)) (h vs bs l wide long small)

-- What runs of statements keep.
use Rattle.std.proofs.Common.{◌≡◌, ℕ, zero, suc, ◌<◌, List, [], refl, subst, arith, Bool, true, false, ◌||◌, Option, Some, None, Result, Ok, Err, ℤ, pos, ap, sym, ◌∙◌, length}
use Rattle.std.specs.Prelude.{slice_set, bytes_eq, if◌then◌else◌, ◌+ℤ◌, cond}
use Rattle.ring_core.specs.Index.{IsIndex}
use Rattle.fl_ast.specs.Tree.{Expression}
use Rattle.meaning.specs.declared.value.Value.{Value}
use Rattle.meaning.specs.declared.value.Value.TheVariants.{Index, Ring}
use Rattle.meaning.specs.declared.value.Cause.{Cause}
use Rattle.meaning.specs.declared.value.IterationCount.{IterationCount}
use Rattle.meaning.specs.Values.{whole_number}
use Rattle.meaning.specs.Logs.{Log, Traced, pure, lift, at_line, at_line_by, ◌>>=◌}
use Rattle.meaning.specs.Sites.{Cells, Site, kind_of, word_of}
use Rattle.meaning.specs.Expressions.{value_of, content}
use Rattle.meaning.specs.Statements.{Run, with_log, turns_by, step_value, turns_of, value_at, set_at, turns, one_turn}
use Rattle.meaning.proofs.Parts.{bound}
use Rattle.transposition.specs.Worlds.{World, in_turn, name_at}
use Rattle.transposition.specs.Law.{Use, Fit}
use Rattle.meaning.specs.Fitting.{HasKind}
use Rattle.transposition.specs.Sound.{OptionLiterals, Literals, SoundVariable, scope_with}
use Rattle.transposition.proofs.Keys.{stands}
use Rattle.transposition.proofs.Sizes.{Sized, value_sized}
use Rattle.std.specs.Ordering.{int_eq}
use Rattle.std.specs.Prelude.{int_div, ◌-ℤ◌}
use Rattle.store_core.specs.Bounds.{clipped}
use Rattle.meaning.proofs.Variables.{variables_fit}
use Rattle.meaning.specs.Sites.{in_turn as site_in_turn}
use Rattle.transposition.proofs.Kept.{Keeps, keeps_itself, keeps_both, keeps_wider, keeps_set}
use Rattle.std.specs.Int.{w64, cast_unsigned}
use Rattle.std.proofs.lemmas.Slice.Eq.{bytes_eq-Decides}
use Rattle.transposition.proofs.Places.{content_set_same}

-- ---- parts of runs

pub record Lined {A : Type 0} (line : ℕ) (t : Traced Cause A) (a : A) : Type 0 where
  pub out : t.out ≡ Ok a
  pub log : (at_line line t).log ≡ t.log

lined_by : {A : Type 0} (line : ℕ) (l : Log) (o : Result A Cause) (a : A) → (at_line_by line l o).out ≡ Ok a → Lined line (record { log = l; out = o }) a
lined_by line l (Ok b) a h = let e : b ≡ a = cc in record { out = rw e refl; log = refl }
lined_by line l (Err x) a h = cc

pub lined : {A : Type 0} (line : ℕ) (t : Traced Cause A) (a : A) → (at_line line t).out ≡ Ok a → Lined line t a
lined line t a h = lined_by line t.log t.out a h

-- the turns of a loop
pub record TurnsRun (site : Site) (s : Cells) (first last : Expression) (step : Option Expression) (t : IterationCount) : Type 0 where
  pub low : IsIndex t.first
  pub high : IsIndex t.last
  pub by : IsIndex t.step
  pub count : t.count ≡ clipped (int_div ((t.last -ℤ t.first) +ℤ t.step) t.step)

whole_sized : (v : Value) → Sized v → IsIndex (whole_number v)
whole_sized (Index z) h = h
whole_sized (Ring d) h = refl

step_sized : (w : World) (u : Use) (s : Cells) → Fit w u s → (o : Option Expression) → OptionLiterals o → (v : Value) → (step_value o w.site s).out ≡ Ok v → Sized v
step_sized w u s fit None q v h = let e : Index (pos 1) ≡ v = cc in subst Sized e refl
step_sized w u s fit (Some e) q v h = value_sized w u s fit e q v h

turns_made : (site : Site) (s : Cells) (first last : Expression) (step : Option Expression) (a b c : ℤ) (t : IterationCount) → IsIndex a → IsIndex b → IsIndex c → (turns_by a b c).out ≡ Ok t → TurnsRun site s first last step t
turns_made site s first last step a b c t ia ib ic h = by_test (int_eq c (pos 0)) h
  where
    made : IterationCount
    made = record { first = a; last = b; step = c; count = clipped (int_div ((b -ℤ a) +ℤ c) c) }

    by_test : (z : Bool) → (if z then lift (Err Rattle.meaning.specs.declared.value.Cause.TheVariants.ZeroDivisor) else pure made).out ≡ Ok t → TurnsRun site s first last step t
    by_test true g = cc
    by_test false g = let e : made ≡ t = cc in subst (λ (x : IterationCount). TurnsRun site s first last step x) e (record { low = ia; high = ib; by = ic; count = refl })

pub turns_run : (w : World) (u : Use) (s : Cells) → Fit w u s → (first last : Expression) (step : Option Expression) → Literals first × Literals last × OptionLiterals step → (t : IterationCount) → (turns_of first last step w.site s).out ≡ Ok t → TurnsRun w.site s first last step t
turns_run w u s fit first last step q t h =
    let f = bound (value_of first w.site s) (λ a. value_of last w.site s >>= (λ b. step_value step w.site s >>= (λ c. turns_by (whole_number a) (whole_number b) (whole_number c)))) t h in
    let g = bound (value_of last w.site s) (λ b. step_value step w.site s >>= (λ c. turns_by (whole_number f.value) (whole_number b) (whole_number c))) t f.second in
    let i = bound (step_value step w.site s) (λ c. turns_by (whole_number f.value) (whole_number g.value) (whole_number c)) t g.second in
    turns_made w.site s first last step (whole_number f.value) (whole_number g.value) (whole_number i.value) t (whole_sized f.value (value_sized w u s fit first q.0 f.value f.first)) (whole_sized g.value (value_sized w u s fit last q.1 g.value g.first)) (whole_sized i.value (step_sized w u s fit step q.2 i.value i.first)) i.second

-- ---- a turn

-- a name that is held in a turn: the variable, or held outside
pub held_in_turn : {P : Type 0} (var : List ℕ) (n : ℕ) (u : Use) (x : List ℕ) (m : ℕ) → (scope_with var n u).held x ≡ Some m → (x ≡ var → n ≡ m → P) → (bytes_eq x var ≡ false → u.held x ≡ Some m → P) → P
held_in_turn {P} var n u x m h f g = by_name (bytes_eq x var) refl h
  where
    by_name : (b : Bool) → bytes_eq x var ≡ b → cond b (Some n) (u.held x) ≡ Some m → P
    by_name true e k = let i : n ≡ m = cc in f ((bytes_eq-Decides x var).0 e) i
    by_name false e k = g e k

pub held_here : (var : List ℕ) (n : ℕ) (u : Use) (x : List ℕ) → x ≡ var → (scope_with var n u).held x ≡ Some n
held_here var n u x e = ap (λ (b : Bool). cond b (Some n) (u.held x)) ((bytes_eq-Decides x var).1 e)

pub held_there : (var : List ℕ) (n : ℕ) (u : Use) (x : List ℕ) (m : ℕ) → u.held var ≡ None → u.held x ≡ Some m → (scope_with var n u).held x ≡ Some m
held_there var n u x m unheld h = by_name (bytes_eq x var) refl
  where
    by_name : (b : Bool) → bytes_eq x var ≡ b → cond b (Some n) (u.held x) ≡ Some m
    by_name true e = let k : None ≡ Some m = sym unheld ∙ (ap u.held (sym ((bytes_eq-Decides x var).0 e)) ∙ h) in cc
    by_name false e = h

pub fit_turn : (w : World) (u : Use) (var : List ℕ) (first last : Expression) (step : Option Expression) (v : SoundVariable w u var first last step) (z : ℤ) (s : Cells) → length s ≡ length w.site.keys → Fit w u (slice_set s v.q (Some (Index z)))
    → Fit (in_turn w var) (scope_with var (cast_unsigned w64 z) u) (slice_set s v.q (Some (Index z)))
fit_turn w u var first last step v z s size h = record {
  long = h.long;
  room = h.room;
  kinds = h.kinds;
  still = h.still;
  held = λ p m y e g. held_in_turn var (cast_unsigned w64 z) u (name_at w.site.keys p) m g (λ f i. here p y e f ∙ i) (λ f i. h.held p m y e i);
}
  where
    here : (p : ℕ) (y : Value) → content (slice_set s v.q (Some (Index z))) p ≡ Some y → name_at w.site.keys p ≡ var → word_of (Some y) ≡ cast_unsigned w64 z
    here p y e f =
        let st = stands w.site.keys var [] v.q v.place in
        let same : Some y ≡ Some (Index z) = sym e ∙ (ap (content (slice_set s v.q (Some (Index z)))) (v.only p f) ∙ content_set_same s v.q (Some (Index z)) (let i = st.there in omega arith)) in
        ap word_of same

pub fit_outside : (w : World) (u : Use) (var : List ℕ) (n : ℕ) (s : Cells) → u.held var ≡ None → Fit (in_turn w var) (scope_with var n u) s → Fit w u s
fit_outside w u var n s unheld h =
    record { long = h.long; room = h.room; kinds = h.kinds; still = h.still; held = λ p m y e g. h.held p m y e (held_there var n u (name_at w.site.keys p) m unheld g) }

index_kind : (site : Site) (x : List ℕ) (z : ℤ) → site.ring x ≡ false → IsIndex z → HasKind (kind_of site x) (Index z)
index_kind site x z h i = rw h i

pub variable_kept : (w : World) (u : Use) (var : List ℕ) (first last : Expression) (step : Option Expression) (s : Cells) (z : ℤ) → (k : SoundVariable w u var first last step) → Fit w u s → IsIndex z → Keeps w u (λ y. bytes_eq y var) s (slice_set s k.q (Some (Index z)))
variable_kept w u var first last step s z k fit i =
    let st = stands w.site.keys var [] k.q k.place in
    keeps_set w u s var k.q (Index z) fit st.named st.there (index_kind w.site var z k.whole i) (λ e. refl) k.unheld

pub turn_index : (w : World) (s : Cells) (first last : Expression) (step : Option Expression) (t : IterationCount) (k : ℕ) → TurnsRun w.site s first last step t → k < t.count → IsIndex (value_at t k)
turn_index w s first last step t k h i = variables_fit t.first t.last t.step k h.low h.high (subst (λ (n : ℕ). k < n) h.count i)

-- what a turn runs
pub turn_out : (w : World) (u : Use) (var : List ℕ) (first last : Expression) (step : Option Expression) (t : IterationCount) (body : Site → Run) (k : ℕ) (s : Cells) → (v : SoundVariable w u var first last step) → (s2 : Cells) → (one_turn w.site var t body k s).out ≡ Ok s2
    → (body (site_in_turn w.site var) (slice_set s v.q (Some (Index (value_at t k))))).out ≡ Ok s2
turn_out w u var first last step t body k s v s2 h =
    subst (λ (o : Option ℕ). (body (site_in_turn w.site var) (set_at o (Some (Index (value_at t k))) s)).out ≡ Ok s2) v.place h

-- ---- statements

pub noted_out : (l : Log) (s s2 : Cells) → (with_log l s).out ≡ Ok s2 → s ≡ s2
noted_out l s s2 h = cc

pub or_first : (a b : Bool) → (a || b) ≡ false → a ≡ false
or_first true b h = cc
or_first false b h = refl

pub or_second : (a b : Bool) → (a || b) ≡ false → b ≡ false
or_second true b h = cc
or_second false b h = h

pub turns_kept : (w : World) (u : Use) (test : List ℕ → Bool) (n : ℕ) (f : ℕ → Run) → ((k : ℕ) → k < n → (s s2 : Cells) → Fit w u s → (f k s).out ≡ Ok s2 → Keeps w u test s s2)
    → (s s2 : Cells) → Fit w u s → (turns n f s).out ≡ Ok s2 → Keeps w u test s s2
turns_kept w u test zero f step s s2 fit h = let e : s ≡ s2 = cc in subst (λ (x : Cells). Keeps w u test s x) e (keeps_itself w u test s fit)
turns_kept w u test (suc n) f step s s2 fit h =
    let b = bound (turns n f s) (f n) s2 h in
    let one = turns_kept w u test n f (λ k i. step k (omega arith)) s b.value fit b.first in
    let more = step n (omega arith) b.value s2 one.fit b.second in
    keeps_wider w u (λ x. test x || test x) test s s2 (λ x e. rw e refl) (keeps_both w u test test s b.value s2 one more)

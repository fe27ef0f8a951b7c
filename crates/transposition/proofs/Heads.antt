-- The heads of a parallel loop: their bounds on the tape, and their variables in an iteration.
use Rattle.std.proofs.Common.{◌≡◌, ◌≢◌, ℕ, zero, suc, ◌*◌, ◌<◌, List, [], ◌∷◌, refl, ap, sym, ◌∙◌, subst, arith, length, take, Bool, true, false, ◌||◌, Option, Some, None, Ok, ℤ, inr}
use Rattle.std.specs.Prelude.{◌/◌, ◌%◌, slice_index, slice_set, bytes_eq, int_div, ◌+ℤ◌, ◌-ℤ◌}
use Rattle.std.specs.Int.{w64, cast_unsigned}
use Rattle.std.proofs.Math.Nat.{div-lt_iff_lt-mul, mod-lt}
use Rattle.std.proofs.lemmas.Slice.Eq.{bytes_eq-Decides}
use Rattle.std.proofs.lemmas.List.{length-set, get_or-set_same, get_or-set_other}
use Rattle.ring_core.specs.Index.{IsIndex}
use Rattle.store_core.specs.Bounds.{clipped}
use Rattle.fl_ast.specs.Tree.{Expression}
use Rattle.fl_types.specs.Nests.{Head}
use Rattle.fl_types.specs.Sharing.{has_name}
use Rattle.meaning.specs.declared.value.Value.{Value}
use Rattle.meaning.specs.declared.value.Value.TheVariants.{Index}
use Rattle.meaning.specs.declared.value.TrapAt.{TrapAt}
use Rattle.meaning.specs.declared.value.IterationCount.{IterationCount}
use Rattle.meaning.specs.Logs.{Log, Traced, pure, at_line, ◌>>=◌}
use Rattle.meaning.specs.Sites.{Cells, Site, place_of, kind_of}
use Rattle.meaning.specs.Expressions.{content}
use Rattle.meaning.specs.Statements.{Run, turns_of, value_at, set_at, set_log_at, with_variable, with_variables, Heads, iterations, words_of_all, further_turns, heads_of}
use Rattle.meaning.proofs.Variables.{variables_fit}
use Rattle.meaning.proofs.Parts.{bound}
use Rattle.transposition.specs.Tapes.{Tape, word, tape_after}
use Rattle.transposition.specs.Worlds.{World, Local, name_at, with_own_value}
use Rattle.transposition.specs.Back.{turns_on, below_bounds, heads_on, variables_of, with_variable_words}
use Rattle.transposition.specs.Law.{Use, local, Fit, Within}
use Rattle.meaning.specs.Fitting.{HasKind}
use Rattle.transposition.specs.Sound.{AllOwn, Literals, OptionLiterals, HeadLiterals}
use Rattle.transposition.proofs.Split.{own_value_set, cells_kept}
use Rattle.transposition.proofs.Keys.{stands}
use Rattle.transposition.proofs.Places.{content_set_same, content_set_other}
use Rattle.transposition.proofs.Kept.{fit_set}
use Rattle.transposition.proofs.Runs.{lined, TurnsRun, turns_run}
use Rattle.transposition.proofs.Taping.{Wordless}
use Rattle.transposition.proofs.Undone.{turns_back_on, turns_wordless}

-- ---- bounds

pub record Counted (t : IterationCount) : Type 0 where
  pub low : IsIndex t.first
  pub high : IsIndex t.last
  pub by : IsIndex t.step
  pub count : t.count ≡ clipped (int_div ((t.last -ℤ t.first) +ℤ t.step) t.step)

abbrev pub AllCounted : Heads → Type 0
AllCounted [] = Unit {0}
AllCounted (h ∷ hs) = Counted h.1 × AllCounted hs

abbrev pub head_names : Heads → List (List ℕ)
head_names [] = []
head_names (h ∷ hs) = h.0 ∷ head_names hs

pub below_is : (hs : Heads) (t : Tape) → below_bounds (head_names hs) (tape_after (words_of_all hs) t) ≡ t
below_is [] t = refl
below_is (h ∷ hs) t = ap (λ (x : Tape). below_bounds_one x) (below_is hs (word (cast_unsigned w64 h.1.step) (word (cast_unsigned w64 h.1.last) (word (cast_unsigned w64 h.1.first) t))))
  where
    below_bounds_one : Tape → Tape
    below_bounds_one x = below_bounds (h.0 ∷ []) x

pub heads_is : (hs : Heads) (t : Tape) → AllCounted hs → heads_on (head_names hs) (tape_after (words_of_all hs) t) ≡ hs
heads_is [] t c = refl
heads_is (h ∷ hs) t c =
    let t1 : Tape = word (cast_unsigned w64 h.1.step) (word (cast_unsigned w64 h.1.last) (word (cast_unsigned w64 h.1.first) t)) in
    ap (λ (x : Tape). (h.0, turns_on x) ∷ heads_on (head_names hs) (tape_after (words_of_all hs) t1)) (below_is hs t1)
    ∙ (ap (λ (x : IterationCount). (h.0, x) ∷ heads_on (head_names hs) (tape_after (words_of_all hs) t1)) (turns_back_on h.1 t c.0.low c.0.high c.0.by c.0.count)
    ∙ ap (λ (x : Heads). h ∷ x) (heads_is hs t1 c.1))

pub record HeadsRun (site : Site) (s : Cells) (var : List ℕ) (more : Option Head) (l : Log) (heads : Heads) : Type 0 where
  pub names : head_names heads ≡ var ∷ variables_of more
  pub counted : AllCounted heads
  pub quiet : Wordless l

counted_of : (site : Site) (s : Cells) (first last : Expression) (step : Option Expression) (t : IterationCount) → TurnsRun site s first last step t → Counted t
counted_of site s first last step t h = record { low = h.low; high = h.high; by = h.by; count = h.count }

quiet_line : (site : Site) (s : Cells) (line : ℕ) (first last : Expression) (step : Option Expression) (t : IterationCount) → (at_line line (turns_of first last step site s)).out ≡ Ok t → Wordless (at_line line (turns_of first last step site s)).log
quiet_line site s line first last step t h x = ap (λ (l : Log). tape_after l x) (lined line (turns_of first last step site s) t h).log ∙ turns_wordless first last step site s x

record FurtherRun (site : Site) (s : Cells) (more : Option Head) (l : Log) (heads : Heads) : Type 0 where
  pub names : head_names heads ≡ variables_of more
  pub counted : AllCounted heads
  pub quiet : Wordless l

further_run : (w : World) (u : Use) (s : Cells) → Fit w u s → (more : Option Head) → HeadLiterals more → (heads : Heads) → (further_turns more w.site s).out ≡ Ok heads → FurtherRun w.site s more (further_turns more w.site s).log heads
further_run w u s fit None q heads h = let e : [] ≡ heads = cc in subst (λ (x : Heads). FurtherRun w.site s None (further_turns None w.site s).log x) e (record { names = refl; counted = tt; quiet = λ t. refl })
further_run w u s fit (Some d) q heads h =
    let b = bound (at_line d.line (turns_of d.first d.last d.step w.site s)) (λ t. pure ((d.var, t) ∷ [])) heads h in
    let l = lined d.line (turns_of d.first d.last d.step w.site s) b.value b.first in
    let t = turns_run w u s fit d.first d.last d.step q b.value l.out in
    let e : (d.var, b.value) ∷ [] ≡ heads = let g = b.second in cc in
    subst (λ (x : Heads). FurtherRun w.site s (Some d) (further_turns (Some d) w.site s).log x) e
    (record { names = refl; counted = (counted_of w.site s d.first d.last d.step b.value t, tt); quiet = λ x. ap (λ (l : Log). tape_after l x) b.log ∙ quiet_line w.site s d.line d.first d.last d.step b.value b.first x })

pub heads_run : (w : World) (u : Use) (s : Cells) → Fit w u s → (d : Head) (more : Option Head) → (Literals d.first × Literals d.last × OptionLiterals d.step) → HeadLiterals more → (heads : Heads) → (heads_of d more w.site s).out ≡ Ok heads → HeadsRun w.site s d.var more (heads_of d more w.site s).log heads
heads_run w u s fit d more q r heads h =
    let b = bound (at_line d.line (turns_of d.first d.last d.step w.site s)) (λ t. further_turns more w.site s >>= (λ hs. pure ((d.var, t) ∷ hs))) heads h in
    let l = lined d.line (turns_of d.first d.last d.step w.site s) b.value b.first in
    let t = turns_run w u s fit d.first d.last d.step q b.value l.out in
    let c = bound (further_turns more w.site s) (λ hs. pure ((d.var, b.value) ∷ hs)) heads b.second in
    let f = further_run w u s fit more r c.value c.first in
    let e : (d.var, b.value) ∷ c.value ≡ heads = let g = c.second in cc in
    subst (λ (x : Heads). HeadsRun w.site s d.var more (heads_of d more w.site s).log x) e
    (record {
      names = ap (λ (l : List (List ℕ)). d.var ∷ l) f.names;
      counted = (counted_of w.site s d.first d.last d.step b.value t, f.counted);
      quiet = λ x. ap (λ (l : Log). tape_after l x) b.log ∙ (ap (tape_after (further_turns more w.site s >>= (λ hs. pure ((d.var, b.value) ∷ hs))).log) (quiet_line w.site s d.line d.first d.last d.step b.value b.first x) ∙ (ap (λ (l : Log). tape_after l x) c.log ∙ f.quiet x));
    })

-- ---- the variables' values in an iteration

abbrev pub Settings : Type 0
Settings = List (List ℕ × ℤ)

abbrev pub settings : Heads → ℕ → Settings
settings [] k = []
settings (h ∷ []) k = (h.0, value_at h.1 k) ∷ []
settings (h ∷ g ∷ hs) k = (h.0, value_at h.1 (k / iterations (g ∷ hs))) ∷ settings (g ∷ hs) (k % iterations (g ∷ hs))

abbrev pub set_names : Settings → List (List ℕ)
set_names [] = []
set_names (x ∷ xs) = x.0 ∷ set_names xs

abbrev pub AllIndex : Settings → Type 0
AllIndex [] = Unit {0}
AllIndex (x ∷ xs) = IsIndex x.1 × AllIndex xs

pub names_set : (hs : Heads) (k : ℕ) → set_names (settings hs k) ≡ head_names hs
names_set [] k = refl
names_set (h ∷ []) k = refl
names_set (h ∷ g ∷ hs) k = ap (λ (l : List (List ℕ)). h.0 ∷ l) (names_set (g ∷ hs) (k % iterations (g ∷ hs)))

counted_index : (t : IterationCount) (k : ℕ) → Counted t → k < t.count → IsIndex (value_at t k)
counted_index t k h i = variables_fit t.first t.last t.step k h.low h.high (subst (λ (n : ℕ). k < n) h.count i)

some_inner : (k a n : ℕ) → k < a * n → zero < n
some_inner k a zero h = absurd (omega arith)
some_inner k a (suc n) h = omega arith

pub all_index : (hs : Heads) (k : ℕ) → AllCounted hs → k < iterations hs → AllIndex (settings hs k)
all_index [] k c h = tt
all_index (d ∷ []) k c h = (counted_index d.1 k c.0 h, tt)
all_index (d ∷ g ∷ hs) k c h =
    let n : ℕ = iterations (g ∷ hs) in
    let p : zero < n = some_inner k d.1.count n h in
    (counted_index d.1 (k / n) c.0 ((div-lt_iff_lt-mul {k = n} {x = k} {y = d.1.count} p).1 h), all_index (g ∷ hs) (k % n) c.1 (mod-lt k p))

-- ---- cells and words with the variables set

abbrev pub set_cells : Site → Settings → Cells → Cells
set_cells site [] s = s
set_cells site (x ∷ xs) s = set_cells site xs (set_at (place_of site x.0 []) (Some (Index x.1)) s)

abbrev pub set_words : World → Settings → Local → Local
set_words w [] l = l
set_words w (x ∷ xs) l = set_words w xs (with_own_value w (place_of w.site x.0 []) (cast_unsigned w64 x.1) l)

pub words_set : (w : World) (hs : Heads) (k : ℕ) (l : Local) → with_variable_words w hs k l ≡ set_words w (settings hs k) l
words_set w [] k l = refl
words_set w (h ∷ []) k l = refl
words_set w (h ∷ g ∷ hs) k l = words_set w (g ∷ hs) (k % iterations (g ∷ hs)) _

-- what runs with the variables set
pub record SettingRun (site : Site) (on : List ℕ → Bool) (r a : Traced TrapAt Cells) : Type 0 where
  pub out : r.out ≡ a.out
  pub tape : (t : Tape) → tape_after r.log t ≡ tape_after a.log t
  pub within : Within on a.log r.log

set_wordless : (o : Option ℕ) (v : Option Value) → Wordless (set_log_at o v)
set_wordless None v t = refl
set_wordless (Some p) v t = refl

one_setting : (site : Site) (on : List ℕ → Bool) (x : List ℕ) (z : ℤ) (f : Run) (s : Cells) (a : Traced TrapAt Cells) → SettingRun site on (f (set_at (place_of site x []) (Some (Index z)) s)) a → SettingRun site on (with_variable site x z f s) a
one_setting site on x z f s a h = record {
  out = h.out;
  tape = λ t. ap (tape_after (f (set_at (place_of site x []) (Some (Index z)) s)).log) (set_wordless (place_of site x []) (Some (Index z)) t) ∙ h.tape t;
  within = record { touches = λ k p i. inr (h.within.touches k p i); differentiated = λ p i. inr (h.within.differentiated p i) };
}

itself : (site : Site) (on : List ℕ → Bool) (a : Traced TrapAt Cells) → SettingRun site on a a
itself site on a = record { out = refl; tape = λ t. refl; within = record { touches = λ k p i. i; differentiated = λ p i. i } }

pub setting_run : (site : Site) (on : List ℕ → Bool) (hs : Heads) (k : ℕ) (f : Run) (s : Cells) → SettingRun site on (with_variables site hs k f s) (f (set_cells site (settings hs k) s))
setting_run site on [] k f s = itself site on (f s)
setting_run site on (h ∷ []) k f s = one_setting site on h.0 (value_at h.1 k) f s _ (itself site on _)
setting_run site on (h ∷ g ∷ hs) k f s =
    one_setting site on h.0 (value_at h.1 (k / iterations (g ∷ hs))) (with_variables site (g ∷ hs) (k % iterations (g ∷ hs)) f) s _ (setting_run site on (g ∷ hs) (k % iterations (g ∷ hs)) f _)

-- ---- place by place

different : (x y : List ℕ) → bytes_eq x y ≡ false → x ≢ y
different x y h e = let k : true ≡ false = sym ((bytes_eq-Decides x y).1 e) ∙ h in cc

or_left : (a b : Bool) → (a || b) ≡ false → a ≡ false
or_left true b h = cc
or_left false b h = refl

or_right : (a b : Bool) → (a || b) ≡ false → b ≡ false
or_right true b h = cc
or_right false b h = h

or_true : (a b : Bool) → (a || b) ≡ true → b ≡ false → a ≡ true
or_true true b h k = refl
or_true false b h k = let e : true ≡ false = sym h ∙ k in cc

set_at_is : (site : Site) (x : List ℕ) (q : ℕ) (v : Option Value) (s : Cells) → place_of site x [] ≡ Some q → set_at (place_of site x []) v s ≡ slice_set s q v
set_at_is site x q v s h = ap (λ (o : Option ℕ). set_at o v s) h

-- a variable that was set: its content and its word
pub record IsSet (c : Option Value) (x : ℕ) : Type 0 where
  pub z : ℤ
  pub content : c ≡ Some (Index z)
  pub word : x ≡ cast_unsigned w64 z

pub record VariablesSet (w : World) (xs : Settings) (s : Cells) (t : Tape) (vs bs : List ℕ) : Type 0 where
  pub size : length (set_cells w.site xs s) ≡ length s
  pub same : (p : ℕ) → has_name (name_at w.site.keys p) (set_names xs) ≡ false → content (set_cells w.site xs s) p ≡ content s p
  pub vs1 : List ℕ
  pub out : set_words w xs (local w.shared t vs bs) ≡ local w.shared t vs1 bs
  pub cells : take w.shared vs1 ≡ take w.shared vs
  pub long : length vs1 ≡ length vs
  pub other : (p : ℕ) → has_name (name_at w.site.keys p) (set_names xs) ≡ false → slice_index vs1 p ≡ slice_index vs p
  pub here : (p : ℕ) → p < length vs → p < length s → has_name (name_at w.site.keys p) (set_names xs) ≡ true → IsSet (content (set_cells w.site xs s) p) (slice_index vs1 p)

pub variables_set : (w : World) (xs : Settings) (s : Cells) (t : Tape) (vs bs : List ℕ) → AllOwn w (set_names xs) → VariablesSet w xs s t vs bs
variables_set w [] s t vs bs h = record { size = refl; same = λ p e. refl; vs1 = vs; out = refl; cells = refl; long = refl; other = λ p e. refl; here = λ p i j e. cc }
variables_set w (x ∷ xs) s t vs bs h =
    let q = h.0.q in
    let st = stands w.site.keys x.0 [] q h.0.place in
    let n : ℕ = cast_unsigned w64 x.1 in
    let s1 : Cells = slice_set s q (Some (Index x.1)) in
    let k = variables_set w xs s1 t (slice_set vs q n) bs h.1 in
    let first-cells : set_cells w.site (x ∷ xs) s ≡ set_cells w.site xs s1 = ap (set_cells w.site xs) (set_at_is w.site x.0 q (Some (Index x.1)) s h.0.place) in
    let first : with_own_value w (place_of w.site x.0 []) n (local w.shared t vs bs) ≡ local w.shared t (slice_set vs q n) bs =
    own_value_set w (place_of w.site x.0 []) q n t vs bs h.0.place h.0.own in
    record {
      size = ap length first-cells ∙ (k.size ∙ length-set s q (Some (Index x.1)));
      same = λ p e. ap (λ (c : Cells). content c p) first-cells
          ∙ (k.same p (or_right (bytes_eq (name_at w.site.keys p) x.0) (has_name (name_at w.site.keys p) (set_names xs)) e)
          ∙ content_set_other s q p (Some (Index x.1)) (λ f. different (name_at w.site.keys p) x.0 (or_left (bytes_eq (name_at w.site.keys p) x.0) (has_name (name_at w.site.keys p) (set_names xs)) e) (ap (name_at w.site.keys) f ∙ st.named)));
      vs1 = k.vs1;
      out = ap (set_words w xs) first ∙ k.out;
      cells = k.cells ∙ sym (cells_kept w.shared q n vs h.0.own);
      long = k.long ∙ length-set vs q n;
      other = λ p e. k.other p (or_right (bytes_eq (name_at w.site.keys p) x.0) (has_name (name_at w.site.keys p) (set_names xs)) e)
          ∙ get_or-set_other vs q p n 0 (λ f. different (name_at w.site.keys p) x.0 (or_left (bytes_eq (name_at w.site.keys p) x.0) (has_name (name_at w.site.keys p) (set_names xs)) e) (ap (name_at w.site.keys) f ∙ st.named));
      here = λ p i j e. subst (λ (c : Cells). IsSet (content c p) (slice_index k.vs1 p)) (sym first-cells) (here_by p i j e (has_name (name_at w.site.keys p) (set_names xs)) refl k.vs1 k.same k.other k.here);
    }
  where
    s0 : Cells
    s0 = slice_set s h.0.q (Some (Index x.1))

    ws : List ℕ
    ws = slice_set vs h.0.q (cast_unsigned w64 x.1)

    here_by : (p : ℕ) → p < length vs → p < length s → has_name (name_at w.site.keys p) (set_names (x ∷ xs)) ≡ true → (b : Bool) → has_name (name_at w.site.keys p) (set_names xs) ≡ b → (us : List ℕ)
        → ((p : ℕ) → has_name (name_at w.site.keys p) (set_names xs) ≡ false → content (set_cells w.site xs s0) p ≡ content s0 p)
        → ((p : ℕ) → has_name (name_at w.site.keys p) (set_names xs) ≡ false → slice_index us p ≡ slice_index ws p)
        → ((p : ℕ) → p < length ws → p < length s0 → has_name (name_at w.site.keys p) (set_names xs) ≡ true → IsSet (content (set_cells w.site xs s0) p) (slice_index us p))
        → IsSet (content (set_cells w.site xs s0) p) (slice_index us p)
    here_by p i j e true f us same other here = here p (subst (λ (m : ℕ). p < m) (sym (length-set vs h.0.q (cast_unsigned w64 x.1))) i) (subst (λ (m : ℕ). p < m) (sym (length-set s h.0.q (Some (Index x.1)))) j) f
    here_by p i j e false f us same other here =
        let g : p ≡ h.0.q = h.0.only p ((bytes_eq-Decides (name_at w.site.keys p) x.0).0 (or_true (bytes_eq (name_at w.site.keys p) x.0) (has_name (name_at w.site.keys p) (set_names xs)) e f)) in
        record {
          z = x.1;
          content = same p f ∙ (ap (content s0) g ∙ content_set_same s h.0.q (Some (Index x.1)) (subst (λ (m : ℕ). m < length s) g j));
          word = other p f ∙ (ap (λ (m : ℕ). slice_index ws m) g ∙ get_or-set_same vs h.0.q (cast_unsigned w64 x.1) 0 (subst (λ (m : ℕ). m < length vs) g i));
        }

index_kind : (site : Site) (x : List ℕ) (z : ℤ) → site.ring x ≡ false → IsIndex z → HasKind (kind_of site x) (Index z)
index_kind site x z h i = rw h i

pub set_fit : (w : World) (u : Use) (xs : Settings) (s : Cells) → Fit w u s → AllOwn w (set_names xs) → ((x : List ℕ) → has_name x (set_names xs) ≡ true → w.site.ring x ≡ false) → ((x : List ℕ) → has_name x (set_names xs) ≡ true → u.held x ≡ None) → AllIndex xs → Fit w u (set_cells w.site xs s)
set_fit w u [] s fit own whole unheld h = fit
set_fit w u (x ∷ xs) s fit own whole unheld h =
    let q = own.0.q in
    let st = stands w.site.keys x.0 [] q own.0.place in
    let first-cells : set_cells w.site (x ∷ xs) s ≡ set_cells w.site xs (slice_set s q (Some (Index x.1))) = ap (set_cells w.site xs) (set_at_is w.site x.0 q (Some (Index x.1)) s own.0.place) in
    subst (λ (c : Cells). Fit w u c) (sym first-cells)
    (set_fit w u xs (slice_set s q (Some (Index x.1))) (fit_set w u s x.0 q (Index x.1) fit st.named st.there (index_kind w.site x.0 x.1 (whole x.0 (or_here (bytes_eq x.0 x.0) _ ((bytes_eq-Decides x.0 x.0).1 refl))) h.0) (λ e. refl) (unheld x.0 (or_here (bytes_eq x.0 x.0) _ ((bytes_eq-Decides x.0 x.0).1 refl)))) own.1 (λ y e. whole y (or_there (bytes_eq y x.0) _ e)) (λ y e. unheld y (or_there (bytes_eq y x.0) _ e)) h.1)
  where
    or_here : (a b : Bool) → a ≡ true → (a || b) ≡ true
    or_here a b e = rw e refl

    or_there : (a b : Bool) → b ≡ true → (a || b) ≡ true
    or_there true b e = refl
    or_there false b e = e

-- The parts of runs that went through.
use Rattle.std.specs.Prelude.{◌≡◌, ℕ, zero, suc, ◌+◌, ◌<◌, Bool, true, false, cond, if◌then◌else◌, nat_eq, List, ◌∷◌, Option, Some, None, Result, Ok, Err, refl, slice_set}
use Rattle.std.proofs.Common.{ap, sym, ◌∙◌, subst, arith}
use Rattle.std.proofs.lemmas.Bool.Decides.{nat_tests}
use Rattle.fl_ast.specs.declared.directive.Directive.{Directive}
use Rattle.fl_ast.specs.Tree.{Expression, Expressions, expression, Designator, Condition, loop, Statements, Arms, no_arms, arm}
use Rattle.fl_types.specs.declared.access.AccessKind.{AccessKind}
use Rattle.fl_types.specs.declared.access.AccessKind.TheVariants.{Read, Write}
use Rattle.fl_types.specs.Nests.{Head, is_nest, further_head}
use Rattle.fl_types.specs.Increment.{Signed}
use Rattle.meaning.specs.declared.value.Dual.{Dual}
use Rattle.meaning.specs.declared.value.Value.{Value}
use Rattle.meaning.specs.declared.value.Value.TheVariants.{Ring}
use Rattle.meaning.specs.declared.value.Cause.{Cause}
use Rattle.meaning.specs.declared.value.IterationCount.{IterationCount}
use Rattle.meaning.specs.Values.{as_dual, as_kind, whole_numbers}
use Rattle.meaning.specs.Logs.{Log, silence, single, both, within, ends, right_side, rounds, condition, Traced, pure, continuation, ◌>>=◌, inside, at_line, at_line_by}
use Rattle.meaning.specs.Sites.{Cells, Site, place_of, kind_of}
use Rattle.meaning.specs.Expressions.{after_touch, content, read_cell, read_place, value_of, values_of, holds}
use Rattle.meaning.specs.Statements.{Run, with_log, store_at, after_push, put, plain_assignment, terms_of, incremented_dual, increment_cell, increment_place, increment, turns_of, turns, loop_words, one_turn, Heads, iterations, words_of_all, heads_of, one_iteration, run_turns, run_parallel, choice, in_arm, run, run_all, run_inner, run_arms}
use Rattle.meaning.proofs.Gives.{touching_gives, saving_gives, gives_value}

-- ---- binds

pub record Bound {X A B : Type 0} (r : Traced X A) (f : A → Traced X B) (b : B) : Type 0 where
  pub value : A
  pub first : r.out ≡ Ok value
  pub second : (f value).out ≡ Ok b
  pub log : (r >>= f).log ≡ both r.log (f value).log

bound_by : {X A B : Type 0} (l : Log) (o : Result A X) (f : A → Traced X B) (b : B) → (continuation l o f).out ≡ Ok b → Bound (record { log = l; out = o }) f b
bound_by l (Ok a) f b h = record { value = a; first = refl; second = h; log = refl }
bound_by l (Err x) f b h = cc

pub bound : {X A B : Type 0} (r : Traced X A) (f : A → Traced X B) (b : B) → (r >>= f).out ≡ Ok b → Bound r f b
bound r f b h = bound_by r.log r.out f b h

pub record Lined {A : Type 0} (line : ℕ) (t : Traced Cause A) (a : A) : Type 0 where
  pub out : t.out ≡ Ok a
  pub log : (at_line line t).log ≡ t.log

lined_by : {A : Type 0} (line : ℕ) (l : Log) (o : Result A Cause) (a : A) → (at_line_by line l o).out ≡ Ok a → Lined line (record { log = l; out = o }) a
lined_by line l (Ok b) a h = let e : b ≡ a = cc in record { out = ap Ok e; log = refl }
lined_by line l (Err x) a h = cc

pub lined : {A : Type 0} (line : ℕ) (t : Traced Cause A) (a : A) → (at_line line t).out ≡ Ok a → Lined line t a
lined line t a h = lined_by line t.log t.out a h

-- a result is one
pub result_once : {A X : Type 0} (o : Result A X) (a b : A) → o ≡ Ok a → o ≡ Ok b → a ≡ b
result_once o a b e f = let i : Ok a ≡ Ok b = sym e ∙ f in cc

-- ---- expressions

-- a value that was read
pub record ReadAt (s : Site) (c : Cells) (x : List ℕ) (o : Option ℕ) (v : Value) : Type 0 where
  pub place : ℕ
  pub found : o ≡ Some place
  pub content : content c place ≡ Some v
  pub log : (read_place s c x o).log ≡ (after_touch s x place Read (pure {X = Cause} v)).log

pub read_at : (s : Site) (c : Cells) (x : List ℕ) (o : Option ℕ) (v : Value) → (read_place s c x o).out ≡ Ok v → ReadAt s c x o v
read_at s c x None v h = cc
read_at s c x (Some p) v h = by_content (content c p) refl h
  where
    by_content : (o : Option Value) → content c p ≡ o → (read_cell s x p o).out ≡ Ok v → ReadAt s c x (Some p) v
    by_content None e g = cc
    by_content (Some u) e g =
        let i : u ≡ v = touching_gives s x p Read (pure {X = Cause} u) (λ y. u ≡ y) (gives_value {X = Cause} u (λ y. u ≡ y) refl) v g in
        record {
          place = p;
          found = refl;
          content = e ∙ ap (λ (y : Value). Some y) i;
          log = ap (λ (y : Option Value). (read_cell s x p y).log) (e ∙ ap (λ (y : Value). Some y) i);
        }

-- the first of several values, and the others
pub record Listed (s : Site) (c : Cells) (e : Expression) (es : Expressions) (vs : List Value) : Type 0 where
  pub value : Value
  pub more : List Value
  pub whole : vs ≡ value ∷ more
  pub first : (value_of e s c).out ≡ Ok value
  pub second : (values_of es s c).out ≡ Ok more
  pub log : (values_of (expression e es) s c).log ≡ both (value_of e s c).log (both (values_of es s c).log silence)

pub listed : (s : Site) (c : Cells) (e : Expression) (es : Expressions) (vs : List Value) → (values_of (expression e es) s c).out ≡ Ok vs → Listed s c e es vs
listed s c e es vs h =
    let f = bound (value_of e s c) (λ v. values_of es s c >>= (λ us. pure (v ∷ us))) vs h in
    let g = bound (values_of es s c) (λ us. pure (f.value ∷ us)) vs f.second in
    let i : f.value ∷ g.value ≡ vs = let j = g.second in cc in
    record { value = f.value; more = g.value; whole = sym i; first = f.first; second = g.first; log = f.log ∙ ap (λ (l : Log). both (value_of e s c).log l) g.log }

-- ---- assignments

three_logs : {l a m b n d : Log} → l ≡ both a m → m ≡ both b n → n ≡ d → l ≡ both a (both b d)
three_logs {l} {a} {m} {b} e f g = e ∙ ap (both a) (f ∙ ap (both b) g)

-- what a plain assignment stored, and where
pub record PlainRun (s : Site) (c : Cells) (p : Designator) (e : Expression) (d : Cells) : Type 0 where
  pub value : Value
  pub evaluated : (value_of e s c).out ≡ Ok value
  pub subscripts : List Value
  pub evaluated_subscripts : (values_of p.subscripts s c).out ≡ Ok subscripts
  pub place : ℕ
  pub found : place_of s p.name (whole_numbers subscripts) ≡ Some place
  pub cells : d ≡ slice_set c place (Some (as_kind (kind_of s p.name) value))
  pub log : (plain_assignment s c p e).log
      ≡ both (within (right_side p.name) (value_of e s c).log)
      (both (values_of p.subscripts s c).log (after_touch s p.name place Write (after_push s p.name (content c place) (store_at c place (as_kind (kind_of s p.name) value)))).log)

record PutRun (s : Site) (c : Cells) (x : List ℕ) (v : Value) (o : Option ℕ) (d : Cells) : Type 0 where
  place : ℕ
  found : o ≡ Some place
  cells : d ≡ slice_set c place (Some (as_kind (kind_of s x) v))
  log : (put s c x v o).log ≡ (after_touch s x place Write (after_push s x (content c place) (store_at c place (as_kind (kind_of s x) v)))).log

put_run : (s : Site) (c : Cells) (x : List ℕ) (v : Value) (o : Option ℕ) (d : Cells) → (put s c x v o).out ≡ Ok d → PutRun s c x v o d
put_run s c x v None d h = cc
put_run s c x v (Some p) d h =
    let w : Value = as_kind (kind_of s x) v in
    let t : Traced Cause Cells = store_at c p w in
    let P : Cells → Type 0 = λ a. a ≡ slice_set c p (Some w) in
    record { place = p; found = refl; cells = touching_gives s x p Write (after_push s x (content c p) t) P (saving_gives s x (content c p) t P (gives_value {X = Cause} (slice_set c p (Some w)) P refl)) d h; log = refl }

plain_made : (s : Site) (c : Cells) (p : Designator) (e : Expression) (d : Cells) (v : Value) (vs : List Value) (m : Log) → (value_of e s c).out ≡ Ok v → (values_of p.subscripts s c).out ≡ Ok vs
    → (plain_assignment s c p e).log ≡ both (within (right_side p.name) (value_of e s c).log) m → m ≡ both (values_of p.subscripts s c).log (put s c p.name v (place_of s p.name (whole_numbers vs))).log
    → PutRun s c p.name v (place_of s p.name (whole_numbers vs)) d → PlainRun s c p e d
plain_made s c p e d v vs m f g l n i =
    record { value = v; evaluated = f; subscripts = vs; evaluated_subscripts = g; place = i.place; found = i.found; cells = i.cells; log = three_logs l n i.log }

pub plain_run : (s : Site) (c : Cells) (p : Designator) (e : Expression) (d : Cells) → (plain_assignment s c p e).out ≡ Ok d → PlainRun s c p e d
plain_run s c p e d h =
    let f = bound (inside (right_side p.name) (value_of e s c)) (λ v. values_of p.subscripts s c >>= (λ vs. put s c p.name v (place_of s p.name (whole_numbers vs)))) d h in
    let g = bound (values_of p.subscripts s c) (λ vs. put s c p.name f.value (place_of s p.name (whole_numbers vs))) d f.second in
    plain_made s c p e d f.value g.value _ f.first g.first f.log g.log (put_run s c p.name f.value (place_of s p.name (whole_numbers g.value)) d g.second)

-- the first of an increment's terms, and the others
pub record TermsRun (s : Site) (c : Cells) (r : Signed) (rs : List Signed) (ds : List (Bool × Dual)) : Type 0 where
  pub value : Value
  pub more : List (Bool × Dual)
  pub whole : ds ≡ (r.0, as_dual value) ∷ more
  pub first : (value_of r.1 s c).out ≡ Ok value
  pub second : (terms_of rs s c).out ≡ Ok more
  pub log : (terms_of (r ∷ rs) s c).log ≡ both (value_of r.1 s c).log (both (terms_of rs s c).log silence)

pub terms_run : (s : Site) (c : Cells) (r : Signed) (rs : List Signed) (ds : List (Bool × Dual)) → (terms_of (r ∷ rs) s c).out ≡ Ok ds → TermsRun s c r rs ds
terms_run s c r rs ds h =
    let f = bound (value_of r.1 s c) (λ v. terms_of rs s c >>= (λ us. pure ((r.0, as_dual v) ∷ us))) ds h in
    let g = bound (terms_of rs s c) (λ us. pure ((r.0, as_dual f.value) ∷ us)) ds f.second in
    let i : (r.0, as_dual f.value) ∷ g.value ≡ ds = let j = g.second in cc in
    record { value = f.value; more = g.value; whole = sym i; first = f.first; second = g.first; log = f.log ∙ ap (λ (l : Log). both (value_of r.1 s c).log l) g.log }

-- what an increment added to, and what
pub record IncrementRun (s : Site) (c : Cells) (p : Designator) (rs : List Signed) (n : AccessKind) (d : Cells) : Type 0 where
  pub terms : List (Bool × Dual)
  pub evaluated : (terms_of rs s c).out ≡ Ok terms
  pub subscripts : List Value
  pub evaluated_subscripts : (values_of p.subscripts s c).out ≡ Ok subscripts
  pub place : ℕ
  pub found : place_of s p.name (whole_numbers subscripts) ≡ Some place
  pub value : Value
  pub content : content c place ≡ Some value
  pub cells : d ≡ slice_set c place (Some (Ring (incremented_dual terms (as_dual value))))
  pub log : (increment s c p rs n).log
      ≡ both (within (right_side p.name) (terms_of rs s c).log)
      (both (values_of p.subscripts s c).log (after_touch s p.name place n (store_at c place (Ring (incremented_dual terms (as_dual value))))).log)

record PlaceRun (s : Site) (c : Cells) (x : List ℕ) (n : AccessKind) (ds : List (Bool × Dual)) (o : Option ℕ) (d : Cells) : Type 0 where
  place : ℕ
  found : o ≡ Some place
  value : Value
  holds : content c place ≡ Some value
  cells : d ≡ slice_set c place (Some (Ring (incremented_dual ds (as_dual value))))
  log : (increment_place s c x n ds o).log ≡ (after_touch s x place n (store_at c place (Ring (incremented_dual ds (as_dual value))))).log

place_run : (s : Site) (c : Cells) (x : List ℕ) (n : AccessKind) (ds : List (Bool × Dual)) (o : Option ℕ) (d : Cells) → (increment_place s c x n ds o).out ≡ Ok d → PlaceRun s c x n ds o d
place_run s c x n ds None d h = cc
place_run s c x n ds (Some p) d h = by_content (content c p) refl h
  where
    by_content : (o : Option Value) → content c p ≡ o → (increment_cell s c x n ds p o).out ≡ Ok d → PlaceRun s c x n ds (Some p) d
    by_content None e g = cc
    by_content (Some v) e g =
        let w : Value = Ring (incremented_dual ds (as_dual v)) in
        let P : Cells → Type 0 = λ a. a ≡ slice_set c p (Some w) in
        record {
          place = p;
          found = refl;
          value = v;
          holds = e;
          cells = touching_gives s x p n (store_at c p w) P (gives_value {X = Cause} (slice_set c p (Some w)) P refl) d g;
          log = ap (λ (o : Option Value). (increment_cell s c x n ds p o).log) e;
        }

increment_made : (s : Site) (c : Cells) (p : Designator) (rs : List Signed) (n : AccessKind) (d : Cells) (ds : List (Bool × Dual)) (vs : List Value) (m : Log) → (terms_of rs s c).out ≡ Ok ds → (values_of p.subscripts s c).out ≡ Ok vs
    → (increment s c p rs n).log ≡ both (within (right_side p.name) (terms_of rs s c).log) m → m ≡ both (values_of p.subscripts s c).log (increment_place s c p.name n ds (place_of s p.name (whole_numbers vs))).log
    → PlaceRun s c p.name n ds (place_of s p.name (whole_numbers vs)) d → IncrementRun s c p rs n d
increment_made s c p rs n d ds vs m f g l k i =
    record { terms = ds; evaluated = f; subscripts = vs; evaluated_subscripts = g; place = i.place; found = i.found; value = i.value; content = i.holds; cells = i.cells; log = three_logs l k i.log }

pub increment_run : (s : Site) (c : Cells) (p : Designator) (rs : List Signed) (n : AccessKind) (d : Cells) → (increment s c p rs n).out ≡ Ok d → IncrementRun s c p rs n d
increment_run s c p rs n d h =
    let f = bound (inside (right_side p.name) (terms_of rs s c)) (λ ds. values_of p.subscripts s c >>= (λ vs. increment_place s c p.name n ds (place_of s p.name (whole_numbers vs)))) d h in
    let g = bound (values_of p.subscripts s c) (λ vs. increment_place s c p.name n f.value (place_of s p.name (whole_numbers vs))) d f.second in
    increment_made s c p rs n d f.value g.value _ f.first g.first f.log g.log (place_run s c p.name n f.value (place_of s p.name (whole_numbers g.value)) d g.second)

-- ---- loops

pub record LoopRun (s : Site) (c : Cells) (line : ℕ) (var : List ℕ) (low high : Expression) (by : Option Expression) (body : Statements) (d : Cells) : Type 0 where
  pub count : IterationCount
  pub evaluated : (turns_of low high by s c).out ≡ Ok count
  pub ran : (turns count.count (one_turn s var count (run_all body)) c).out ≡ Ok d

with_log_kept : (l : Log) (c d : Cells) → (with_log l c).out ≡ Ok d → c ≡ d
with_log_kept l c d h = cc

pub loop_run : (s : Site) (c : Cells) (line number : ℕ) (var : List ℕ) (low high : Expression) (by : Option Expression) (body : Statements) (d : Cells) → (run (loop line number None var low high by body) s c).out ≡ Ok d → LoopRun s c line var low high by body d
loop_run s c line number var low high by body d h =
    let f = bound (at_line line (turns_of low high by s c)) (λ t. run_turns var (run_all body) s t c) d h in
    let g = bound (turns f.value.count (one_turn s var f.value (run_all body)) c) (with_log (loop_words f.value)) d f.second in
    record { count = f.value; evaluated = (lined line (turns_of low high by s c) f.value f.first).out; ran = g.first ∙ ap Ok (with_log_kept (loop_words f.value) g.value d g.second) }

-- each turn of a loop that went through went through
pub record TurnRun (k : ℕ) (f : ℕ → Run) (c : Cells) : Type 0 where
  pub before : Cells
  pub past : Cells
  pub reached : (turns k f c).out ≡ Ok before
  pub ran : (f k before).out ≡ Ok past

pub turn_run : (n k : ℕ) (f : ℕ → Run) (c d : Cells) → (turns n f c).out ≡ Ok d → k < n → TurnRun k f c
turn_run zero k f c d h i = absurd (omega arith)
turn_run (suc n) k f c d h i =
    let b = bound (turns n f c) (f n) d h in
    by_last (nat_eq k n) refl b.value b.first b.second (λ j. turn_run n k f c b.value b.first j)
  where
    by_last : (t : Bool) → nat_eq k n ≡ t → (a : Cells) → (turns n f c).out ≡ Ok a → (f n a).out ≡ Ok d → (k < n → TurnRun k f c) → TurnRun k f c
    by_last true e a g r again =
        let j : n ≡ k = grind (arith, nat_tests) in
        subst (λ (m : ℕ). TurnRun m f c) j (record { before = a; past = d; reached = g; ran = r })
    by_last false e a g r again = again (grind (arith, nat_tests))

pub record ParallelRun (s : Site) (c : Cells) (line : ℕ) (directive : Directive) (var : List ℕ) (low high : Expression) (by : Option Expression) (body : Statements) (d : Cells) : Type 0 where
  pub heads : Heads
  pub evaluated : (heads_of (record { line = line; var = var; first = low; last = high; step = by }) (further_head directive body) s c).out ≡ Ok heads
  pub ran : (turns (iterations heads) (one_iteration s directive var heads body (if is_nest directive body then run_inner body else run_all body)) c).out ≡ Ok d

pub parallel_run : (s : Site) (c : Cells) (line number : ℕ) (directive : Directive) (var : List ℕ) (low high : Expression) (by : Option Expression) (body : Statements) (d : Cells)
    → (run (loop line number (Some directive) var low high by body) s c).out ≡ Ok d → ParallelRun s c line directive var low high by body d
parallel_run s c line number directive var low high by body d h =
    let x : Head = record { line = line; var = var; first = low; last = high; step = by } in
    let inner : Site → Run = if is_nest directive body then run_inner body else run_all body in
    let f = bound (heads_of x (further_head directive body) s c) (λ hs. run_parallel line directive var body inner s hs c) d h in
    let l : Log = both (single (ends line)) (words_of_all f.value) in
    let g = bound (inside rounds (turns (iterations f.value) (one_iteration s directive var f.value body inner) c)) (with_log l) d f.second in
    record { heads = f.value; evaluated = f.first; ran = g.first ∙ ap Ok (with_log_kept l g.value d g.second) }

-- ---- arms

pub record ArmRun (s : Site) (c : Cells) (test : Condition) (body : Statements) (arms : Arms) (line m : ℕ) (other : Site → Run) (d : Cells) : Type 0 where
  pub taken : Bool
  pub evaluated : (holds test s c).out ≡ Ok taken
  pub ran : cond taken ((run_all body s c).out ≡ Ok d) ((run_arms arms line (m + 1) other s c).out ≡ Ok d)

in_arm_run : (m : ℕ) (f : Run) (c d : Cells) → (in_arm m f c).out ≡ Ok d → (f c).out ≡ Ok d
in_arm_run m f c d h = let b = bound (f c) _ d h in b.first ∙ ap Ok (let e = b.second in (let q : b.value ≡ d = cc in q))

pub arm_run : (s : Site) (c : Cells) (test : Condition) (body : Statements) (arms : Arms) (line m : ℕ) (other : Site → Run) (d : Cells) → (run_arms (arm test body arms) line m other s c).out ≡ Ok d → ArmRun s c test body arms line m other d
arm_run s c test body arms line m other d h =
    let b = bound (inside (condition m) (at_line line (holds test s c))) (λ p. choice p (in_arm m (run_all body s)) (run_arms arms line (m + 1) other s) c) d h in
    record { taken = b.value; evaluated = (lined line (holds test s c) b.value b.first).out; ran = by_test b.value b.second }
  where
    by_test : (t : Bool) → (choice t (in_arm m (run_all body s)) (run_arms arms line (m + 1) other s) c).out ≡ Ok d → cond t ((run_all body s c).out ≡ Ok d) ((run_arms arms line (m + 1) other s c).out ≡ Ok d)
    by_test true g = in_arm_run m (run_all body s) c d g
    by_test false g = g

pub other_run : (s : Site) (c : Cells) (line m : ℕ) (other : Site → Run) (d : Cells) → (run_arms no_arms line m other s c).out ≡ Ok d → (other s c).out ≡ Ok d
other_run s c line m other d h = in_arm_run m (other s) c d h

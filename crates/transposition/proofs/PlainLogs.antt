-- Without parallel loops, a log has neither the end of one nor passages of one.
use Rattle.std.specs.Prelude.{ℕ, zero, suc, ◌+◌, ◌%◌, Bool, true, false, ◌&&◌, if◌then◌else◌, List, [], ◌∷◌, Option, Some, None, Result, Ok, Err, ℤ, pos, ◌-ℤ◌, ◌+ℤ◌, int_div}
use Rattle.std.specs.Ordering.{int_eq}
use Rattle.store_core.specs.Bounds.{clipped}
use Rattle.fl_ast.specs.Tree.{Expression, Designator, Statement, assignment, branch, loop, Statements, no_statements, statement, Arms, no_arms, arm}
use Rattle.fl_types.specs.declared.access.AccessKind.{AccessKind}
use Rattle.fl_types.specs.declared.access.AccessKind.TheVariants.{Write}
use Rattle.fl_types.specs.Increment.{Signed, increment_terms}
use Rattle.fl_types.specs.Sharing.{assigns_in}
use Rattle.meaning.specs.declared.value.Dual.{Dual}
use Rattle.meaning.specs.declared.value.Value.{Value}
use Rattle.meaning.specs.declared.value.Value.TheVariants.{Index, Ring}
use Rattle.meaning.specs.declared.value.Cause.{Cause}
use Rattle.meaning.specs.declared.value.Cause.TheVariants.{ZeroDivisor}
use Rattle.meaning.specs.declared.value.IterationCount.{IterationCount}
use Rattle.meaning.specs.Values.{as_dual, as_kind, whole_number, whole_numbers}
use Rattle.meaning.specs.Logs.{Log, silence, single, touched, sets, both, within, Event, begins, touches, pushes, ends, traps, Passage, instance, right_side, rounds, turn, iteration, condition, taken, Traced, pure, lift, after, continuation, ◌>>=◌, inside, at_line, at_line_by}
use Rattle.meaning.specs.Sites.{Cells, Site, with_tangent, in_turn, place_of, kind_of}
use Rattle.meaning.specs.Expressions.{after_touch, content, value_of, values_of, holds}
use Rattle.meaning.specs.Statements.{Run, with_log, store_at, after_push, put, terms_of, increment_cell, increment_place, incremented_dual, assignment_by, turns_by, step_value, turns_of, set_log_at, turns, loop_words, one_turn, run_turns, with_variables, Heads, iterations, choice, in_arm, unset_log, private_words, content_at, run, run_all, run_arms}
use Rattle.transposition.specs.Calms.{IsFlat, AreFlat, AreFlatArms}
use Rattle.transposition.proofs.Taping.{OnlyTouches, only_value, only_values, only_holds, only_terms}

abbrev pub PlainEvent : Event → Type 0
PlainEvent begins = Unit {0}
PlainEvent (touches t) = ⊥
PlainEvent (pushes v) = Unit {0}
PlainEvent (ends line) = ⊥
PlainEvent (traps t) = Unit {0}

abbrev pub PlainPassage : Passage → Type 0
PlainPassage instance = Unit {0}
PlainPassage (right_side x) = Unit {0}
PlainPassage rounds = ⊥
PlainPassage (turn k) = Unit {0}
PlainPassage (iteration k) = ⊥
PlainPassage (condition m) = Unit {0}
PlainPassage (taken m) = Unit {0}

abbrev pub IsPlain : Log → Type 0
IsPlain silence = Unit {0}
IsPlain (single e) = PlainEvent e
IsPlain (touched p kind) = Unit {0}
IsPlain (sets p v) = Unit {0}
IsPlain (both a b) = IsPlain a × IsPlain b
IsPlain (within p a) = PlainPassage p × IsPlain a

plain_touches : (l : Log) → OnlyTouches l → IsPlain l
plain_touches silence h = tt
plain_touches (single e) h = absurd h
plain_touches (touched p kind) h = tt
plain_touches (sets p v) h = absurd h
plain_touches (both a b) h = (plain_touches a h.0, plain_touches b h.1)
plain_touches (within p a) h = absurd h

plain_by : {X A B : Type 0} (l : Log) (o : Result A X) (k : A → Traced X B) → IsPlain l → ((a : A) → IsPlain (k a).log) → IsPlain (continuation l o k).log
plain_by l (Ok a) k h g = (h, g a)
plain_by l (Err x) k h g = h

pub plain_bind : {X A B : Type 0} (r : Traced X A) (k : A → Traced X B) → IsPlain r.log → ((a : A) → IsPlain (k a).log) → IsPlain (r >>= k).log
plain_bind r k h g = plain_by r.log r.out k h g

plain_line_by : {A : Type 0} (line : ℕ) (l : Log) (o : Result A Cause) → IsPlain l → IsPlain (at_line_by line l o).log
plain_line_by line l (Ok a) h = h
plain_line_by line l (Err c) h = (h, tt)

plain_line : {A : Type 0} (line : ℕ) (t : Traced Cause A) → IsPlain t.log → IsPlain (at_line line t).log
plain_line line t h = plain_line_by line t.log t.out h

-- ---- assignments

plain_touch : {X A : Type 0} (site : Site) (x : List ℕ) (p : ℕ) (kind : AccessKind) (t : Traced X A) → IsPlain t.log → IsPlain (after_touch site x p kind t).log
plain_touch site x p kind t h = by_test (site.accessed x)
  where
    by_test : (b : Bool) → IsPlain (if b then after (touched p kind) t else t).log
    by_test true = (tt, h)
    by_test false = h

plain_push : {X A : Type 0} (site : Site) (x : List ℕ) (old : Option Value) (t : Traced X A) → IsPlain t.log → IsPlain (after_push site x old t).log
plain_push site x old t h = by_test (site.pushed x)
  where
    by_test : (b : Bool) → IsPlain (if b then after (single (pushes (with_tangent 0 old))) t else t).log
    by_test true = (tt, h)
    by_test false = h

plain_put : (site : Site) (s : Cells) (x : List ℕ) (v : Value) (o : Option ℕ) → IsPlain (put site s x v o).log
plain_put site s x v None = tt
plain_put site s x v (Some p) =
    plain_touch site x p Write (after_push site x (content s p) (store_at s p (as_kind (kind_of site x) v))) (plain_push site x (content s p) (store_at s p (as_kind (kind_of site x) v)) tt)

plain_increment : (site : Site) (s : Cells) (x : List ℕ) (kind : AccessKind) (ds : List (Bool × Dual)) (o : Option ℕ) → IsPlain (increment_place site s x kind ds o).log
plain_increment site s x kind ds None = tt
plain_increment site s x kind ds (Some p) = by_content (content s p)
  where
    by_content : (c : Option Value) → IsPlain (increment_cell site s x kind ds p c).log
    by_content None = tt
    by_content (Some v) = plain_touch site x p kind (store_at s p (Ring (incremented_dual ds (as_dual v)))) tt

plain_value : (e : Expression) (site : Site) (s : Cells) → IsPlain (value_of e site s).log
plain_value e site s = plain_touches (value_of e site s).log (only_value e site s)

plain_assigned : (site : Site) (s : Cells) (atomic : Bool) (p : Designator) (e : Expression) (o : Option (List Signed)) → IsPlain (assignment_by site s atomic p e o).log
plain_assigned site s atomic p e None =
    plain_bind (inside (right_side p.name) (value_of e site s)) (λ v. values_of p.subscripts site s >>= (λ vs. put site s p.name v (place_of site p.name (whole_numbers vs)))) (tt, plain_value e site s)
    (λ v. plain_bind (values_of p.subscripts site s) (λ vs. put site s p.name v (place_of site p.name (whole_numbers vs))) (plain_touches _ (only_values p.subscripts site s)) (λ vs. plain_put site s p.name v (place_of site p.name (whole_numbers vs))))
plain_assigned site s atomic p e (Some rs) =
    plain_bind (inside (right_side p.name) (terms_of rs site s)) (λ ds. values_of p.subscripts site s >>= (λ vs. increment_place site s p.name _ ds (place_of site p.name (whole_numbers vs)))) (tt, plain_touches _ (only_terms rs site s))
    (λ ds. plain_bind (values_of p.subscripts site s) (λ vs. increment_place site s p.name _ ds (place_of site p.name (whole_numbers vs))) (plain_touches _ (only_values p.subscripts site s)) (λ vs. plain_increment site s p.name _ ds (place_of site p.name (whole_numbers vs))))

-- ---- loops

plain_turns_by : (a b c : ℤ) → IsPlain (turns_by a b c).log
plain_turns_by a b c = by_test (int_eq c (pos 0))
  where
    made : IterationCount
    made = record { first = a; last = b; step = c; count = clipped (int_div ((b -ℤ a) +ℤ c) c) }

    by_test : (z : Bool) → IsPlain (if z then lift (Err ZeroDivisor) else pure made).log
    by_test true = tt
    by_test false = tt

plain_step : (o : Option Expression) (site : Site) (s : Cells) → IsPlain (step_value o site s).log
plain_step None site s = tt
plain_step (Some e) site s = plain_value e site s

pub plain_bounds : (first last : Expression) (step : Option Expression) (site : Site) (s : Cells) → IsPlain (turns_of first last step site s).log
plain_bounds first last step site s =
    plain_bind (value_of first site s) (λ a. value_of last site s >>= (λ b. step_value step site s >>= (λ c. turns_by (whole_number a) (whole_number b) (whole_number c)))) (plain_value first site s)
    (λ a. plain_bind (value_of last site s) (λ b. step_value step site s >>= (λ c. turns_by (whole_number a) (whole_number b) (whole_number c))) (plain_value last site s)
    (λ b. plain_bind (step_value step site s) (λ c. turns_by (whole_number a) (whole_number b) (whole_number c)) (plain_step step site s) (λ c. plain_turns_by (whole_number a) (whole_number b) (whole_number c))))

plain_set : (o : Option ℕ) (v : Option Value) → IsPlain (set_log_at o v)
plain_set None v = tt
plain_set (Some p) v = tt

plain_turns : (n : ℕ) (f : ℕ → Run) (s : Cells) → ((k : ℕ) (s : Cells) → IsPlain (f k s).log) → IsPlain (turns n f s).log
plain_turns zero f s h = tt
plain_turns (suc n) f s h = plain_bind (turns n f s) (f n) (plain_turns n f s h) (λ c. h n c)

plain_run_turns : (var : List ℕ) (body : Site → Run) (site : Site) (t : IterationCount) (s : Cells) → ((site : Site) (s : Cells) → IsPlain (body site s).log) → IsPlain (run_turns var body site t s).log
plain_run_turns var body site t s h =
    plain_bind (turns t.count (one_turn site var t body) s) (with_log (loop_words t)) (plain_turns t.count (one_turn site var t body) s (λ k c. (tt, (plain_set (place_of site var []) _, h (in_turn site var) _)))) (λ c. (tt, (tt, tt)))

-- ---- statements

plain_arm : (m : ℕ) (f : Run) (s : Cells) → IsPlain (f s).log → IsPlain (in_arm m f s).log
plain_arm m f s h = (tt, plain_bind (f s) (with_log (single (pushes (Some (Index (pos m)))))) h (λ c. tt))

plain_choice : (b : Bool) (f g : Run) (s : Cells) → IsPlain (f s).log → IsPlain (g s).log → IsPlain (choice b f g s).log
plain_choice true f g s h k = h
plain_choice false f g s h k = k

mutual
  pub plain_one : (x : Statement) (site : Site) (s : Cells) → IsFlat x → IsPlain (run x site s).log
  plain_one (assignment line atomic p e) site s h = (tt, plain_line line (assignment_by site s atomic p e (increment_terms site.ring p e)) (plain_assigned site s atomic p e (increment_terms site.ring p e)))
  plain_one (branch line arms other) site s h = (tt, plain_arms arms line 0 (run_all other) site s h.0 (λ site s. plain_all other site s h.1))
  plain_one (loop line number None var first last step body) site s h = (
    tt,
    plain_bind (at_line line (turns_of first last step site s)) (λ t. run_turns var (run_all body) site t s) (plain_line line (turns_of first last step site s) (plain_bounds first last step site s))
        (λ t. plain_run_turns var (run_all body) site t s (λ site s. plain_all body site s h)),
  )
  plain_one (loop line number (Some directive) var first last step body) site s h = absurd h

  pub plain_all : (xs : Statements) (site : Site) (s : Cells) → AreFlat xs → IsPlain (run_all xs site s).log
  plain_all no_statements site s h = tt
  plain_all (statement x xs) site s h = plain_bind (run x site s) (run_all xs site) (plain_one x site s h.0) (λ c. plain_all xs site c h.1)

  plain_arms : (arms : Arms) (line m : ℕ) (other : Site → Run) (site : Site) (s : Cells) → AreFlatArms arms → ((site : Site) (s : Cells) → IsPlain (other site s).log) → IsPlain (run_arms arms line m other site s).log
  plain_arms no_arms line m other site s h k = plain_arm m (other site) s (k site s)
  plain_arms (arm test body arms) line m other site s h k =
      plain_bind (inside (condition m) (at_line line (holds test site s))) (λ p. choice p (in_arm m (run_all body site)) (run_arms arms line (m + 1) other site) s) (tt, plain_line line (holds test site s) (plain_touches _ (only_holds test site s)))
      (λ p. plain_choice p (in_arm m (run_all body site)) (run_arms arms line (m + 1) other site) s (plain_arm m (run_all body site) s (plain_all body site s h.0)) (plain_arms arms line (m + 1) other site s h.1 k))

-- ---- what an iteration tells

pub plain_settings : (site : Site) (hs : Heads) (k : ℕ) (f : Run) (s : Cells) → ((s : Cells) → IsPlain (f s).log) → IsPlain (with_variables site hs k f s).log
plain_settings site [] k f s h = h s
plain_settings site (d ∷ []) k f s h = (plain_set (place_of site d.0 []) _, h _)
plain_settings site (d ∷ g ∷ hs) k f s h = (plain_set (place_of site d.0 []) _, plain_settings site (g ∷ hs) (k % iterations (g ∷ hs)) f _ h)

pub plain_unset : (site : Site) (xs : List (List ℕ)) → IsPlain (unset_log site xs)
plain_unset site [] = tt
plain_unset site (x ∷ xs) = (plain_set (place_of site x []) None, plain_unset site xs)

pub plain_words : (site : Site) (body : Statements) (xs : List (List ℕ)) (s : Cells) → IsPlain (private_words site body xs s)
plain_words site body [] s = tt
plain_words site body (x ∷ xs) s = (by_test (assigns_in x body && site.pushed x), plain_words site body xs s)
  where
    by_test : (b : Bool) → IsPlain (if b then single (pushes (with_tangent 0 (content_at s (place_of site x [])))) else silence)
    by_test true = tt
    by_test false = tt

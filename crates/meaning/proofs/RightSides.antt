-- The touches of a log, and those in right sides, are readings.
use Rattle.std.specs.Prelude.{◌≡◌, ℕ, ℤ, pos, ◌+ℤ◌, ◌-ℤ◌, int_div, Bool, true, false, if◌then◌else◌, List, [], ◌∷◌, ◌++◌, map, Option, Some, None, Result, Ok, Err, refl}
use Rattle.std.specs.Ordering.{int_eq}
use Rattle.std.proofs.Common.{ap, ◌∙◌}
use Rattle.fl_ast.specs.Tree.{Expression, literal, get, minus, binary, power, call, Expressions, no_expressions, expression, Designator, Condition, relation, negation, conjunction, disjunction}
use Rattle.fl_types.specs.declared.access.PathStep.{PathStep}
use Rattle.fl_types.specs.declared.access.AccessKind.{AccessKind}
use Rattle.fl_types.specs.declared.access.AccessKind.TheVariants.{Read, Write}
use Rattle.fl_types.specs.Increment.{Signed, increment_terms}
use Rattle.fl_types.specs.Accesses.{Occurrence, increment_kind, reads, term_reads}
use Rattle.meaning.specs.declared.value.Value.{Value}
use Rattle.meaning.specs.declared.value.Value.TheVariants.{Ring}
use Rattle.meaning.specs.declared.value.Dual.{Dual}
use Rattle.meaning.specs.declared.value.Cause.{Cause}
use Rattle.meaning.specs.declared.value.Cause.TheVariants.{ZeroDivisor}
use Rattle.meaning.specs.Values.{as_dual, as_kind, whole_number, whole_numbers}
use Rattle.store_core.specs.Bounds.{clipped}
use Rattle.meaning.specs.declared.value.IterationCount.{IterationCount}
use Rattle.meaning.specs.Logs.{Touch, Log, single, touched, within, pushes, right_side, Traced, pure, lift, after, continuation, ◌>>=◌, at_line, at_line_by, events_in}
use Rattle.meaning.specs.Sites.{Cells, with_tangent, Site, place_of, kind_of}
use Rattle.meaning.specs.Expressions.{after_touch, content, read_cell, read_place, value_of, values_of, holds}
use Rattle.meaning.specs.Expressions.{read as look_up}
use Rattle.meaning.specs.Statements.{store_at, after_push, put, terms_of, incremented_dual, increment_cell, increment_place, turns_by, step_value, assignment_by, turns_of}
use Rattle.meaning.specs.Touches.{touches_in, right_touches_in, scope_at, touch_of, AreTouches}
use Rattle.meaning.specs.Groups.{right_accesses, right_of}
use Rattle.meaning.proofs.Touching.{touches_append, value_touches, terms_touch, condition_touches, assigned_touches, turns_touch, line_touches}
use Rattle.meaning.proofs.GroupReadings.{append_nil, Reading}

of_line : {A : Type 0} (line : ℕ) (t : Traced Cause A) (a : A) → (at_line line t).out ≡ Ok a → (t.out ≡ Ok a) × ((at_line line t).log ≡ t.log)
of_line {A} line t a h = by_out t.out h
  where
    by_out : (r : Result A Cause) → (at_line_by line t.log r).out ≡ Ok a → (r ≡ Ok a) × ((at_line_by line t.log r).log ≡ t.log)
    by_out (Ok b) e = let q : b ≡ a = cc in (ap Ok q, refl)
    by_out (Err x) e = cc

pub all_reading : Reading touches_in (λ g. g.accesses)
all_reading = record {
  nothing = λ k. refl;
  pair = λ k a b. touches_append (events_in k a) (events_in k b);
  stores = λ k p v. refl;
  words = λ k v. refl;
  instances = λ k a. refl;
  conditions = λ k m a. refl;
  arms = λ k m a. refl;
  turnings = λ k j a. refl;
  iterates = λ i k a. refl;
  assignments = λ s c d line atomic p e n path h k.
      line_touches s c line (assignment_by s c atomic p e (increment_terms s.ring p e)) _ (assigned_touches s c line path atomic p e (increment_terms s.ring p e)) d h k;
  tests = λ s c line path test b h k. condition_touches test s c line path b h k;
  bounds = λ s c line path first last step t h k. turns_touch first last step s c line path t h k;
}

-- what is evaluated outside of right sides
abbrev IsOutside : (List ℕ → Bool) → Log → Type 0
IsOutside on l = (k : ℕ) → right_touches_in on k l ≡ []

abbrev Outside : {X A : Type 0} → (List ℕ → Bool) → Traced X A → Type 0
Outside on t = IsOutside on t.log

outside_continuation : {X A B : Type 0} (on : List ℕ → Bool) (l : Log) (r : Result A X) (f : A → Traced X B) → IsOutside on l → ((a : A) → Outside on (f a)) → Outside on (continuation l r f)
outside_continuation on l (Ok a) f h g k = ap (λ (ts : List Touch). ts ++ right_touches_in on k (f a).log) (h k) ∙ g a k
outside_continuation on l (Err x) f h g k = h k

outside_then : {X A B : Type 0} (on : List ℕ → Bool) (t : Traced X A) (f : A → Traced X B) → Outside on t → ((a : A) → Outside on (f a)) → Outside on (t >>= f)
outside_then on t f h g = outside_continuation on t.log t.out f h g

outside_touch : {X A : Type 0} (on : List ℕ → Bool) (s : Site) (x : List ℕ) (p : ℕ) (n : AccessKind) (t : Traced X A) → Outside on t → Outside on (after_touch s x p n t)
outside_touch on s x p n t h k = by_test (s.accessed x)
  where
    by_test : (b : Bool) → right_touches_in on k (if b then after (touched p n) t else t).log ≡ []
    by_test true = h k
    by_test false = h k

outside_cell : (on : List ℕ → Bool) (s : Site) (x : List ℕ) (p : ℕ) (o : Option Value) → Outside on (read_cell s x p o)
outside_cell on s x p None k = refl
outside_cell on s x p (Some v) k = outside_touch on s x p Read (pure {X = Cause} v) (λ j. refl) k

outside_place : (on : List ℕ → Bool) (s : Site) (c : Cells) (x : List ℕ) (o : Option ℕ) → Outside on (read_place s c x o)
outside_place on s c x None k = refl
outside_place on s c x (Some p) k = outside_cell on s x p (content c p) k

mutual
  outside_value : (on : List ℕ → Bool) (a : Expression) (s : Site) (c : Cells) → Outside on (value_of a s c)
  outside_value on (literal n i) s c k = refl
  outside_value on (get x ss) s c k = outside_then on (values_of ss s c) (look_up s c x) (outside_values on ss s c) (λ vs. outside_place on s c x (place_of s x (whole_numbers vs))) k
  outside_value on (minus a) s c k = outside_then on (value_of a s c) _ (outside_value on a s c) (λ v j. refl) k
  outside_value on (binary op a b) s c k = outside_then on (value_of a s c) _ (outside_value on a s c) (λ v. outside_then on (value_of b s c) _ (outside_value on b s c) (λ u j. refl)) k
  outside_value on (power a n) s c k = outside_then on (value_of a s c) _ (outside_value on a s c) (λ v j. refl) k
  outside_value on (call f ss) s c k = outside_then on (values_of ss s c) _ (outside_values on ss s c) (λ vs j. refl) k

  outside_values : (on : List ℕ → Bool) (ss : Expressions) (s : Site) (c : Cells) → Outside on (values_of ss s c)
  outside_values on no_expressions s c k = refl
  outside_values on (expression a ss) s c k = outside_then on (value_of a s c) _ (outside_value on a s c) (λ v. outside_then on (values_of ss s c) _ (outside_values on ss s c) (λ vs j. refl)) k

outside_condition : (on : List ℕ → Bool) (a : Condition) (s : Site) (c : Cells) → Outside on (holds a s c)
outside_condition on (relation op a b) s c = outside_then on (value_of a s c) _ (outside_value on a s c) (λ v. outside_then on (value_of b s c) _ (outside_value on b s c) (λ u j. refl))
outside_condition on (negation a) s c = outside_then on (holds a s c) _ (outside_condition on a s c) (λ v j. refl)
outside_condition on (conjunction a b) s c = outside_then on (holds a s c) _ (outside_condition on a s c) (λ v. outside_then on (holds b s c) _ (outside_condition on b s c) (λ u j. refl))
outside_condition on (disjunction a b) s c = outside_then on (holds a s c) _ (outside_condition on a s c) (λ v. outside_then on (holds b s c) _ (outside_condition on b s c) (λ u j. refl))

outside_step : (on : List ℕ → Bool) (o : Option Expression) (s : Site) (c : Cells) → Outside on (step_value o s c)
outside_step on None s c k = refl
outside_step on (Some a) s c k = outside_value on a s c k

outside_count : (on : List ℕ → Bool) (x y z : ℤ) → Outside on (turns_by x y z)
outside_count on x y z k = by_test (int_eq z (pos 0))
  where
    some_turns : IterationCount
    some_turns = record { first = x; last = y; step = z; count = clipped (int_div ((y -ℤ x) +ℤ z) z) }

    by_test : (b : Bool) → right_touches_in on k (if b then lift {X = Cause} {A = IterationCount} (Err ZeroDivisor) else pure some_turns).log ≡ []
    by_test true = refl
    by_test false = refl

outside_bounds : (on : List ℕ → Bool) (first last : Expression) (step : Option Expression) (s : Site) (c : Cells) → Outside on (turns_of first last step s c)
outside_bounds on first last step s c =
    outside_then on (value_of first s c) _ (outside_value on first s c)
    (λ v. outside_then on (value_of last s c) _ (outside_value on last s c) (λ u. outside_then on (step_value step s c) _ (outside_step on step s c) (λ t. outside_count on (whole_number v) (whole_number u) (whole_number t))))

outside_push : {X A : Type 0} (on : List ℕ → Bool) (s : Site) (x : List ℕ) (old : Option Value) (t : Traced X A) → Outside on t → Outside on (after_push s x old t)
outside_push on s x old t h k = by_test (s.pushed x)
  where
    by_test : (b : Bool) → right_touches_in on k (if b then after (single (pushes (with_tangent 0 old))) t else t).log ≡ []
    by_test true = h k
    by_test false = h k

outside_put : (on : List ℕ → Bool) (s : Site) (c : Cells) (x : List ℕ) (v : Value) (o : Option ℕ) → Outside on (put s c x v o)
outside_put on s c x v None k = refl
outside_put on s c x v (Some p) k =
    let t : Traced Cause Cells = store_at c p (as_kind (kind_of s x) v) in
    outside_touch on s x p Write (after_push s x (content c p) t) (outside_push on s x (content c p) t (λ j. refl)) k

outside_increment : (on : List ℕ → Bool) (s : Site) (c : Cells) (x : List ℕ) (n : AccessKind) (ds : List (Bool × Dual)) (o : Option ℕ) → Outside on (increment_place s c x n ds o)
outside_increment on s c x n ds None k = refl
outside_increment on s c x n ds (Some p) k = by_cell (content c p)
  where
    by_cell : (o : Option Value) → right_touches_in on k (increment_cell s c x n ds p o).log ≡ []
    by_cell None = refl
    by_cell (Some v) = outside_touch on s x p n (store_at c p (Ring (incremented_dual ds (as_dual v)))) (λ j. refl) k

if_touches : (b : Bool) (s : Site) (c : Cells) (k : ℕ) (ts us : List Touch) (os : List Occurrence) → map Some ts ≡ map (touch_of s c k) os → us ≡ [] → map Some (if b then ts else us) ≡ map (touch_of s c k) (if b then os else [])
if_touches true s c k ts us os h g = h
if_touches false s c k ts us os h g = ap (map Some) g

-- of a right side, and then nothing
right_first : {A : Type 0} (on : List ℕ → Bool) (s : Site) (c : Cells) (x : List ℕ) (l : Log) (r : Result A Cause) (f : A → Traced Cause Cells) (os : List Occurrence) → ((a : A) → r ≡ Ok a → AreTouches s c l os) → IsOutside on l → ((a : A) → Outside on (f a))
    → (d : Cells) → (continuation (within (right_side x) l) r f).out ≡ Ok d → (k : ℕ) → map Some (right_touches_in on k (continuation (within (right_side x) l) r f).log) ≡ map (touch_of s c k) (if on x then os else [])
right_first on s c x l (Ok a) f os h o g d e k =
    ap (map Some) (ap (λ (ts : List Touch). (if on x then touches_in k l else right_touches_in on k l) ++ ts) (g a k) ∙ append_nil (if on x then touches_in k l else right_touches_in on k l))
    ∙ if_touches (on x) s c k (touches_in k l) (right_touches_in on k l) os (h a refl k) (o k)
right_first on s c x l (Err y) f os h o g d e k = cc

outside_terms : (on : List ℕ → Bool) (rs : List Signed) (s : Site) (c : Cells) → Outside on (terms_of rs s c)
outside_terms on [] s c k = refl
outside_terms on (r ∷ rs) s c k = outside_then on (value_of r.1 s c) _ (outside_value on r.1 s c) (λ v. outside_then on (terms_of rs s c) _ (outside_terms on rs s c) (λ ds j. refl)) k

right_assigned : (on : List ℕ → Bool) (s : Site) (c d : Cells) (line : ℕ) (path : List PathStep) (atomic : Bool) (p : Designator) (e : Expression) (o : Option (List Signed)) → (assignment_by s c atomic p e o).out ≡ Ok d
    → (k : ℕ) → map Some (right_touches_in on k (assignment_by s c atomic p e o).log) ≡ map (touch_of s c k) (if on p.name then right_accesses (scope_at s) line path e o else [])
right_assigned on s c d line path atomic p e None h k =
    right_first on s c p.name (value_of e s c).log (value_of e s c).out (λ v. values_of p.subscripts s c >>= (λ vs. put s c p.name v (place_of s p.name (whole_numbers vs)))) (reads (scope_at s) line path e)
    (value_touches e s c line path) (outside_value on e s c)
    (λ v. outside_then on (values_of p.subscripts s c) _ (outside_values on p.subscripts s c) (λ vs. outside_put on s c p.name v (place_of s p.name (whole_numbers vs)))) d h k
right_assigned on s c d line path atomic p e (Some rs) h k =
    let n : AccessKind = increment_kind atomic (s.pluses p.name) in
    right_first on s c p.name (terms_of rs s c).log (terms_of rs s c).out (λ ds. values_of p.subscripts s c >>= (λ vs. increment_place s c p.name n ds (place_of s p.name (whole_numbers vs)))) (term_reads (scope_at s) line path rs)
    (terms_touch rs s c line path) (outside_terms on rs s c)
    (λ ds. outside_then on (values_of p.subscripts s c) _ (outside_values on p.subscripts s c) (λ vs. outside_increment on s c p.name n ds (place_of s p.name (whole_numbers vs)))) d h k

none_right : (on : List ℕ → Bool) (s : Site) (c : Cells) (k : ℕ) (ts : List Touch) → ts ≡ [] → map Some ts ≡ map (touch_of s c k) (if on [] then [] else [])
none_right on s c k ts h = ap (map Some) h ∙ by_test (on [])
  where
    by_test : (b : Bool) → [] ≡ map (touch_of s c k) (if b then [] else [])
    by_test true = refl
    by_test false = refl

pub right_reading : (on : List ℕ → Bool) → Reading (right_touches_in on) (right_of on)
right_reading on = record {
  nothing = λ k. refl;
  pair = λ k a b. refl;
  stores = λ k p v. refl;
  words = λ k v. refl;
  instances = λ k a. refl;
  conditions = λ k m a. refl;
  arms = λ k m a. refl;
  turnings = λ k j a. refl;
  iterates = λ i k a. refl;
  assignments = λ s c d line atomic p e n path h k.
      let q = of_line line (assignment_by s c atomic p e (increment_terms s.ring p e)) d h in
      ap (λ (l : Log). map Some (right_touches_in on k l)) q.1 ∙ right_assigned on s c d line path atomic p e (increment_terms s.ring p e) q.0 k;
  tests = λ s c line path test b h k. none_right on s c k (right_touches_in on k (holds test s c).log) (outside_condition on test s c k);
  bounds = λ s c line path first last step t h k. none_right on s c k (right_touches_in on k (turns_of first last step s c).log) (outside_bounds on first last step s c k);
}

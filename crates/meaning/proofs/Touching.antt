-- The touches of what one path holds are its accesses, in order.
use Rattle.std.specs.Prelude.{◌≡◌, ℕ, ℤ, pos, ◌+ℤ◌, ◌-ℤ◌, int_div, Bool, true, false, if◌then◌else◌, List, [], ◌∷◌, ◌++◌, map, Option, Some, None, Result, Ok, Err, refl}
use Rattle.std.specs.Ordering.{int_eq}
use Rattle.std.proofs.Common.{ap, sym, ◌∙◌}
use Rattle.std.proofs.lemmas.List.{map-append}
use Rattle.fl_ast.specs.Tree.{Expression, literal, get, minus, binary, power, call, Expressions, no_expressions, expression, Designator, Condition, relation, negation, conjunction, disjunction}
use Rattle.fl_types.specs.declared.access.AccessKind.{AccessKind}
use Rattle.fl_types.specs.declared.access.AccessKind.TheVariants.{Read, Write}
use Rattle.fl_types.specs.declared.access.PathStep.{PathStep}
use Rattle.fl_types.specs.Increment.{Signed, increment_terms}
use Rattle.fl_types.specs.Accesses.{Occurrence, access, reads, reads_all, condition_reads, step_reads, term_reads, increment_kind, assignment_accesses}
use Rattle.store_core.specs.Bounds.{clipped}
use Rattle.meaning.specs.declared.value.Value.{Value}
use Rattle.meaning.specs.declared.value.Cause.{Cause}
use Rattle.meaning.specs.declared.value.Cause.TheVariants.{ZeroDivisor}
use Rattle.meaning.specs.declared.value.Dual.{Dual}
use Rattle.meaning.specs.declared.value.IterationCount.{IterationCount}
use Rattle.meaning.specs.declared.value.Value.TheVariants.{Ring}
use Rattle.meaning.specs.Values.{as_dual, as_kind, whole_number, whole_numbers}
use Rattle.meaning.specs.Logs.{Touch, Event, begins, touches, pushes, ends, traps, Log, single, both, touched, right_side, events_in, Traced, pure, lift, after, continuation, ◌>>=◌, inside, at_line, at_line_by}
use Rattle.meaning.specs.Sites.{Cells, with_tangent, Site, place_of, kind_of}
use Rattle.meaning.specs.Expressions.{after_touch, content, read_cell, read_place, read, value_of, values_of, holds}
use Rattle.meaning.specs.Statements.{store_at, after_push, put, plain_assignment, terms_of, incremented_dual, increment_cell, increment_place, increment, assignment_by, turns_by, step_value, turns_of}
use Rattle.meaning.specs.Touches.{touches_among, touches_in, scope_at, place_at, designated_place, touch_of, AreTouches, GroupTouches}

-- ---- logs

pub touches_append : (es fs : List Event) → touches_among (es ++ fs) ≡ touches_among es ++ touches_among fs
touches_append [] fs = refl
touches_append (begins ∷ es) fs = touches_append es fs
touches_append (touches t ∷ es) fs = ap (λ (ts : List Touch). t ∷ ts) (touches_append es fs)
touches_append (pushes w ∷ es) fs = touches_append es fs
touches_append (ends line ∷ es) fs = touches_append es fs
touches_append (traps t ∷ es) fs = touches_append es fs

abbrev pub IsUntouched : Log → Type 0
IsUntouched l = (k : ℕ) → touches_in k l ≡ []

both_touches : (s : Site) (cells : Cells) (l m : Log) (os ps : List Occurrence) → AreTouches s cells l os → AreTouches s cells m ps → AreTouches s cells (both l m) (os ++ ps)
both_touches s cells l m os ps h g k =
    ap (map Some) (touches_append (events_in k l) (events_in k m))
    ∙ (map-append Some (touches_in k l) (touches_in k m)
    ∙ (ap (λ (ts : List (Option Touch)). ts ++ map Some (touches_in k m)) (h k)
    ∙ (ap (λ (ts : List (Option Touch)). map (touch_of s cells k) os ++ ts) (g k)
    ∙ sym (map-append (touch_of s cells k) os ps))))

-- before a log without touches
before_quiet : (s : Site) (cells : Cells) (l m : Log) (os : List Occurrence) → AreTouches s cells l os → IsUntouched m → AreTouches s cells (both l m) os
before_quiet s cells l m os h q k =
    ap (map Some) (touches_append (events_in k l) (events_in k m) ∙ (ap (λ (ts : List Touch). touches_in k l ++ ts) (q k) ∙ append_nil (touches_in k l))) ∙ h k
  where
    append_nil : (ts : List Touch) → ts ++ [] ≡ ts
    append_nil [] = refl
    append_nil (t ∷ ts) = ap (λ (us : List Touch). t ∷ us) (append_nil ts)

-- what a run that gives a value told of touches
abbrev pub Touching : {X A : Type 0} → Site → Cells → Traced X A → List Occurrence → Type 0
Touching {X} {A} s cells t os = (a : A) → t.out ≡ Ok a → AreTouches s cells t.log os

joined_touching : {X A B : Type 0} (s : Site) (cells : Cells) (l : Log) (r : Result A X) (f : A → Traced X B) (os ps : List Occurrence)
    → ((a : A) → r ≡ Ok a → AreTouches s cells l os) → ((a : A) → r ≡ Ok a → Touching s cells (f a) ps) → Touching s cells (continuation l r f) (os ++ ps)
joined_touching s cells l (Ok a) f os ps h g b e = both_touches s cells l (f a).log os ps (h a refl) (g a refl b e)
joined_touching s cells l (Err x) f os ps h g b e = cc

then_touching : {X A B : Type 0} (s : Site) (cells : Cells) (t : Traced X A) (f : A → Traced X B) (os ps : List Occurrence)
    → Touching s cells t os → ((a : A) → t.out ≡ Ok a → Touching s cells (f a) ps) → Touching s cells (t >>= f) (os ++ ps)
then_touching s cells t f os ps h g = joined_touching s cells t.log t.out f os ps h g

joined_quiet : {X A B : Type 0} (s : Site) (cells : Cells) (l : Log) (r : Result A X) (f : A → Traced X B) (os : List Occurrence)
    → ((a : A) → r ≡ Ok a → AreTouches s cells l os) → ((a : A) → IsUntouched (f a).log) → Touching s cells (continuation l r f) os
joined_quiet s cells l (Ok a) f os h g b e = before_quiet s cells l (f a).log os (h a refl) (g a)
joined_quiet s cells l (Err x) f os h g b e = cc

-- and then nothing is touched
then_quiet : {X A B : Type 0} (s : Site) (cells : Cells) (t : Traced X A) (f : A → Traced X B) (os : List Occurrence) → Touching s cells t os → ((a : A) → IsUntouched (f a).log) → Touching s cells (t >>= f) os
then_quiet s cells t f os h g = joined_quiet s cells t.log t.out f os h g

-- an access, in whose touch the place stands that was found
touching_touches : {X A : Type 0} (s : Site) (cells : Cells) (line : ℕ) (path : List PathStep) (kind : AccessKind) (p : Designator) (q : ℕ) (t : Traced X A)
    → IsUntouched t.log → designated_place s cells p ≡ Some q → AreTouches s cells (after_touch s p.name q kind t).log (access (scope_at s) line path kind p)
touching_touches s cells line path kind p q t h e k = by_test (s.accessed p.name)
  where
    occurrence : Occurrence
    occurrence = record { line = line; place = p; path = path; kind = kind }

    by_test : (b : Bool) → map Some (touches_in k (if b then after (touched q kind) t else t).log) ≡ map (touch_of s cells k) (if b then occurrence ∷ [] else [])
    by_test true = rw (h k, e) refl
    by_test false = rw (h k) refl

-- ---- expressions

-- the values of subscripts give the place
found_place : (s : Site) (cells : Cells) (p : Designator) (vs : List Value) (o : Option ℕ) → (values_of p.subscripts s cells).out ≡ Ok vs → place_of s p.name (whole_numbers vs) ≡ o → designated_place s cells p ≡ o
found_place s cells p vs o h e = ap (place_at s p.name) h ∙ e

cell_touches : (s : Site) (cells : Cells) (line : ℕ) (path : List PathStep) (p : Designator) (q : ℕ) (c : Option Value)
    → designated_place s cells p ≡ Some q → Touching s cells (read_cell s p.name q c) (access (scope_at s) line path Read p)
cell_touches s cells line path p q None h v e = cc
cell_touches s cells line path p q (Some w) h v e = touching_touches s cells line path Read p q (pure {X = Cause} w) (λ k. refl) h

place_touches : (s : Site) (cells : Cells) (line : ℕ) (path : List PathStep) (p : Designator) (o : Option ℕ)
    → designated_place s cells p ≡ o → Touching s cells (read_place s cells p.name o) (access (scope_at s) line path Read p)
place_touches s cells line path p None h v e = cc
place_touches s cells line path p (Some q) h v e = cell_touches s cells line path p q (content cells q) h v e

mutual
  pub value_touches : (a : Expression) (s : Site) (cells : Cells) (line : ℕ) (path : List PathStep) → Touching s cells (value_of a s cells) (reads (scope_at s) line path a)
  value_touches (literal n kind) s cells line path = λ v e k. refl
  value_touches (get x ss) s cells line path =
      let p : Designator = record { name = x; subscripts = ss } in
      then_touching s cells (values_of ss s cells) (read s cells x) (reads_all (scope_at s) line path ss) (access (scope_at s) line path Read p) (values_touch ss s cells line path)
      (λ vs h. place_touches s cells line path p (place_of s x (whole_numbers vs)) (found_place s cells p vs (place_of s x (whole_numbers vs)) h refl))
  value_touches (minus a) s cells line path = then_quiet s cells (value_of a s cells) _ (reads (scope_at s) line path a) (value_touches a s cells line path) (λ v k. refl)
  value_touches (binary op a b) s cells line path =
      then_touching s cells (value_of a s cells) _ (reads (scope_at s) line path a) (reads (scope_at s) line path b) (value_touches a s cells line path)
      (λ v h. then_quiet s cells (value_of b s cells) _ (reads (scope_at s) line path b) (value_touches b s cells line path) (λ w k. refl))
  value_touches (power a n) s cells line path = then_quiet s cells (value_of a s cells) _ (reads (scope_at s) line path a) (value_touches a s cells line path) (λ v k. refl)
  value_touches (call f ss) s cells line path = then_quiet s cells (values_of ss s cells) _ (reads_all (scope_at s) line path ss) (values_touch ss s cells line path) (λ vs k. refl)

  values_touch : (ss : Expressions) (s : Site) (cells : Cells) (line : ℕ) (path : List PathStep) → Touching s cells (values_of ss s cells) (reads_all (scope_at s) line path ss)
  values_touch no_expressions s cells line path = λ vs e k. refl
  values_touch (expression a ss) s cells line path =
      then_touching s cells (value_of a s cells) _ (reads (scope_at s) line path a) (reads_all (scope_at s) line path ss) (value_touches a s cells line path)
      (λ v h. then_quiet s cells (values_of ss s cells) _ (reads_all (scope_at s) line path ss) (values_touch ss s cells line path) (λ vs k. refl))

pub condition_touches : (a : Condition) (s : Site) (cells : Cells) (line : ℕ) (path : List PathStep) → Touching s cells (holds a s cells) (condition_reads (scope_at s) line path a)
condition_touches (relation op a b) s cells line path =
    then_touching s cells (value_of a s cells) _ (reads (scope_at s) line path a) (reads (scope_at s) line path b) (value_touches a s cells line path)
    (λ v h. then_quiet s cells (value_of b s cells) _ (reads (scope_at s) line path b) (value_touches b s cells line path) (λ w k. refl))
condition_touches (negation a) s cells line path = then_quiet s cells (holds a s cells) _ (condition_reads (scope_at s) line path a) (condition_touches a s cells line path) (λ p k. refl)
condition_touches (conjunction a b) s cells line path =
    then_touching s cells (holds a s cells) _ (condition_reads (scope_at s) line path a) (condition_reads (scope_at s) line path b) (condition_touches a s cells line path)
    (λ p h. then_quiet s cells (holds b s cells) _ (condition_reads (scope_at s) line path b) (condition_touches b s cells line path) (λ q k. refl))
condition_touches (disjunction a b) s cells line path =
    then_touching s cells (holds a s cells) _ (condition_reads (scope_at s) line path a) (condition_reads (scope_at s) line path b) (condition_touches a s cells line path)
    (λ p h. then_quiet s cells (holds b s cells) _ (condition_reads (scope_at s) line path b) (condition_touches b s cells line path) (λ q k. refl))

-- ---- assignments

saving_quiet : {X A : Type 0} (s : Site) (x : List ℕ) (old : Option Value) (t : Traced X A) → IsUntouched t.log → IsUntouched (after_push s x old t).log
saving_quiet s x old t h k = by_test (s.pushed x)
  where
    by_test : (b : Bool) → touches_in k (if b then after (single (pushes (with_tangent 0 old))) t else t).log ≡ []
    by_test true = h k
    by_test false = h k

put_touches : (s : Site) (cells : Cells) (line : ℕ) (path : List PathStep) (p : Designator) (v : Value) (o : Option ℕ)
    → designated_place s cells p ≡ o → Touching s cells (put s cells p.name v o) (access (scope_at s) line path Write p)
put_touches s cells line path p v None h d e = cc
put_touches s cells line path p v (Some q) h d e =
    let t : Traced Cause Cells = store_at cells q (as_kind (kind_of s p.name) v) in
    touching_touches s cells line path Write p q (after_push s p.name (content cells q) t) (saving_quiet s p.name (content cells q) t (λ k. refl)) h

plain_touches : (s : Site) (cells : Cells) (line : ℕ) (path : List PathStep) (p : Designator) (a : Expression)
    → Touching s cells (plain_assignment s cells p a) (reads (scope_at s) line path a ++ (reads_all (scope_at s) line path p.subscripts ++ access (scope_at s) line path Write p))
plain_touches s cells line path p a =
    then_touching s cells (inside (right_side p.name) (value_of a s cells)) _ (reads (scope_at s) line path a) _ (value_touches a s cells line path)
    (λ v h. then_touching s cells (values_of p.subscripts s cells) _ (reads_all (scope_at s) line path p.subscripts) (access (scope_at s) line path Write p) (values_touch p.subscripts s cells line path)
    (λ vs g. put_touches s cells line path p v (place_of s p.name (whole_numbers vs)) (found_place s cells p vs (place_of s p.name (whole_numbers vs)) g refl)))

pub terms_touch : (rs : List Signed) (s : Site) (cells : Cells) (line : ℕ) (path : List PathStep) → Touching s cells (terms_of rs s cells) (term_reads (scope_at s) line path rs)
terms_touch [] s cells line path = λ ds e k. refl
terms_touch (r ∷ rs) s cells line path =
    then_touching s cells (value_of r.1 s cells) _ (reads (scope_at s) line path r.1) (term_reads (scope_at s) line path rs) (value_touches r.1 s cells line path)
    (λ v h. then_quiet s cells (terms_of rs s cells) _ (term_reads (scope_at s) line path rs) (terms_touch rs s cells line path) (λ ds k. refl))

grow_cell_touches : (s : Site) (cells : Cells) (line : ℕ) (path : List PathStep) (p : Designator) (kind : AccessKind) (ds : List (Bool × Dual)) (q : ℕ) (c : Option Value)
    → designated_place s cells p ≡ Some q → Touching s cells (increment_cell s cells p.name kind ds q c) (access (scope_at s) line path kind p)
grow_cell_touches s cells line path p kind ds q None h d e = cc
grow_cell_touches s cells line path p kind ds q (Some v) h d e = touching_touches s cells line path kind p q (store_at cells q (Ring (incremented_dual ds (as_dual v)))) (λ k. refl) h

grow_touches : (s : Site) (cells : Cells) (line : ℕ) (path : List PathStep) (p : Designator) (kind : AccessKind) (ds : List (Bool × Dual)) (o : Option ℕ)
    → designated_place s cells p ≡ o → Touching s cells (increment_place s cells p.name kind ds o) (access (scope_at s) line path kind p)
grow_touches s cells line path p kind ds None h d e = cc
grow_touches s cells line path p kind ds (Some q) h d e = grow_cell_touches s cells line path p kind ds q (content cells q) h d e

increment_touches : (s : Site) (cells : Cells) (line : ℕ) (path : List PathStep) (p : Designator) (rs : List Signed) (kind : AccessKind)
    → Touching s cells (increment s cells p rs kind) (term_reads (scope_at s) line path rs ++ (reads_all (scope_at s) line path p.subscripts ++ access (scope_at s) line path kind p))
increment_touches s cells line path p rs kind =
    then_touching s cells (inside (right_side p.name) (terms_of rs s cells)) _ (term_reads (scope_at s) line path rs) _ (terms_touch rs s cells line path)
    (λ ds h. then_touching s cells (values_of p.subscripts s cells) _ (reads_all (scope_at s) line path p.subscripts) (access (scope_at s) line path kind p) (values_touch p.subscripts s cells line path)
    (λ vs g. grow_touches s cells line path p kind ds (place_of s p.name (whole_numbers vs)) (found_place s cells p vs (place_of s p.name (whole_numbers vs)) g refl)))

pub assigned_touches : (s : Site) (cells : Cells) (line : ℕ) (path : List PathStep) (atomic : Bool) (p : Designator) (a : Expression) (o : Option (List Signed))
    → Touching s cells (assignment_by s cells atomic p a o) (assignment_accesses (scope_at s) line path atomic p a o)
assigned_touches s cells line path atomic p a None = plain_touches s cells line path p a
assigned_touches s cells line path atomic p a (Some rs) = increment_touches s cells line path p rs (increment_kind atomic (s.pluses p.name))

line_by_touches : {A : Type 0} (s : Site) (cells : Cells) (line : ℕ) (l : Log) (r : Result A Cause) (os : List Occurrence) → ((a : A) → r ≡ Ok a → AreTouches s cells l os) → Touching s cells (at_line_by line l r) os
line_by_touches s cells line l (Ok a) os h b e = h a refl
line_by_touches s cells line l (Err c) os h b e = cc

pub line_touches : {A : Type 0} (s : Site) (cells : Cells) (line : ℕ) (t : Traced Cause A) (os : List Occurrence) → Touching s cells t os → Touching s cells (at_line line t) os
line_touches s cells line t os h = line_by_touches s cells line t.log t.out os h

-- ---- bounds

by_turns_quiet : (x y z : ℤ) → IsUntouched (turns_by x y z).log
by_turns_quiet x y z k = by_test (int_eq z (pos 0))
  where
    some_turns : IterationCount
    some_turns = record { first = x; last = y; step = z; count = clipped (int_div ((y -ℤ x) +ℤ z) z) }

    by_test : (b : Bool) → touches_in k (if b then lift {X = Cause} {A = IterationCount} (Err ZeroDivisor) else pure some_turns).log ≡ []
    by_test true = refl
    by_test false = refl

step_touches : (o : Option Expression) (s : Site) (cells : Cells) (line : ℕ) (path : List PathStep) → Touching s cells (step_value o s cells) (step_reads (scope_at s) line path o)
step_touches None s cells line path = λ v e k. refl
step_touches (Some a) s cells line path = value_touches a s cells line path

pub turns_touch : (first last : Expression) (step : Option Expression) (s : Site) (cells : Cells) (line : ℕ) (path : List PathStep)
    → Touching s cells (turns_of first last step s cells) (reads (scope_at s) line path first ++ (reads (scope_at s) line path last ++ step_reads (scope_at s) line path step))
turns_touch first last step s cells line path =
    then_touching s cells (value_of first s cells) _ (reads (scope_at s) line path first) _ (value_touches first s cells line path)
    (λ v h. then_touching s cells (value_of last s cells) _ (reads (scope_at s) line path last) (step_reads (scope_at s) line path step) (value_touches last s cells line path)
    (λ w g. then_quiet s cells (step_value step s cells) _ (step_reads (scope_at s) line path step) (step_touches step s cells line path) (λ u. by_turns_quiet (whole_number v) (whole_number w) (whole_number u))))

pub touches_are_accesses : (s : Site) (cells : Cells) (line : ℕ) (path : List PathStep) → GroupTouches s cells line path
touches_are_accesses s cells line path = record {
  of_assignment = λ atomic p a number d e. line_touches s cells line (assignment_by s cells atomic p a (increment_terms s.ring p a)) _ (assigned_touches s cells line path atomic p a (increment_terms s.ring p a)) d e;
  of_condition = λ c b e. condition_touches c s cells line path b e;
  of_bounds = λ first last step t e. turns_touch first last step s cells line path t e;
}

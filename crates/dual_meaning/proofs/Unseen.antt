-- Evaluations, and stores, are no statement instances and no traps: nothing is seen of what they tell.
use Rattle.std.specs.Prelude.{◌≡◌, ℕ, ℤ, pos, ◌+ℤ◌, ◌-ℤ◌, int_div, Bool, true, false, ◌&&◌, if◌then◌else◌, List, [], ◌∷◌, Option, Some, None, Result, Ok, Err, refl}
use Rattle.std.proofs.Common.{ap, ◌∙◌}
use Rattle.std.specs.Ordering.{int_eq}
use Rattle.store_core.specs.Bounds.{clipped}
use Rattle.fl_ast.specs.Tree.{Expression, literal, get, minus, binary, power, call, Expressions, no_expressions, expression, Condition, relation, negation, conjunction, disjunction, Designator, Statements}
use Rattle.fl_types.specs.declared.access.AccessKind.{AccessKind}
use Rattle.fl_types.specs.declared.access.AccessKind.TheVariants.{Read, Write}
use Rattle.fl_types.specs.Increment.{Signed}
use Rattle.fl_types.specs.Sharing.{assigns_in}
use Rattle.fl_types.specs.Accesses.{increment_kind}
use Rattle.meaning.specs.declared.value.Dual.{Dual}
use Rattle.meaning.specs.declared.value.Value.{Value}
use Rattle.meaning.specs.declared.value.Value.TheVariants.{Ring}
use Rattle.meaning.specs.declared.value.Cause.{Cause}
use Rattle.meaning.specs.declared.value.Cause.TheVariants.{ZeroDivisor}
use Rattle.meaning.specs.declared.value.IterationCount.{IterationCount}
use Rattle.meaning.specs.Values.{whole_number, whole_numbers, as_dual, as_kind}
use Rattle.meaning.specs.Logs.{Log, silence, single, touched, both, pushes, right_side, Traced, pure, lift, after, continuation, ◌>>=◌, inside}
use Rattle.meaning.specs.Sites.{Cells, with_tangent, Site, place_of, kind_of}
use Rattle.meaning.specs.Expressions.{after_touch, content, read_cell, read_place, read, value_of, values_of, holds}
use Rattle.meaning.specs.Statements.{store_at, after_push, put, plain_assignment, terms_of, incremented_dual, increment_cell, increment_place, increment, assignment_by, turns_by, step_value, turns_of, content_at, set_log_at, unset_log, private_words, Heads, loop_words, words_of_all}
use Rattle.dual_meaning.specs.Counted.{Counted, followed, seen}

-- nothing is seen of the log
abbrev pub IsUnseen : Log → Type 0
IsUnseen l = (n : ℕ) → seen l n ≡ (Ok tt, n)

abbrev pub Unseen : {X A : Type 0} → Traced X A → Type 0
Unseen t = IsUnseen t.log

pub both_unseen : (l m : Log) → IsUnseen l → IsUnseen m → IsUnseen (both l m)
both_unseen l m h g n = ap (λ (t : Counted (Unit {0})). followed t (λ u k. seen m k)) (h n) ∙ g n

joined_unseen : {X A B : Type 0} (l : Log) (r : Result A X) (f : A → Traced X B) → IsUnseen l → ((a : A) → Unseen (f a)) → Unseen (continuation l r f)
joined_unseen l (Ok a) f h g = both_unseen l (f a).log h (g a)
joined_unseen l (Err x) f h g = h

pub then_unseen : {X A B : Type 0} (t : Traced X A) (f : A → Traced X B) → Unseen t → ((a : A) → Unseen (f a)) → Unseen (t >>= f)
then_unseen t f h g = joined_unseen t.log t.out f h g

touching_unseen : {X A : Type 0} (s : Site) (x : List ℕ) (p : ℕ) (k : AccessKind) (t : Traced X A) → Unseen t → Unseen (after_touch s x p k t)
touching_unseen s x p k t h = by_test (s.accessed x)
  where
    by_test : (b : Bool) → Unseen (if b then after (touched p k) t else t)
    by_test true n = h n
    by_test false n = h n

cell_unseen : (s : Site) (x : List ℕ) (p : ℕ) (v : Option Value) → Unseen (read_cell s x p v)
cell_unseen s x p None n = refl
cell_unseen s x p (Some v) n = touching_unseen {X = Cause} s x p Read (pure v) (λ m. refl) n

place_unseen : (s : Site) (cells : Cells) (x : List ℕ) (o : Option ℕ) → Unseen (read_place s cells x o)
place_unseen s cells x None n = refl
place_unseen s cells x (Some p) n = cell_unseen s x p (content cells p) n

mutual
  pub value_unseen : (a : Expression) (s : Site) (cells : Cells) → Unseen (value_of a s cells)
  value_unseen (literal n k) s cells m = refl
  value_unseen (get x ss) s cells m = then_unseen (values_of ss s cells) (read s cells x) (values_unseen ss s cells) (λ vs. place_unseen s cells x (place_of s x (whole_numbers vs))) m
  value_unseen (minus a) s cells m = then_unseen (value_of a s cells) _ (value_unseen a s cells) (λ v k. refl) m
  value_unseen (binary o a b) s cells m =
      then_unseen (value_of a s cells) _ (value_unseen a s cells) (λ v. then_unseen (value_of b s cells) _ (value_unseen b s cells) (λ w k. refl)) m
  value_unseen (power a n) s cells m = then_unseen (value_of a s cells) _ (value_unseen a s cells) (λ v k. refl) m
  value_unseen (call f ss) s cells m = then_unseen (values_of ss s cells) _ (values_unseen ss s cells) (λ vs k. refl) m

  pub values_unseen : (ss : Expressions) (s : Site) (cells : Cells) → Unseen (values_of ss s cells)
  values_unseen no_expressions s cells m = refl
  values_unseen (expression a ss) s cells m =
      then_unseen (value_of a s cells) _ (value_unseen a s cells) (λ v. then_unseen (values_of ss s cells) _ (values_unseen ss s cells) (λ vs k. refl)) m

pub holds_unseen : (a : Condition) (s : Site) (cells : Cells) → Unseen (holds a s cells)
holds_unseen (relation o a b) s cells m =
    then_unseen (value_of a s cells) _ (value_unseen a s cells) (λ v. then_unseen (value_of b s cells) _ (value_unseen b s cells) (λ w k. refl)) m
holds_unseen (negation a) s cells m = then_unseen (holds a s cells) _ (holds_unseen a s cells) (λ p k. refl) m
holds_unseen (conjunction a b) s cells m =
    then_unseen (holds a s cells) _ (holds_unseen a s cells) (λ p. then_unseen (holds b s cells) _ (holds_unseen b s cells) (λ q k. refl)) m
holds_unseen (disjunction a b) s cells m =
    then_unseen (holds a s cells) _ (holds_unseen a s cells) (λ p. then_unseen (holds b s cells) _ (holds_unseen b s cells) (λ q k. refl)) m

terms_unseen : (rs : List Signed) (s : Site) (cells : Cells) → Unseen (terms_of rs s cells)
terms_unseen [] s cells m = refl
terms_unseen (r ∷ rs) s cells m =
    then_unseen (value_of r.1 s cells) _ (value_unseen r.1 s cells) (λ v. then_unseen (terms_of rs s cells) _ (terms_unseen rs s cells) (λ ds k. refl)) m

by_turns_unseen : (x y z : ℤ) → Unseen (turns_by x y z)
by_turns_unseen x y z = by_test (int_eq z (pos 0))
  where
    some_turns : IterationCount
    some_turns = record { first = x; last = y; step = z; count = clipped (int_div ((y -ℤ x) +ℤ z) z) }

    by_test : (b : Bool) → Unseen (if b then lift {X = Cause} {A = IterationCount} (Err ZeroDivisor) else pure some_turns)
    by_test true m = refl
    by_test false m = refl

step_unseen : (o : Option Expression) (s : Site) (cells : Cells) → Unseen (step_value o s cells)
step_unseen None s cells m = refl
step_unseen (Some a) s cells m = value_unseen a s cells m

pub turns_of_unseen : (first last : Expression) (step : Option Expression) (s : Site) (cells : Cells) → Unseen (turns_of first last step s cells)
turns_of_unseen first last step s cells m =
    then_unseen (value_of first s cells) _ (value_unseen first s cells)
    (λ v. then_unseen (value_of last s cells) _ (value_unseen last s cells)
    (λ w. then_unseen (step_value step s cells) _ (step_unseen step s cells) (λ u. by_turns_unseen (whole_number v) (whole_number w) (whole_number u)))) m

-- ---- assignments

saving_unseen : {X A : Type 0} (s : Site) (x : List ℕ) (old : Option Value) (t : Traced X A) → Unseen t → Unseen (after_push s x old t)
saving_unseen s x old t h = by_test (s.pushed x)
  where
    by_test : (b : Bool) → Unseen (if b then after (single (pushes (with_tangent 0 old))) t else t)
    by_test true n = h n
    by_test false n = h n

store_unseen : (cells : Cells) (p : ℕ) (v : Value) → Unseen (store_at cells p v)
store_unseen cells p v n = refl

put_unseen : (s : Site) (cells : Cells) (x : List ℕ) (v : Value) (o : Option ℕ) → Unseen (put s cells x v o)
put_unseen s cells x v None n = refl
put_unseen s cells x v (Some p) n =
    let t : Traced Cause Cells = store_at cells p (as_kind (kind_of s x) v) in
    touching_unseen s x p Write (after_push s x (content cells p) t) (saving_unseen s x (content cells p) t (store_unseen cells p (as_kind (kind_of s x) v))) n

inside_unseen : {A : Type 0} (x : List ℕ) (t : Traced Cause A) → Unseen t → Unseen (inside (right_side x) t)
inside_unseen x t h n = h n

plain_unseen : (s : Site) (cells : Cells) (p : Designator) (e : Expression) → Unseen (plain_assignment s cells p e)
plain_unseen s cells p e =
    then_unseen (inside (right_side p.name) (value_of e s cells)) _ (inside_unseen p.name (value_of e s cells) (value_unseen e s cells))
    (λ v. then_unseen (values_of p.subscripts s cells) _ (values_unseen p.subscripts s cells) (λ vs. put_unseen s cells p.name v (place_of s p.name (whole_numbers vs))))

grow_cell_unseen : (s : Site) (cells : Cells) (x : List ℕ) (kind : AccessKind) (ds : List (Bool × Dual)) (p : ℕ) (o : Option Value) → Unseen (increment_cell s cells x kind ds p o)
grow_cell_unseen s cells x kind ds p None n = refl
grow_cell_unseen s cells x kind ds p (Some v) n =
    touching_unseen s x p kind (store_at cells p (Ring (incremented_dual ds (as_dual v)))) (store_unseen cells p (Ring (incremented_dual ds (as_dual v)))) n

grow_unseen : (s : Site) (cells : Cells) (x : List ℕ) (kind : AccessKind) (ds : List (Bool × Dual)) (o : Option ℕ) → Unseen (increment_place s cells x kind ds o)
grow_unseen s cells x kind ds None n = refl
grow_unseen s cells x kind ds (Some p) n = grow_cell_unseen s cells x kind ds p (content cells p) n

increment_unseen : (s : Site) (cells : Cells) (p : Designator) (rs : List Signed) (kind : AccessKind) → Unseen (increment s cells p rs kind)
increment_unseen s cells p rs kind =
    then_unseen (inside (right_side p.name) (terms_of rs s cells)) _ (inside_unseen p.name (terms_of rs s cells) (terms_unseen rs s cells))
    (λ ds. then_unseen (values_of p.subscripts s cells) _ (values_unseen p.subscripts s cells) (λ vs. grow_unseen s cells p.name kind ds (place_of s p.name (whole_numbers vs))))

pub assigned_unseen : (s : Site) (cells : Cells) (atomic : Bool) (p : Designator) (e : Expression) (o : Option (List Signed)) → Unseen (assignment_by s cells atomic p e o)
assigned_unseen s cells atomic p e None = plain_unseen s cells p e
assigned_unseen s cells atomic p e (Some rs) = increment_unseen s cells p rs (increment_kind atomic (s.pluses p.name))

-- ---- what loops tell of their variables, private names and words

pub set_unseen : (o : Option ℕ) (v : Option Value) → IsUnseen (set_log_at o v)
set_unseen None v n = refl
set_unseen (Some p) v n = refl

pub unset_unseen : (s : Site) (xs : List (List ℕ)) → IsUnseen (unset_log s xs)
unset_unseen s [] n = refl
unset_unseen s (x ∷ xs) n = both_unseen (set_log_at (place_of s x []) None) (unset_log s xs) (set_unseen (place_of s x []) None) (unset_unseen s xs) n

pub private_words_unseen : (s : Site) (body : Statements) (xs : List (List ℕ)) (cells : Cells) → IsUnseen (private_words s body xs cells)
private_words_unseen s body [] cells n = refl
private_words_unseen s body (x ∷ xs) cells n =
    both_unseen (if assigns_in x body && s.pushed x then single (pushes (with_tangent 0 (content_at cells (place_of s x [])))) else silence) (private_words s body xs cells)
    (by_test (assigns_in x body && s.pushed x)) (private_words_unseen s body xs cells) n
  where
    by_test : (b : Bool) → IsUnseen (if b then single (pushes (with_tangent 0 (content_at cells (place_of s x [])))) else silence)
    by_test true m = refl
    by_test false m = refl

pub words_unseen : (t : IterationCount) → IsUnseen (loop_words t)
words_unseen t n = refl

pub all_words_unseen : (hs : Heads) → IsUnseen (words_of_all hs)
all_words_unseen [] n = refl
all_words_unseen (x ∷ hs) n = all_words_unseen hs n

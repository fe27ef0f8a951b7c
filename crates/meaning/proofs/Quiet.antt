-- Logs without stores and traps: what evaluations tell.
use Rattle.std.specs.Prelude.{ℕ, ℤ, pos, ◌+ℤ◌, ◌-ℤ◌, int_div, Bool, true, false, ◌&&◌, if◌then◌else◌, List, [], ◌∷◌, Option, Some, None, Result, Ok, Err}
use Rattle.std.specs.Ordering.{int_eq}
use Rattle.store_core.specs.Bounds.{clipped}
use Rattle.fl_ast.specs.Tree.{Expression, literal, get, minus, binary, power, call, Expressions, no_expressions, expression, Condition, relation, negation, conjunction, disjunction, Statements}
use Rattle.fl_types.specs.declared.access.AccessKind.{AccessKind}
use Rattle.fl_types.specs.declared.access.AccessKind.TheVariants.{Read}
use Rattle.fl_types.specs.Increment.{Signed}
use Rattle.fl_types.specs.Sharing.{assigns_in}
use Rattle.meaning.specs.declared.value.Value.{Value}
use Rattle.meaning.specs.declared.value.Cause.{Cause}
use Rattle.meaning.specs.declared.value.Cause.TheVariants.{ZeroDivisor}
use Rattle.meaning.specs.declared.value.IterationCount.{IterationCount}
use Rattle.meaning.specs.Values.{whole_number, whole_numbers}
use Rattle.meaning.specs.Logs.{Log, silence, single, touched, sets, both, within, begins, touches, pushes, ends, traps, Traced, pure, lift, after, continuation, ◌>>=◌}
use Rattle.meaning.specs.Sites.{Cells, with_tangent, Site, place_of}
use Rattle.meaning.specs.Expressions.{after_touch, content, read_cell, read_place, read, value_of, values_of, holds}
use Rattle.meaning.specs.Statements.{terms_of, turns_by, step_value, turns_of, content_at, private_words, Heads, words_of_all}

-- nothing is stored, and nothing traps
abbrev pub IsQuiet : Log → Type 0
IsQuiet silence = Unit {0}
IsQuiet (single begins) = Unit {0}
IsQuiet (single (touches t)) = Unit {0}
IsQuiet (single (pushes v)) = Unit {0}
IsQuiet (single (ends line)) = Unit {0}
IsQuiet (single (traps t)) = ⊥
IsQuiet (touched p kind) = Unit {0}
IsQuiet (sets p v) = ⊥
IsQuiet (both l m) = IsQuiet l × IsQuiet m
IsQuiet (within p l) = IsQuiet l

abbrev pub Quiet : {X A : Type 0} → Traced X A → Type 0
Quiet t = IsQuiet t.log

joined_quiet : {X A B : Type 0} (l : Log) (r : Result A X) (f : A → Traced X B) → IsQuiet l → ((a : A) → Quiet (f a)) → Quiet (continuation l r f)
joined_quiet l (Ok a) f h g = (h, g a)
joined_quiet l (Err x) f h g = h

pub then_quiet : {X A B : Type 0} (t : Traced X A) (f : A → Traced X B) → Quiet t → ((a : A) → Quiet (f a)) → Quiet (t >>= f)
then_quiet t f h g = joined_quiet t.log t.out f h g

touching_quiet : {X A : Type 0} (s : Site) (x : List ℕ) (p : ℕ) (k : AccessKind) (t : Traced X A) → Quiet t → Quiet (after_touch s x p k t)
touching_quiet s x p k t h = by_test (s.accessed x)
  where
    by_test : (b : Bool) → Quiet (if b then after (touched p k) t else t)
    by_test true = (tt, h)
    by_test false = h

cell_quiet : (s : Site) (x : List ℕ) (p : ℕ) (v : Option Value) → Quiet (read_cell s x p v)
cell_quiet s x p None = tt
cell_quiet s x p (Some v) = touching_quiet {X = Cause} s x p Read (pure v) tt

place_quiet : (s : Site) (cells : Cells) (x : List ℕ) (o : Option ℕ) → Quiet (read_place s cells x o)
place_quiet s cells x None = tt
place_quiet s cells x (Some p) = cell_quiet s x p (content cells p)

mutual
  pub value_quiet : (a : Expression) (s : Site) (cells : Cells) → Quiet (value_of a s cells)
  value_quiet (literal n k) s cells = tt
  value_quiet (get x ss) s cells = then_quiet (values_of ss s cells) (read s cells x) (values_quiet ss s cells) (λ vs. place_quiet s cells x (place_of s x (whole_numbers vs)))
  value_quiet (minus a) s cells = then_quiet (value_of a s cells) _ (value_quiet a s cells) (λ v. tt)
  value_quiet (binary o a b) s cells =
      then_quiet (value_of a s cells) _ (value_quiet a s cells) (λ v. then_quiet (value_of b s cells) _ (value_quiet b s cells) (λ w. tt))
  value_quiet (power a n) s cells = then_quiet (value_of a s cells) _ (value_quiet a s cells) (λ v. tt)
  value_quiet (call f ss) s cells = then_quiet (values_of ss s cells) _ (values_quiet ss s cells) (λ vs. tt)

  pub values_quiet : (ss : Expressions) (s : Site) (cells : Cells) → Quiet (values_of ss s cells)
  values_quiet no_expressions s cells = tt
  values_quiet (expression a ss) s cells =
      then_quiet (value_of a s cells) _ (value_quiet a s cells) (λ v. then_quiet (values_of ss s cells) _ (values_quiet ss s cells) (λ vs. tt))

pub holds_quiet : (a : Condition) (s : Site) (cells : Cells) → Quiet (holds a s cells)
holds_quiet (relation o a b) s cells =
    then_quiet (value_of a s cells) _ (value_quiet a s cells) (λ v. then_quiet (value_of b s cells) _ (value_quiet b s cells) (λ w. tt))
holds_quiet (negation a) s cells = then_quiet (holds a s cells) _ (holds_quiet a s cells) (λ p. tt)
holds_quiet (conjunction a b) s cells = then_quiet (holds a s cells) _ (holds_quiet a s cells) (λ p. then_quiet (holds b s cells) _ (holds_quiet b s cells) (λ q. tt))
holds_quiet (disjunction a b) s cells = then_quiet (holds a s cells) _ (holds_quiet a s cells) (λ p. then_quiet (holds b s cells) _ (holds_quiet b s cells) (λ q. tt))

pub terms_quiet : (rs : List Signed) (s : Site) (cells : Cells) → Quiet (terms_of rs s cells)
terms_quiet [] s cells = tt
terms_quiet (r ∷ rs) s cells =
    then_quiet (value_of r.1 s cells) _ (value_quiet r.1 s cells) (λ v. then_quiet (terms_of rs s cells) _ (terms_quiet rs s cells) (λ ds. tt))

by_turns_quiet : (x y z : ℤ) → Quiet (turns_by x y z)
by_turns_quiet x y z = by_test (int_eq z (pos 0))
  where
    some_turns : IterationCount
    some_turns = record { first = x; last = y; step = z; count = clipped (int_div ((y -ℤ x) +ℤ z) z) }

    by_test : (b : Bool) → Quiet (if b then lift {X = Cause} {A = IterationCount} (Err ZeroDivisor) else pure some_turns)
    by_test true = tt
    by_test false = tt

step_quiet : (o : Option Expression) (s : Site) (cells : Cells) → Quiet (step_value o s cells)
step_quiet None s cells = tt
step_quiet (Some a) s cells = value_quiet a s cells

pub turns_of_quiet : (first last : Expression) (step : Option Expression) (s : Site) (cells : Cells) → Quiet (turns_of first last step s cells)
turns_of_quiet first last step s cells =
    then_quiet (value_of first s cells) _ (value_quiet first s cells)
    (λ v. then_quiet (value_of last s cells) _ (value_quiet last s cells)
    (λ w. then_quiet (step_value step s cells) _ (step_quiet step s cells) (λ u. by_turns_quiet (whole_number v) (whole_number w) (whole_number u))))

-- ---- words

pub private_words_quiet : (s : Site) (body : Statements) (xs : List (List ℕ)) (cells : Cells) → IsQuiet (private_words s body xs cells)
private_words_quiet s body [] cells = tt
private_words_quiet s body (x ∷ xs) cells = (by_test (assigns_in x body && s.pushed x), private_words_quiet s body xs cells)
  where
    by_test : (b : Bool) → IsQuiet (if b then single (pushes (with_tangent 0 (content_at cells (place_of s x [])))) else silence)
    by_test true = tt
    by_test false = tt

pub all_words_quiet : (hs : Heads) → IsQuiet (words_of_all hs)
all_words_quiet [] = tt
all_words_quiet (x ∷ hs) = ((tt, (tt, tt)), all_words_quiet hs)

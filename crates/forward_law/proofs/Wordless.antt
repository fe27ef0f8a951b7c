-- Evaluations put no word on a tape.
use Rattle.std.specs.Prelude.{◌≡◌, ℕ, Bool, true, false, if◌then◌else◌, List, Option, Some, None, Result, Ok, Err, refl}
use Rattle.std.proofs.Common.{ap, ◌∙◌}
use Rattle.fl_ast.specs.Tree.{Expression, literal, get, minus, binary, power, call, Expressions, no_expressions, expression, Designator, Condition, relation, negation, conjunction, disjunction}
use Rattle.fl_types.specs.declared.access.AccessKind.{AccessKind}
use Rattle.fl_types.specs.declared.access.AccessKind.TheVariants.{Read}
use Rattle.meaning.specs.declared.value.Value.{Value}
use Rattle.meaning.specs.declared.value.Cause.{Cause}
use Rattle.meaning.specs.Values.{whole_numbers}
use Rattle.meaning.specs.Logs.{Log, touched, Traced, pure, after, continuation, ◌>>=◌, at_line}
use Rattle.meaning.specs.Sites.{Cells, Site, place_of}
use Rattle.meaning.specs.Expressions.{after_touch, content, read_cell, read_place, read, value_of, values_of, holds}
use Rattle.dual_evaluation.specs.Answers.{location_of}
use Rattle.forward_law.specs.Forward.{TapeView}
use Rattle.forward_law.proofs.Following.{taped}

abbrev IsWordless : Log → Type 0
IsWordless l = (w : TapeView) → taped l w ≡ w

abbrev pub Wordless : {X A : Type 0} → Traced X A → Type 0
Wordless t = (w : TapeView) → taped t.log w ≡ w

joined_wordless : {X A B : Type 0} (l : Log) (r : Result A X) (f : A → Traced X B) → IsWordless l → ((a : A) → Wordless (f a)) → Wordless (continuation l r f)
joined_wordless l (Ok a) f h g = λ w. ap (taped (f a).log) (h w) ∙ g a w
joined_wordless l (Err x) f h g = h

pub then_wordless : {X A B : Type 0} (t : Traced X A) (f : A → Traced X B) → Wordless t → ((a : A) → Wordless (f a)) → Wordless (t >>= f)
then_wordless t f h g = joined_wordless t.log t.out f h g

touching_wordless : {X A : Type 0} (s : Site) (x : List ℕ) (p : ℕ) (k : AccessKind) (t : Traced X A) → Wordless t → Wordless (after_touch s x p k t)
touching_wordless s x p k t h = by_test (s.accessed x)
  where
    by_test : (b : Bool) → Wordless (if b then after (touched p k) t else t)
    by_test true = h
    by_test false = h

cell_wordless : (s : Site) (x : List ℕ) (p : ℕ) (v : Option Value) → Wordless (read_cell s x p v)
cell_wordless s x p None w = refl
cell_wordless s x p (Some v) w = touching_wordless {X = Cause} s x p Read (pure v) (λ w. refl) w

place_wordless : (s : Site) (cells : Cells) (x : List ℕ) (o : Option ℕ) → Wordless (read_place s cells x o)
place_wordless s cells x None w = refl
place_wordless s cells x (Some p) w = cell_wordless s x p (content cells p) w

mutual
  pub value_wordless : (a : Expression) (s : Site) (cells : Cells) → Wordless (value_of a s cells)
  value_wordless (literal n k) s cells = λ w. refl
  value_wordless (get x ss) s cells = then_wordless (values_of ss s cells) (read s cells x) (values_wordless ss s cells) (λ vs. place_wordless s cells x (place_of s x (whole_numbers vs)))
  value_wordless (minus a) s cells = then_wordless (value_of a s cells) _ (value_wordless a s cells) (λ v w. refl)
  value_wordless (binary o a b) s cells =
      then_wordless (value_of a s cells) _ (value_wordless a s cells) (λ v. then_wordless (value_of b s cells) _ (value_wordless b s cells) (λ u w. refl))
  value_wordless (power a n) s cells = then_wordless (value_of a s cells) _ (value_wordless a s cells) (λ v w. refl)
  value_wordless (call f ss) s cells = then_wordless (values_of ss s cells) _ (values_wordless ss s cells) (λ vs w. refl)

  pub values_wordless : (ss : Expressions) (s : Site) (cells : Cells) → Wordless (values_of ss s cells)
  values_wordless no_expressions s cells = λ w. refl
  values_wordless (expression a ss) s cells =
      then_wordless (value_of a s cells) _ (value_wordless a s cells) (λ v. then_wordless (values_of ss s cells) _ (values_wordless ss s cells) (λ vs w. refl))

pub holds_wordless : (a : Condition) (s : Site) (cells : Cells) → Wordless (holds a s cells)
holds_wordless (relation o a b) s cells =
    then_wordless (value_of a s cells) _ (value_wordless a s cells) (λ v. then_wordless (value_of b s cells) _ (value_wordless b s cells) (λ u w. refl))
holds_wordless (negation a) s cells = then_wordless (holds a s cells) _ (holds_wordless a s cells) (λ p w. refl)
holds_wordless (conjunction a b) s cells = then_wordless (holds a s cells) _ (holds_wordless a s cells) (λ p. then_wordless (holds b s cells) _ (holds_wordless b s cells) (λ q w. refl))
holds_wordless (disjunction a b) s cells = then_wordless (holds a s cells) _ (holds_wordless a s cells) (λ p. then_wordless (holds b s cells) _ (holds_wordless b s cells) (λ q w. refl))

pub location_wordless : (p : Designator) (s : Site) (cells : Cells) → Wordless (location_of s cells p)
location_wordless p s cells = then_wordless (values_of p.subscripts s cells) _ (values_wordless p.subscripts s cells) (λ vs w. refl)

lined_by : {A : Type 0} (line : ℕ) (l : Log) (r : Result A Cause) → IsWordless l → Wordless (at_line line (record { log = l; out = r }))
lined_by line l (Ok a) h = h
lined_by line l (Err x) h = h

pub lined_wordless : {A : Type 0} (line : ℕ) (t : Traced Cause A) → Wordless t → Wordless (at_line line t)
lined_wordless line t h = lined_by line t.log t.out h

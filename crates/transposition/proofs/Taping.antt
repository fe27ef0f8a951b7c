-- Logs of expressions hold touches alone, and so no tape words.
use Rattle.std.proofs.Common.{◌≡◌, ℕ, List, [], ◌∷◌, refl, ap, ◌∙◌, Bool, true, false, not, ◌&&◌, ◌||◌, Option, Some, None, Result, Ok, Err}
use Rattle.fl_ast.specs.Tree.{Expression, literal, get, minus, binary, power, call, Expressions, no_expressions, expression, Condition, relation, negation, conjunction, disjunction}
use Rattle.fl_types.specs.Increment.{Signed}
use Rattle.meaning.specs.declared.value.Value.{Value}
use Rattle.meaning.specs.Values.{binary_result, negation_result, power_result, call_result, relates, whole_numbers, as_dual}
use Rattle.meaning.specs.Logs.{Log, silence, single, touched, sets, both, within, Traced, pure, lift, continuation, ◌>>=◌}
use Rattle.meaning.specs.Sites.{Cells, Site, place_of}
use Rattle.meaning.specs.Expressions.{content, read_cell, read_place, read, value_of, values_of, holds}
use Rattle.meaning.specs.Statements.{terms_of}
use Rattle.transposition.specs.Tapes.{Tape, tape_after}
use Rattle.transposition.proofs.Reading.{seen}

abbrev pub Wordless : Log → Type 0
Wordless l = (t : Tape) → tape_after l t ≡ t

wordless_by : {X A B : Type 0} (l : Log) (o : Result A X) (k : A → Traced X B) → Wordless l → ((a : A) → Wordless (k a).log) → Wordless (continuation l o k).log
wordless_by l (Ok a) k h g t = ap (tape_after (k a).log) (h t) ∙ g a t
wordless_by l (Err x) k h g t = h t

pub wordless_bind : {X A B : Type 0} (r : Traced X A) (k : A → Traced X B) → Wordless r.log → ((a : A) → Wordless (k a).log) → Wordless (r >>= k).log
wordless_bind r k h g = wordless_by r.log r.out k h g

-- ---- touches alone

abbrev pub OnlyTouches : Log → Type 0
OnlyTouches silence = Unit {0}
OnlyTouches (single e) = ⊥
OnlyTouches (touched p kind) = Unit {0}
OnlyTouches (sets p v) = ⊥
OnlyTouches (both a b) = OnlyTouches a × OnlyTouches b
OnlyTouches (within p a) = ⊥

only_wordless : (l : Log) → OnlyTouches l → Wordless l
only_wordless silence h t = refl
only_wordless (single e) h t = absurd h
only_wordless (touched p kind) h t = refl
only_wordless (sets p v) h t = absurd h
only_wordless (both a b) h t = ap (tape_after b) (only_wordless a h.0 t) ∙ only_wordless b h.1 t
only_wordless (within p a) h t = absurd h

only_by : {X A B : Type 0} (l : Log) (o : Result A X) (k : A → Traced X B) → OnlyTouches l → ((a : A) → OnlyTouches (k a).log) → OnlyTouches (continuation l o k).log
only_by l (Ok a) k h g = (h, g a)
only_by l (Err x) k h g = h

only_bind : {X A B : Type 0} (r : Traced X A) (k : A → Traced X B) → OnlyTouches r.log → ((a : A) → OnlyTouches (k a).log) → OnlyTouches (r >>= k).log
only_bind r k h g = only_by r.log r.out k h g

only_read : (site : Site) (s : Cells) (x : List ℕ) (o : Option ℕ) → OnlyTouches (read_place site s x o).log
only_read site s x None = tt
only_read site s x (Some p) = by_content (content s p)
  where
    by_access : (b : Bool) (v : Value) → OnlyTouches (seen b site p v).log
    by_access true v = (tt, tt)
    by_access false v = tt

    by_content : (c : Option Value) → OnlyTouches (read_cell site x p c).log
    by_content None = tt
    by_content (Some v) = by_access (site.accessed x) v

mutual
  pub only_value : (e : Expression) (site : Site) (s : Cells) → OnlyTouches (value_of e site s).log
  only_value (literal n k) site s = tt
  only_value (get x ss) site s = only_bind (values_of ss site s) (read site s x) (only_values ss site s) (λ vs. only_read site s x (place_of site x (whole_numbers vs)))
  only_value (minus a) site s = only_bind (value_of a site s) (λ v. lift (negation_result v)) (only_value a site s) (λ v. tt)
  only_value (binary op a b) site s =
      only_bind (value_of a site s) (λ v. value_of b site s >>= (λ x. lift (binary_result op v x))) (only_value a site s)
      (λ v. only_bind (value_of b site s) (λ x. lift (binary_result op v x)) (only_value b site s) (λ x. tt))
  only_value (power a n) site s = only_bind (value_of a site s) (λ v. lift (power_result v n)) (only_value a site s) (λ v. tt)
  only_value (call f args) site s = only_bind (values_of args site s) (λ vs. lift (call_result site.width f vs)) (only_values args site s) (λ vs. tt)

  pub only_values : (es : Expressions) (site : Site) (s : Cells) → OnlyTouches (values_of es site s).log
  only_values no_expressions site s = tt
  only_values (expression e es) site s =
      only_bind (value_of e site s) (λ v. values_of es site s >>= (λ vs. pure (v ∷ vs))) (only_value e site s)
      (λ v. only_bind (values_of es site s) (λ vs. pure (v ∷ vs)) (only_values es site s) (λ vs. tt))

pub only_holds : (c : Condition) (site : Site) (s : Cells) → OnlyTouches (holds c site s).log
only_holds (relation op a b) site s =
    only_bind (value_of a site s) (λ v. value_of b site s >>= (λ x. pure (relates site.width op v x))) (only_value a site s)
    (λ v. only_bind (value_of b site s) (λ x. pure (relates site.width op v x)) (only_value b site s) (λ x. tt))
only_holds (negation a) site s = only_bind (holds a site s) (λ p. pure (not p)) (only_holds a site s) (λ p. tt)
only_holds (conjunction a b) site s =
    only_bind (holds a site s) (λ p. holds b site s >>= (λ q. pure (p && q))) (only_holds a site s)
    (λ p. only_bind (holds b site s) (λ q. pure (p && q)) (only_holds b site s) (λ q. tt))
only_holds (disjunction a b) site s =
    only_bind (holds a site s) (λ p. holds b site s >>= (λ q. pure (p || q))) (only_holds a site s)
    (λ p. only_bind (holds b site s) (λ q. pure (p || q)) (only_holds b site s) (λ q. tt))

pub only_terms : (rs : List Signed) (site : Site) (s : Cells) → OnlyTouches (terms_of rs site s).log
only_terms [] site s = tt
only_terms (r ∷ rs) site s =
    only_bind (value_of r.1 site s) (λ v. terms_of rs site s >>= (λ ds. pure ((r.0, as_dual v) ∷ ds))) (only_value r.1 site s)
    (λ v. only_bind (terms_of rs site s) (λ ds. pure ((r.0, as_dual v) ∷ ds)) (only_terms rs site s) (λ ds. tt))

pub wordless : (e : Expression) (site : Site) (s : Cells) → Wordless (value_of e site s).log
wordless e site s = only_wordless (value_of e site s).log (only_value e site s)

pub wordless_all : (es : Expressions) (site : Site) (s : Cells) → Wordless (values_of es site s).log
wordless_all es site s = only_wordless (values_of es site s).log (only_values es site s)

pub wordless_holds : (c : Condition) (site : Site) (s : Cells) → Wordless (holds c site s).log
wordless_holds c site s = only_wordless (holds c site s).log (only_holds c site s)

pub wordless_terms : (rs : List Signed) (site : Site) (s : Cells) → Wordless (terms_of rs site s).log
wordless_terms rs site s = only_wordless (terms_of rs site s).log (only_terms rs site s)

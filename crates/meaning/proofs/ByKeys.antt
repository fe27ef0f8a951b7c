-- The worth of expressions and conditions at two sites with the same keys.
use Rattle.std.specs.Prelude.{◌≡◌, ℕ, Bool, true, false, if◌then◌else◌, List, Option, Some, None, Result, Ok, Err, refl}
use Rattle.std.proofs.Common.{ap, subst}
use Rattle.store_core.specs.Keys.{same_key, first_at}
use Rattle.fl_ast.specs.Tree.{Expression, literal, get, minus, binary, power, call, Expressions, no_expressions, expression, Condition, relation, negation, conjunction, disjunction}
use Rattle.fl_types.specs.declared.access.AccessKind.{AccessKind}
use Rattle.fl_types.specs.declared.access.AccessKind.TheVariants.{Read}
use Rattle.meaning.specs.declared.value.Value.{Value}
use Rattle.meaning.specs.declared.value.Cause.{Cause}
use Rattle.meaning.specs.Values.{whole_numbers, call_result, relates}
use Rattle.meaning.specs.Logs.{Log, touched, Traced, pure, after, continuation, ◌>>=◌}
use Rattle.meaning.specs.Sites.{Cells, Site, Key, place_of}
use Rattle.meaning.specs.Expressions.{after_touch, content, read_cell, read_place, read, value_of, values_of, holds}
use Rattle.meaning.specs.Laws.{ValuesGoByKeys}

-- the same value or the same stop
abbrev pub Agree : {X A : Type 0} → Traced X A → Traced X A → Type 0
Agree t u = t.out ≡ u.out

pub joined_agree : {X A B : Type 0} (l m : Log) (r : Result A X) (f g : A → Traced X B) → ((a : A) → Agree (f a) (g a)) → Agree (continuation l r f) (continuation m r g)
joined_agree l m (Ok a) f g h = h a
joined_agree l m (Err x) f g h = refl

pub then_agree : {X A B : Type 0} (t u : Traced X A) (f g : A → Traced X B) → Agree t u → ((a : A) → Agree (f a) (g a)) → Agree (t >>= f) (u >>= g)
then_agree {X} {A} t u f g e h = let P : Result A X → Type 0 = λ r. (t >>= f).out ≡ (continuation u.log r g).out in subst P e (joined_agree t.log u.log t.out f g h)

pub touching_out : {A : Type 0} (s : Site) (x : List ℕ) (p : ℕ) (k : AccessKind) (t : Traced Cause A) → (after_touch s x p k t).out ≡ t.out
touching_out s x p k t = by_test (s.accessed x)
  where
    by_test : (b : Bool) → (if b then after (touched p k) t else t).out ≡ t.out
    by_test true = refl
    by_test false = refl

cell_agree : (s t : Site) (x : List ℕ) (p : ℕ) (v : Option Value) → Agree (read_cell s x p v) (read_cell t x p v)
cell_agree s t x p None = refl
cell_agree s t x p (Some v) = rw (touching_out s x p Read (pure v), touching_out t x p Read (pure v)) refl

place_agree : (s t : Site) (c : Cells) (x : List ℕ) (o : Option ℕ) → Agree (read_place s c x o) (read_place t c x o)
place_agree s t c x None = refl
place_agree s t c x (Some p) = cell_agree s t x p (content c p)

read_agree : (s t : Site) (c : Cells) → s.keys ≡ t.keys → (x : List ℕ) (vs : List Value) → Agree (read s c x vs) (read t c x vs)
read_agree s t c e x vs =
    let P : List Key → Type 0 = λ ks. (read s c x vs).out ≡ (read_place t c x (first_at (same_key (x, whole_numbers vs)) ks)).out in
    subst P e (place_agree s t c x (place_of s x (whole_numbers vs)))

mutual
  pub value_agree : (s t : Site) (c : Cells) → s.keys ≡ t.keys → s.width ≡ t.width → (a : Expression) → Agree (value_of a s c) (value_of a t c)
  value_agree s t c e o (literal n k) = refl
  value_agree s t c e o (get x ss) = then_agree (values_of ss s c) (values_of ss t c) (read s c x) (read t c x) (values_agree s t c e o ss) (λ vs. read_agree s t c e x vs)
  value_agree s t c e o (minus a) = then_agree (value_of a s c) (value_of a t c) _ _ (value_agree s t c e o a) (λ v. refl)
  value_agree s t c e o (binary op a b) =
      then_agree (value_of a s c) (value_of a t c) _ _ (value_agree s t c e o a) (λ v. then_agree (value_of b s c) (value_of b t c) _ _ (value_agree s t c e o b) (λ w. refl))
  value_agree s t c e o (power a n) = then_agree (value_of a s c) (value_of a t c) _ _ (value_agree s t c e o a) (λ v. refl)
  value_agree s t c e o (call f ss) = then_agree (values_of ss s c) (values_of ss t c) _ _ (values_agree s t c e o ss) (λ vs. ap (λ w. call_result w f vs) o)

  pub values_agree : (s t : Site) (c : Cells) → s.keys ≡ t.keys → s.width ≡ t.width → (ss : Expressions) → Agree (values_of ss s c) (values_of ss t c)
  values_agree s t c e o no_expressions = refl
  values_agree s t c e o (expression a ss) =
      then_agree (value_of a s c) (value_of a t c) _ _ (value_agree s t c e o a) (λ v. then_agree (values_of ss s c) (values_of ss t c) _ _ (values_agree s t c e o ss) (λ vs. refl))

pub holds_agree : (s t : Site) (c : Cells) → s.keys ≡ t.keys → s.width ≡ t.width → (a : Condition) → Agree (holds a s c) (holds a t c)
holds_agree s t c e o (relation op a b) =
    then_agree (value_of a s c) (value_of a t c) _ _ (value_agree s t c e o a) (λ v. then_agree (value_of b s c) (value_of b t c) _ _ (value_agree s t c e o b) (λ w. ap (λ k. Ok (relates k op v w)) o))
holds_agree s t c e o (negation a) = then_agree (holds a s c) (holds a t c) _ _ (holds_agree s t c e o a) (λ p. refl)
holds_agree s t c e o (conjunction a b) =
    then_agree (holds a s c) (holds a t c) _ _ (holds_agree s t c e o a) (λ p. then_agree (holds b s c) (holds b t c) _ _ (holds_agree s t c e o b) (λ q. refl))
holds_agree s t c e o (disjunction a b) =
    then_agree (holds a s c) (holds a t c) _ _ (holds_agree s t c e o a) (λ p. then_agree (holds b s c) (holds b t c) _ _ (holds_agree s t c e o b) (λ q. refl))

pub by_keys : ValuesGoByKeys
by_keys = λ s t c e o. (value_agree s t c e o, holds_agree s t c e o)

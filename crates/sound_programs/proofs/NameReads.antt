-- What a tree reads is needed where each of its names is.
use Rattle.std.proofs.Common.{◌≡◌, inl, inr, ℕ, Bool, true, false, if◌then◌else◌, bytes_eq, List, [], ◌∷◌, ◌++◌, Option, Some, None, refl}
use Rattle.std.proofs.lemmas.Bool.{or_from}
use Rattle.fl_ast.specs.declared.kind.BinOp.{BinOp}
use Rattle.fl_ast.specs.declared.kind.BinOp.TheVariants as op
use Rattle.fl_ast.specs.Tree.{Expression, literal, get, minus, binary, power, call, Expressions, no_expressions, expression, Designator, Condition, relation, negation, conjunction, disjunction}
use Rattle.fl_ast.specs.Same.{same_expression}
use Rattle.fl_ast.specs.Occurs.{occurs, occurs_in_any}
use Rattle.fl_types.specs.Increment.{Signed, longer, chain, first_of_sum, are_free_of, if_free, either, target_of, rest_terms, increment_terms}
use Rattle.reachability.specs.Reached.{IsAmong}
use Rattle.activity.specs.Active.{edge_to, flows_to, all_flow_to}
use Rattle.adjoint_rules.specs.Needed.{names_in, names_in_all, names_in_condition, names_in_terms}
use Rattle.transposition.specs.Law.{Use}
use Rattle.transposition.specs.Needs.{Needs, NeedsAll, NeedsCondition, Quiet, QuietAll}
use Rattle.transposition.specs.Sound.{NeedsTerms}
use Rattle.sound_programs.proofs.Lists.{in_left, in_right}

-- ---- reads

mutual
  pub needs_of : (u : Use) (e : Expression) → ((x : List ℕ) → IsAmong (names_in e) x → u.needed x ≡ true) → Needs u e
  needs_of u (literal n k) f = tt
  needs_of u (get x s) f = (f x (inl refl), needs_all u s (λ y h. f y (inr h)))
  needs_of u (minus a) f = needs_of u a f
  needs_of u (binary o a b) f =
      (needs_of u a (λ x h. f x (in_left (names_in a) (names_in b) x h)), needs_of u b (λ x h. f x (in_right (names_in a) (names_in b) x h)))
  needs_of u (power a n) f = needs_of u a f
  needs_of u (call g s) f = needs_all u s f

  pub needs_all : (u : Use) (s : Expressions) → ((x : List ℕ) → IsAmong (names_in_all s) x → u.needed x ≡ true) → NeedsAll u s
  needs_all u no_expressions f = tt
  needs_all u (expression a s) f =
      (needs_of u a (λ x h. f x (in_left (names_in a) (names_in_all s) x h)), needs_all u s (λ x h. f x (in_right (names_in a) (names_in_all s) x h)))

pub needs_condition : (u : Use) (t : Condition) → ((x : List ℕ) → IsAmong (names_in_condition t) x → u.needed x ≡ true) → NeedsCondition u t
needs_condition u (relation o a b) f =
    (needs_of u a (λ x h. f x (in_left (names_in a) (names_in b) x h)), needs_of u b (λ x h. f x (in_right (names_in a) (names_in b) x h)))
needs_condition u (negation a) f = needs_condition u a f
needs_condition u (conjunction a b) f = (
  needs_condition u a (λ x h. f x (in_left (names_in_condition a) (names_in_condition b) x h)),
  needs_condition u b
      (λ x h. f x (in_right (names_in_condition a) (names_in_condition b) x h)),
)
needs_condition u (disjunction a b) f = (
  needs_condition u a (λ x h. f x (in_left (names_in_condition a) (names_in_condition b) x h)),
  needs_condition u b
      (λ x h. f x (in_right (names_in_condition a) (names_in_condition b) x h)),
)

pub needs_terms : (u : Use) (rs : List Signed) → ((x : List ℕ) → IsAmong (names_in_terms rs) x → u.needed x ≡ true) → NeedsTerms u rs
needs_terms u [] f = tt
needs_terms u (r ∷ rs) f = (
  needs_of u r.1 (λ x h. f x (in_left (names_in r.1) (names_in_terms rs) x h)),
  needs_terms u rs
      (λ x h. f x (in_right (names_in r.1) (names_in_terms rs) x h)),
)

-- ---- occurrences of a name

mutual
  pub absent : (y : List ℕ) (e : Expression) → ((x : List ℕ) → IsAmong (names_in e) x → bytes_eq x y ≡ false) → occurs y e ≡ false
  absent y (literal n k) f = refl
  absent y (get x s) f = or_from (bytes_eq x y) (occurs_in_any y s) (f x (inl refl)) (all_absent y s (λ z h. f z (inr h)))
  absent y (minus a) f = absent y a f
  absent y (binary o a b) f = or_from (occurs y a) (occurs y b) (absent y a (λ x h. f x (in_left (names_in a) (names_in b) x h)))
      (absent y b (λ x h. f x (in_right (names_in a) (names_in b) x h)))
  absent y (power a n) f = absent y a f
  absent y (call g s) f = all_absent y s f

  pub all_absent : (y : List ℕ) (s : Expressions) → ((x : List ℕ) → IsAmong (names_in_all s) x → bytes_eq x y ≡ false) → occurs_in_any y s ≡ false
  all_absent y no_expressions f = refl
  all_absent y (expression a s) f =
      or_from (occurs y a) (occurs_in_any y s) (absent y a (λ x h. f x (in_left (names_in a) (names_in_all s) x h)))
      (all_absent y s (λ x h. f x (in_right (names_in a) (names_in_all s) x h)))

-- ---- names without tangents

mutual
  -- y is the target; data flows to it from the names of the ring kind alone
  pub quiet_of : (on ring : List ℕ → Bool) (u : Use) (y : List ℕ) (e : Expression) → ((x : List ℕ) → ring x ≡ false → u.moved x ≡ false)
      → ((x : List ℕ) → IsAmong (names_in e) x → IsAmong (flows_to ring y e) (edge_to y x) → on x ≡ false → u.moved x ≡ false) → Quiet on u e
  quiet_of on ring u y (literal n k) still f = tt
  quiet_of on ring u y (get x s) still f = λ o. by_kind (ring x) refl (λ g. f x (inl refl) g o)
    where
      by_kind : (b : Bool) → ring x ≡ b → (IsAmong (if b then edge_to y x ∷ [] else []) (edge_to y x) → u.moved x ≡ false) → u.moved x ≡ false
      by_kind true r g = g (inl refl)
      by_kind false r g = still x r
  quiet_of on ring u y (minus a) still f = quiet_of on ring u y a still f
  quiet_of on ring u y (binary o a b) still f = (
    quiet_of on ring u y a still (λ x h k. f x (in_left (names_in a) (names_in b) x h)
        (in_left (flows_to ring y a) (flows_to ring y b) (edge_to y x) k)),
    quiet_of on ring u y b still (λ x h k. f x (in_right (names_in a) (names_in b) x h)
        (in_right (flows_to ring y a) (flows_to ring y b) (edge_to y x) k)),
  )
  quiet_of on ring u y (power a n) still f = quiet_of on ring u y a still f
  quiet_of on ring u y (call g s) still f = all_quiet on ring u y s still f

  pub all_quiet : (on ring : List ℕ → Bool) (u : Use) (y : List ℕ) (s : Expressions) → ((x : List ℕ) → ring x ≡ false → u.moved x ≡ false)
      → ((x : List ℕ) → IsAmong (names_in_all s) x → IsAmong (all_flow_to ring y s) (edge_to y x) → on x ≡ false → u.moved x ≡ false)
      → QuietAll on u s
  all_quiet on ring u y no_expressions still f = tt
  all_quiet on ring u y (expression a s) still f = (
    quiet_of on ring u y a still (λ x h k. f x (in_left (names_in a) (names_in_all s) x h)
        (in_left (flows_to ring y a) (all_flow_to ring y s) (edge_to y x) k)),
    all_quiet on ring u y s still (λ x h k. f x (in_right (names_in a) (names_in_all s) x h)
        (in_right (flows_to ring y a) (all_flow_to ring y s) (edge_to y x) k)),
  )

-- ---- terms of increments

abbrev pub EachTerm : (Expression → Type 0) → List Signed → Type 0
EachTerm P [] = Unit {0}
EachTerm P (r ∷ rs) = P r.1 × EachTerm P rs

-- what holds of a sum's operands where it holds of the sum
abbrev pub Parts : (Expression → Type 0) → Type 0
Parts P = (o : BinOp) (a b : Expression) → P (binary o a b) → P a × P b

with_term : (P : Expression → Type 0) (rs : List Signed) (r : Signed) → EachTerm P rs → P r.1 → EachTerm P (rs ++ r ∷ [])
with_term P [] r h k = (k, tt)
with_term P (q ∷ rs) r h k = (h.0, with_term P rs r h.1 k)

abbrev OfTerms : (Expression → Type 0) → Option (List Signed) → Type 0
OfTerms P None = Unit {0}
OfTerms P (Some rs) = EachTerm P rs

longer_terms : (P : Expression → Type 0) (o : Option (List Signed)) (r : Signed) → OfTerms P o → P r.1 → OfTerms P (longer o r)
longer_terms P None r h k = tt
longer_terms P (Some rs) r h k = with_term P rs r h k

begun_terms : (P : Expression → Type 0) (b less : Bool) (o : Option (List Signed)) (e : Expression) → OfTerms P o → P e
    → OfTerms P (if b then Some ((less, e) ∷ []) else longer o (less, e))
begun_terms P true less o e h k = (k, tt)
begun_terms P false less o e h k = longer_terms P o (less, e) h k

chain_terms : (P : Expression → Type 0) → Parts P → (t e : Expression) → P e → OfTerms P (chain t e)
chain_terms P parts t (literal n k) h = tt
chain_terms P parts t (get x s) h = tt
chain_terms P parts t (minus a) h = tt
chain_terms P parts t (binary op.Add a b) h = let r =
    parts op.Add a b h in begun_terms P (same_expression t a) false (chain t a) b (chain_terms P parts t a r.0) r.1
chain_terms P parts t (binary op.Sub a b) h = let r =
    parts op.Sub a b h in begun_terms P (same_expression t a) true (chain t a) b (chain_terms P parts t a r.0) r.1
chain_terms P parts t (binary op.Mul a b) h = tt
chain_terms P parts t (binary op.Div a b) h = tt
chain_terms P parts t (power a n) h = tt
chain_terms P parts t (call g s) h = tt

one_term : (P : Expression → Type 0) (b : Bool) (e : Expression) → P e → OfTerms P (if b then Some ((false, e) ∷ []) else None)
one_term P true e h = (h, tt)
one_term P false e h = tt

sum_terms : (P : Expression → Type 0) → Parts P → (t e : Expression) → P e → OfTerms P (first_of_sum t e)
sum_terms P parts t (literal n k) h = tt
sum_terms P parts t (get x s) h = tt
sum_terms P parts t (minus a) h = tt
sum_terms P parts t (binary op.Add a b) h = one_term P (same_expression t b) a (parts op.Add a b h).0
sum_terms P parts t (binary op.Sub a b) h = tt
sum_terms P parts t (binary op.Mul a b) h = tt
sum_terms P parts t (binary op.Div a b) h = tt
sum_terms P parts t (power a n) h = tt
sum_terms P parts t (call g s) h = tt

-- terms that are free of a name, and meet P
record FreeTerms (P : Expression → Type 0) (x : List ℕ) (rs : List Signed) : Type 0 where
  pub free : are_free_of x rs ≡ true
  pub each : EachTerm P rs

abbrev OfFree : (Expression → Type 0) → List ℕ → Option (List Signed) → Type 0
OfFree P x None = Unit {0}
OfFree P x (Some rs) = FreeTerms P x rs

free_terms : (P : Expression → Type 0) (x : List ℕ) (o : Option (List Signed)) → OfTerms P o → OfFree P x (if_free x o)
free_terms P x None h = tt
free_terms P x (Some rs) h = by_test (are_free_of x rs) refl
  where
    by_test : (b : Bool) → are_free_of x rs ≡ b → OfFree P x (if b then Some rs else None)
    by_test true e = record { free = e; each = h }
    by_test false e = tt

either_free : (P : Expression → Type 0) (x : List ℕ) (o q : Option (List Signed)) → OfFree P x o → OfFree P x q → OfFree P x (either o q)
either_free P x None q h k = k
either_free P x (Some rs) q h k = h

-- what is known of an increment's terms
pub record Increments (P : Expression → Type 0) (ring : List ℕ → Bool) (x : List ℕ) (rs : List Signed) : Type 0 where
  pub ring_target : ring x ≡ true
  pub free : are_free_of x rs ≡ true
  pub each : EachTerm P rs

abbrev pub OfIncrement : (Expression → Type 0) → (List ℕ → Bool) → List ℕ → Option (List Signed) → Type 0
OfIncrement P ring x None = Unit {0}
OfIncrement P ring x (Some rs) = Increments P ring x rs

pub increment_parts : (P : Expression → Type 0) → Parts P → (ring : List ℕ → Bool) (p : Designator) (e : Expression) → P e
    → OfIncrement P ring p.name (increment_terms ring p e)
increment_parts P parts ring p e h = by_kind (ring p.name) refl
  where
    free : OfFree P p.name (rest_terms p e)
    free =
        either_free P p.name (if_free p.name (chain (target_of p) e)) (if_free p.name (first_of_sum (target_of p) e))
        (free_terms P p.name (chain (target_of p) e) (chain_terms P parts (target_of p) e h))
        (free_terms P p.name (first_of_sum (target_of p) e) (sum_terms P parts (target_of p) e h))

    with_kind : (o : Option (List Signed)) → ring p.name ≡ true → OfFree P p.name o → OfIncrement P ring p.name o
    with_kind None r k = tt
    with_kind (Some rs) r k = record { ring_target = r; free = k.free; each = k.each }

    by_kind : (b : Bool) → ring p.name ≡ b → OfIncrement P ring p.name (if b then rest_terms p e else None)
    by_kind true r = with_kind (rest_terms p e) r free
    by_kind false r = tt

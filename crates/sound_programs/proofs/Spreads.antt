-- The increments of a right side, as the law has them and as the rules of adjoints have them.
use Rattle.std.proofs.Common.{◌≡◌, inl, inr, ℕ, zero, suc, Bool, true, false, not, if◌then◌else◌, List, [], ◌∷◌, ◌++◌, flat_map, map, refl, ap, sym, subst, ◌∙◌}
use Rattle.std.proofs.lemmas.List.{map-append}
use Rattle.std.proofs.lemmas.List.Concat.{flat_map-append}
use Rattle.fl_ast.specs.declared.kind.Kind.TheVariants as kind
use Rattle.fl_ast.specs.declared.kind.BinOp.TheVariants as op
use Rattle.fl_ast.specs.declared.kind.RelOp.{RelOp}
use Rattle.fl_ast.specs.declared.kind.RelOp.TheVariants as rel
use Rattle.fl_ast.specs.declared.kind.Fun.TheVariants as fun
use Rattle.fl_ast.specs.Tree.{Expression, literal, get, minus, binary, power, call, Expressions, no_expressions, expression, relation}
use Rattle.fl_types.specs.Increment.{Signed}
use Rattle.reachability.specs.Reached.{IsAmong}
use Rattle.adjoint_rules.specs.Occurrences as rules
use Rattle.adjoint_rules.specs.Needed.{names_in, names_in_all, names_in_factor, names_in_terms, names_in_occurrence}
use Rattle.transposition.specs.Spread as law
use Rattle.transposition.specs.Back.{rest_occurrences}
use Rattle.transposition.specs.Law.{Use}
use Rattle.transposition.specs.Needs.{NeedsFactor, NeedsFactors, NeedsEach}
use Rattle.sound_programs.proofs.Lists.{in_left, in_right, Each, each_both, each_left, each_right}
use Rattle.sound_programs.proofs.NameReads.{needs_of, needs_all, needs_condition}

abbrev pub law_factor : rules.Factor → law.Factor
law_factor (rules.operand e) = law.operand e
law_factor (rules.either n m t) = law.either n m t

abbrev pub law_occurrence : rules.Occurrence → law.Occurrence
law_occurrence o = record { place = o.place; negative = o.negative; factors = map law_factor o.factors }

-- ---- both say the same

joined : (xs ys : List rules.Occurrence) (vs us : List law.Occurrence) → vs ≡ map law_occurrence xs → us ≡ map law_occurrence ys
    → vs ++ us ≡ map law_occurrence (xs ++ ys)
joined xs ys vs us h k = ap (λ l. l ++ us) h ∙ (ap (λ l. map law_occurrence xs ++ l) k ∙ sym (map-append law_occurrence xs ys))

same_power : (a : Expression) (n : ℕ) → law.power_factors a n ≡ map law_factor (rules.power_factors a n)
same_power a zero = refl
same_power a (suc zero) = refl
same_power a (suc (suc zero)) = refl
same_power a (suc (suc (suc n))) = refl

-- one factor more
abbrev Sames : (List ℕ → Bool) → Expression → Type 0
Sames on e = (less : Bool) (fs : List rules.Factor)
    → law.occurrences on e less (map law_factor fs) ≡ map law_occurrence (rules.occurrences on e less fs)

further : (on : List ℕ → Bool) (e : Expression) → Sames on e → (less : Bool) (fs gs : List rules.Factor)
    → law.occurrences on e less (map law_factor fs ++ map law_factor gs) ≡ map law_occurrence (rules.occurrences on e less (fs ++ gs))
further on e h less fs gs = ap (law.occurrences on e less) (sym (map-append law_factor fs gs)) ∙ h less (fs ++ gs)

mutual
  pub same_occurrences : (on : List ℕ → Bool) (e : Expression) → Sames on e
  same_occurrences on (literal n k) less fs = refl
  same_occurrences on (get x s) less fs = by_test (on x)
    where
      by_test : (b : Bool) → (if b then record { place = record { name = x; subscripts = s }; negative = less; factors = map law_factor fs }
          ∷ [] else []) ≡ map law_occurrence
          (if b then record { place = record { name = x; subscripts = s }; negative = less; factors = fs } ∷ [] else [])
      by_test true = refl
      by_test false = refl
  same_occurrences on (minus a) less fs = same_occurrences on a (not less) fs
  same_occurrences on (binary op.Add a b) less fs = joined _ _ _ _ (same_occurrences on a less fs) (same_occurrences on b less fs)
  same_occurrences on (binary op.Sub a b) less fs = joined _ _ _ _ (same_occurrences on a less fs) (same_occurrences on b (not less) fs)
  same_occurrences on (binary op.Mul a b) less fs =
      joined _ _ _ _ (further on a (same_occurrences on a) less fs (rules.operand b ∷ []))
      (further on b (same_occurrences on b) less fs (rules.operand a ∷ []))
  same_occurrences on (binary op.Div a b) less fs = refl
  same_occurrences on (power a n) less fs =
      ap (λ l. law.occurrences on a less (map law_factor fs ++ l)) (same_power a n)
      ∙ further on a (same_occurrences on a) less fs (rules.power_factors a n)
  same_occurrences on (call fun.Max args) less fs = same_two on rel.Ge args less fs
  same_occurrences on (call fun.Min args) less fs = same_two on rel.Le args less fs
  same_occurrences on (call fun.Abs args) less fs = same_one on args less fs
  same_occurrences on (call fun.Mod args) less fs = refl

  same_two : (on : List ℕ → Bool) (o : RelOp) (s : Expressions) (less : Bool) (fs : List rules.Factor)
      → law.of_two on o s less (map law_factor fs) ≡ map law_occurrence (rules.of_two on o s less fs)
  same_two on o no_expressions less fs = refl
  same_two on o (expression a no_expressions) less fs = refl
  same_two on o (expression a (expression b no_expressions)) less fs =
      joined _ _ _ _ (further on a (same_occurrences on a) less fs (rules.either 1 0 (relation o a b) ∷ []))
      (further on b (same_occurrences on b) less fs (rules.either 0 1 (relation o a b) ∷ []))
  same_two on o (expression a (expression b (expression c s))) less fs = refl

  same_one : (on : List ℕ → Bool) (s : Expressions) (less : Bool) (fs : List rules.Factor)
      → law.of_one on s less (map law_factor fs) ≡ map law_occurrence (rules.of_one on s less fs)
  same_one on no_expressions less fs = refl
  same_one on (expression a no_expressions) less fs =
      further on a (same_occurrences on a) less fs (rules.either rules.minus_one 1 (relation rel.Lt a (literal 0 kind.Ring)) ∷ [])
  same_one on (expression a (expression b s)) less fs = refl

pub same_rest : (on : List ℕ → Bool) (rs : List Signed) → rest_occurrences on rs ≡ map law_occurrence (rules.rest_occurrences on rs)
same_rest on [] = refl
same_rest on (r ∷ rs) = joined _ _ _ _ (same_occurrences on r.1 r.0 []) (same_rest on rs)

-- ---- what they read

needs_factors : (u : Use) (fs : List rules.Factor) → ((x : List ℕ) → IsAmong (flat_map names_in_factor fs) x → u.needed x ≡ true)
    → NeedsFactors u (map law_factor fs)
needs_factors u [] f = tt
needs_factors u (g ∷ fs) f = (
  by_form g (λ x h. f x (in_left (names_in_factor g) (flat_map names_in_factor fs) x h)),
  needs_factors u fs
      (λ x h. f x (in_right (names_in_factor g) (flat_map names_in_factor fs) x h)),
)
  where
    by_form : (g : rules.Factor) → ((x : List ℕ) → IsAmong (names_in_factor g) x → u.needed x ≡ true) → NeedsFactor u (law_factor g)
    by_form (rules.operand e) k = needs_of u e k
    by_form (rules.either n m t) k = needs_condition u t k

-- the places are of names with P
abbrev pub EachPlace : (List ℕ → Type 0) → List rules.Occurrence → Type 0
EachPlace P [] = Unit {0}
EachPlace P (o ∷ os) = P o.place.name × EachPlace P os

both_places : (P : List ℕ → Type 0) (xs ys : List rules.Occurrence) → EachPlace P xs → EachPlace P ys → EachPlace P (xs ++ ys)
both_places P [] ys h k = k
both_places P (x ∷ xs) ys h k = (h.0, both_places P xs ys h.1 k)

pub needs_each : (u : Use) (os : List rules.Occurrence) → EachPlace (λ x. u.live x ≡ true) os
    → ((x : List ℕ) → IsAmong (flat_map names_in_occurrence os) x → u.needed x ≡ true) → NeedsEach u (map law_occurrence os)
needs_each u [] h f = tt
needs_each u (o ∷ os) h f = (
  record {
    factors = needs_factors u o.factors (λ x k. here x (in_left (flat_map names_in_factor o.factors) (names_in_all o.place.subscripts) x k));
    subscripts = needs_all u o.place.subscripts (λ x k. here x (in_right (flat_map names_in_factor o.factors) (names_in_all o.place.subscripts) x k));
    live = h.0;
  },
  needs_each u os h.1 (λ x k. f x (in_right (names_in_occurrence o) (flat_map names_in_occurrence os) x k)),
)
  where
    here : (x : List ℕ) → IsAmong (names_in_occurrence o) x → u.needed x ≡ true
    here x k = f x (in_left (names_in_occurrence o) (flat_map names_in_occurrence os) x k)

-- ---- whose places they are

abbrev Places : (List ℕ → Type 0) → (List ℕ → Bool) → Expression → Type 0
Places P on e = (less : Bool) (fs : List rules.Factor) → EachPlace P (rules.occurrences on e less fs)

mutual
  pub places_of : (P : List ℕ → Type 0) (on : List ℕ → Bool) (e : Expression) → ((x : List ℕ) → IsAmong (names_in e) x → on x ≡ true → P x)
      → Places P on e
  places_of P on (literal n k) f less fs = tt
  places_of P on (get x s) f less fs = by_test (on x) refl
    where
      by_test : (b : Bool) → on x ≡ b
          → EachPlace P (if b then record { place = record { name = x; subscripts = s }; negative = less; factors = fs } ∷ [] else [])
      by_test true e = (f x (inl refl) e, tt)
      by_test false e = tt
  places_of P on (minus a) f less fs = places_of P on a f (not less) fs
  places_of P on (binary op.Add a b) f less fs =
      both_places P _ _ (places_of P on a (λ x h. f x (in_left (names_in a) (names_in b) x h)) less fs)
      (places_of P on b (λ x h. f x (in_right (names_in a) (names_in b) x h)) less fs)
  places_of P on (binary op.Sub a b) f less fs =
      both_places P _ _ (places_of P on a (λ x h. f x (in_left (names_in a) (names_in b) x h)) less fs)
      (places_of P on b (λ x h. f x (in_right (names_in a) (names_in b) x h)) (not less) fs)
  places_of P on (binary op.Mul a b) f less fs =
      both_places P _ _ (places_of P on a (λ x h. f x (in_left (names_in a) (names_in b) x h)) less (fs ++ rules.operand b ∷ []))
      (places_of P on b (λ x h. f x (in_right (names_in a) (names_in b) x h)) less (fs ++ rules.operand a ∷ []))
  places_of P on (binary op.Div a b) f less fs = tt
  places_of P on (power a n) f less fs = places_of P on a f less (fs ++ rules.power_factors a n)
  places_of P on (call fun.Max args) f less fs = places_two P on rel.Ge args f less fs
  places_of P on (call fun.Min args) f less fs = places_two P on rel.Le args f less fs
  places_of P on (call fun.Abs args) f less fs = places_one P on args f less fs
  places_of P on (call fun.Mod args) f less fs = tt

  places_two : (P : List ℕ → Type 0) (on : List ℕ → Bool) (o : RelOp) (s : Expressions)
      → ((x : List ℕ) → IsAmong (names_in_all s) x → on x ≡ true → P x) → (less : Bool) (fs : List rules.Factor)
      → EachPlace P (rules.of_two on o s less fs)
  places_two P on o no_expressions f less fs = tt
  places_two P on o (expression a no_expressions) f less fs = tt
  places_two P on o (expression a (expression b no_expressions)) f less fs =
      both_places P _ _ (places_of P on a (λ x h. f x (in_left (names_in a) (names_in b ++ []) x h)) less
      (fs ++ rules.either 1 0 (relation o a b) ∷ []))
      (places_of P on b (λ x h. f x (in_right (names_in a) (names_in b ++ []) x (in_left (names_in b) [] x h))) less
      (fs ++ rules.either 0 1 (relation o a b) ∷ []))
  places_two P on o (expression a (expression b (expression c s))) f less fs = tt

  places_one : (P : List ℕ → Type 0) (on : List ℕ → Bool) (s : Expressions)
      → ((x : List ℕ) → IsAmong (names_in_all s) x → on x ≡ true → P x) → (less : Bool) (fs : List rules.Factor)
      → EachPlace P (rules.of_one on s less fs)
  places_one P on no_expressions f less fs = tt
  places_one P on (expression a no_expressions) f less fs =
      places_of P on a (λ x h. f x (in_left (names_in a) [] x h)) less
      (fs ++ rules.either rules.minus_one 1 (relation rel.Lt a (literal 0 kind.Ring)) ∷ [])
  places_one P on (expression a (expression b s)) f less fs = tt

-- a type of the name may be asked of all rest terms
pub rest_places : (P : List ℕ → Type 0) (on : List ℕ → Bool) (rs : List Signed)
    → ((x : List ℕ) → IsAmong (names_in_terms rs) x → on x ≡ true → P x) → EachPlace P (rules.rest_occurrences on rs)
rest_places P on [] f = tt
rest_places P on (r ∷ rs) f =
    both_places P _ _ (places_of P on r.1 (λ x h. f x (in_left (names_in r.1) (names_in_terms rs) x h)) r.0 [])
    (rest_places P on rs (λ x h. f x (in_right (names_in r.1) (names_in_terms rs) x h)))

-- ---- which names they read

-- what holds of the names of some factors, and of those of both lists
abbrev Named : (List ℕ → Type 0) → List rules.Factor → Type 0
Named P fs = Each P (flat_map names_in_factor fs)

named_both : (P : List ℕ → Type 0) (fs gs : List rules.Factor) → Named P fs → Named P gs → Named P (fs ++ gs)
named_both P fs gs h k = subst (Each P) (sym (flat_map-append names_in_factor fs gs))
    (each_both P (flat_map names_in_factor fs) (flat_map names_in_factor gs) h k)

read_both : (P : List ℕ → Type 0) (xs ys : List rules.Occurrence) → Each P (flat_map names_in_occurrence xs)
    → Each P (flat_map names_in_occurrence ys) → Each P (flat_map names_in_occurrence (xs ++ ys))
read_both P xs ys h k = subst (Each P) (sym (flat_map-append names_in_occurrence xs ys))
    (each_both P (flat_map names_in_occurrence xs) (flat_map names_in_occurrence ys) h k)

named_power : (P : List ℕ → Type 0) (a : Expression) (n : ℕ) → Each P (names_in a) → Named P (rules.power_factors a n)
named_power P a zero h = λ x k. absurd k
named_power P a (suc zero) h = λ x k. absurd k
named_power P a (suc (suc zero)) h = each_both P (names_in a) [] h (λ x k. absurd k)
named_power P a (suc (suc (suc n))) h = each_both P (names_in a) [] h (λ x k. absurd k)

abbrev Reads : (List ℕ → Type 0) → (List ℕ → Bool) → Expression → Type 0
Reads P on e = (less : Bool) (fs : List rules.Factor) → Named P fs → Each P (flat_map names_in_occurrence (rules.occurrences on e less fs))

-- with one factor more, an operand or a test of operands whose names have P
mutual
  pub reads_of : (P : List ℕ → Type 0) (on : List ℕ → Bool) (e : Expression) → Each P (names_in e) → Reads P on e
  reads_of P on (literal n k) f less fs g = λ x h. absurd h
  reads_of P on (get x s) f less fs g = by_test (on x)
    where
      by_test : (b : Bool) → Each P (flat_map names_in_occurrence
          (if b then record { place = record { name = x; subscripts = s }; negative = less; factors = fs } ∷ [] else []))
      by_test true = each_both P (flat_map names_in_factor fs ++ names_in_all s) []
          (each_both P (flat_map names_in_factor fs) (names_in_all s) g (λ y h. f y (inr h))) (λ y h. absurd h)
      by_test false = λ y h. absurd h
  reads_of P on (minus a) f less fs g = reads_of P on a f (not less) fs g
  reads_of P on (binary op.Add a b) f less fs g =
      read_both P (rules.occurrences on a less fs) (rules.occurrences on b less fs)
      (reads_of P on a (each_left P (names_in a) (names_in b) f) less fs g) (reads_of P on b (each_right P (names_in a) (names_in b) f) less fs g)
  reads_of P on (binary op.Sub a b) f less fs g =
      read_both P (rules.occurrences on a less fs) (rules.occurrences on b (not less) fs)
      (reads_of P on a (each_left P (names_in a) (names_in b) f) less fs g)
      (reads_of P on b (each_right P (names_in a) (names_in b) f) (not less) fs g)
  reads_of P on (binary op.Mul a b) f less fs g =
      read_both P (rules.occurrences on a less (fs ++ rules.operand b ∷ [])) (rules.occurrences on b less (fs ++ rules.operand a ∷ []))
      (reads_of P on a (each_left P (names_in a) (names_in b) f) less (fs ++ rules.operand b ∷ [])
      (named_both P fs (rules.operand b ∷ []) g (each_both P (names_in b) [] (each_right P (names_in a) (names_in b) f) (λ x h. absurd h))))
      (reads_of P on b (each_right P (names_in a) (names_in b) f) less (fs ++ rules.operand a ∷ [])
      (named_both P fs (rules.operand a ∷ []) g (each_both P (names_in a) [] (each_left P (names_in a) (names_in b) f) (λ x h. absurd h))))
  reads_of P on (binary op.Div a b) f less fs g = λ x h. absurd h
  reads_of P on (power a n) f less fs g =
      reads_of P on a f less (fs ++ rules.power_factors a n) (named_both P fs (rules.power_factors a n) g (named_power P a n f))
  reads_of P on (call fun.Max args) f less fs g = reads_two P on rel.Ge args f less fs g
  reads_of P on (call fun.Min args) f less fs g = reads_two P on rel.Le args f less fs g
  reads_of P on (call fun.Abs args) f less fs g = reads_one P on args f less fs g
  reads_of P on (call fun.Mod args) f less fs g = λ x h. absurd h

  reads_two : (P : List ℕ → Type 0) (on : List ℕ → Bool) (o : RelOp) (s : Expressions) → Each P (names_in_all s)
      → (less : Bool) (fs : List rules.Factor) → Named P fs → Each P (flat_map names_in_occurrence (rules.of_two on o s less fs))
  reads_two P on o no_expressions f less fs g = λ x h. absurd h
  reads_two P on o (expression a no_expressions) f less fs g = λ x h. absurd h
  reads_two P on o (expression a (expression b no_expressions)) f less fs g =
      let one = each_left P (names_in a) (names_in b ++ []) f in
      let two = each_left P (names_in b) [] (each_right P (names_in a) (names_in b ++ []) f) in
      let tests = each_both P (names_in a ++ names_in b) [] (each_both P (names_in a) (names_in b) one two) (λ x h. absurd h) in
      read_both P (rules.occurrences on a less (fs ++ rules.either 1 0 (relation o a b) ∷ []))
      (rules.occurrences on b less (fs ++ rules.either 0 1 (relation o a b) ∷ []))
      (reads_of P on a one less (fs ++ rules.either 1 0 (relation o a b) ∷ []) (named_both P fs (rules.either 1 0 (relation o a b) ∷ []) g tests))
      (reads_of P on b two less (fs ++ rules.either 0 1 (relation o a b) ∷ []) (named_both P fs (rules.either 0 1 (relation o a b) ∷ []) g tests))
  reads_two P on o (expression a (expression b (expression c s))) f less fs g = λ x h. absurd h

  reads_one : (P : List ℕ → Type 0) (on : List ℕ → Bool) (s : Expressions) → Each P (names_in_all s)
      → (less : Bool) (fs : List rules.Factor) → Named P fs → Each P (flat_map names_in_occurrence (rules.of_one on s less fs))
  reads_one P on no_expressions f less fs g = λ x h. absurd h
  reads_one P on (expression a no_expressions) f less fs g =
      let one = each_left P (names_in a) [] f in
      reads_of P on a one less (fs ++ rules.either rules.minus_one 1 (relation rel.Lt a (literal 0 kind.Ring)) ∷ [])
      (named_both P fs (rules.either rules.minus_one 1 (relation rel.Lt a (literal 0 kind.Ring)) ∷ []) g
      (each_both P (names_in a ++ []) [] (each_both P (names_in a) [] one (λ x h. absurd h)) (λ x h. absurd h)))
  reads_one P on (expression a (expression b s)) f less fs g = λ x h. absurd h

pub rest_reads : (P : List ℕ → Type 0) (on : List ℕ → Bool) (rs : List Signed) → Each P (names_in_terms rs)
    → Each P (flat_map names_in_occurrence (rules.rest_occurrences on rs))
rest_reads P on [] f = λ x h. absurd h
rest_reads P on (r ∷ rs) f =
    read_both P (rules.occurrences on r.1 r.0 []) (rules.rest_occurrences on rs)
    (reads_of P on r.1 (each_left P (names_in r.1) (names_in_terms rs) f) r.0 [] (λ x h. absurd h))
    (rest_reads P on rs (each_right P (names_in r.1) (names_in_terms rs) f))

-- What is made of a chain is what the rules make of its terms.
use Rattle.std.proofs.Common.{◌≡◌, ℕ, Bool, true, false, if◌then◌else◌, List, [], ◌∷◌, ◌++◌, Option, Some, None, refl, ap, sym, ◌∙◌, append_assoc, arith}
use Rattle.std.proofs.lemmas.List.{map-append, append-nil}
use Rattle.fl_ast.specs.declared.kind.BinOp.{BinOp}
use Rattle.fl_ast.specs.declared.kind.BinOp.TheVariants as op
use Rattle.fl_ast.specs.Tree.{Expression, literal, get, minus, binary, power, call}
use Rattle.fl_ast.specs.AdjointTree.{adjoint_get}
use Rattle.fl_ast.specs.Same.{same_expression}
use Rattle.fl_types.specs.Increment.{Signed, longer, chain}
use Rattle.adjoint_rules.specs.Occurrences.{occurrences, rest_occurrences}
use Rattle.adjoint_rules.specs.Expressions.{temporary, increment_for, increments}
use Rattle.adjoint_rules.specs.Reverse.{operation, chained, first_term, turned_terms}
use Rattle.reversal.specs.Growth.{growths}
use Rattle.reversal.specs.Chains.{chain_growths, chain_turned, first_with, chain_sum}
use Rattle.reversal.proofs.Spreading.{growths_are}

-- the terms where the chain begins here, and where it goes on
abbrev pub Went : (t a b : Expression) → Bool → List Signed → Bool → Type 0
Went t a b s rs true = rs ≡ (s, b) ∷ []
Went t a b s rs false = (qs : List Signed) × (chain t a ≡ Some qs) × (rs ≡ qs ++ (s, b) ∷ [])

pub record Goes (t a b : Expression) (s : Bool) (rs : List Signed) : Type 0 where
  pub others : Bool
  pub same : same_expression t a ≡ others
  pub terms : Went t a b s rs others

is_some_of : {X : Type 0} (a b : X) → Some a ≡ Some b → a ≡ b
is_some_of a b e = grind (arith, e)

longer_is : (o : Option (List Signed)) (r : Signed) (rs : List Signed) → longer o r ≡ Some rs → (qs : List Signed) × (o ≡ Some qs) × (rs ≡ qs ++ r ∷ [])
longer_is None r rs e = absurd (grind (arith, e))
longer_is (Some qs) r rs e = (qs, refl, sym (is_some_of _ _ e))

pub goes : (t a b : Expression) (s : Bool) (rs : List Signed) → (if same_expression t a then Some ((s, b) ∷ []) else longer (chain t a) (s, b)) ≡ Some rs → Goes t a b s rs
goes t a b s rs = by_test (same_expression t a) refl
  where
    by_test : (c : Bool) → same_expression t a ≡ c → (if c then Some ((s, b) ∷ []) else longer (chain t a) (s, b)) ≡ Some rs → Goes t a b s rs
    by_test true e h = record { others = true; same = e; terms = sym (is_some_of _ _ h) }
    by_test false e h = record { others = false; same = e; terms = longer_is (chain t a) (s, b) rs h }

-- ---- growths

joined_occurrences : (on : List ℕ → Bool) (qs : List Signed) (r : Signed) → rest_occurrences on (qs ++ r ∷ []) ≡ rest_occurrences on qs ++ occurrences on r.1 r.0 []
joined_occurrences on [] r = append-nil (occurrences on r.1 r.0 [])
joined_occurrences on (q ∷ qs) r =
    ap (λ x. occurrences on q.1 q.0 [] ++ x) (joined_occurrences on qs r) ∙ sym (append_assoc (occurrences on q.1 q.0 []) (rest_occurrences on qs) (occurrences on r.1 r.0 []))

chain_step : (on atomic : List ℕ → Bool) (line : ℕ) (t a b : Expression) (s : Bool) (rs : List Signed) → Goes t a b s rs
    → ((qs : List Signed) → chain t a ≡ Some qs → chain_growths on atomic line t a (adjoint_get temporary) ≡ increments atomic line (rest_occurrences on qs))
    → (if same_expression t a then [] else chain_growths on atomic line t a (adjoint_get temporary)) ++ growths on atomic line b s (adjoint_get temporary) ≡ increments atomic line (rest_occurrences on rs)
chain_step on atomic line t a b s rs g f = by_test g.others g.same g.terms
  where
    by_test : (c : Bool) → same_expression t a ≡ c → Went t a b s rs c
        → (if same_expression t a then [] else chain_growths on atomic line t a (adjoint_get temporary)) ++ growths on atomic line b s (adjoint_get temporary) ≡ increments atomic line (rest_occurrences on rs)
    by_test true e h =
        rw e (sym (growths_are on atomic line b s []) ∙ ap (increments atomic line) (sym (append-nil (occurrences on b s [])) ∙ ap (rest_occurrences on) (sym h)))
    by_test false e h =
        rw (e, f h.0 h.1, sym (growths_are on atomic line b s []))
        (sym (map-append (increment_for atomic line) (rest_occurrences on h.0) (occurrences on b s [])) ∙ ap (increments atomic line) (sym (joined_occurrences on h.0 (s, b)) ∙ ap (rest_occurrences on) (sym h.2)))

pub chain_are : (on atomic : List ℕ → Bool) (line : ℕ) (t e : Expression) (rs : List Signed) → chain t e ≡ Some rs
    → chain_growths on atomic line t e (adjoint_get temporary) ≡ increments atomic line (rest_occurrences on rs)
chain_are on atomic line t (literal n k) rs h = absurd (grind (arith, h))
chain_are on atomic line t (get x s) rs h = absurd (grind (arith, h))
chain_are on atomic line t (minus a) rs h = absurd (grind (arith, h))
chain_are on atomic line t (binary op.Add a b) rs h = chain_step on atomic line t a b false rs (goes t a b false rs h) (chain_are on atomic line t a)
chain_are on atomic line t (binary op.Sub a b) rs h = chain_step on atomic line t a b true rs (goes t a b true rs h) (chain_are on atomic line t a)
chain_are on atomic line t (binary op.Mul a b) rs h = absurd (grind (arith, h))
chain_are on atomic line t (binary op.Div a b) rs h = absurd (grind (arith, h))
chain_are on atomic line t (power a n) rs h = absurd (grind (arith, h))
chain_are on atomic line t (call f s) rs h = absurd (grind (arith, h))

-- ---- turned

chained_on : (e : Expression) (xs : List Signed) (r : Signed) → chained e (xs ++ r ∷ []) ≡ binary (operation r.0) (chained e xs) r.1
chained_on e [] r = refl
chained_on e (x ∷ xs) r = chained_on (binary (operation x.0) e x.1) xs r

turned_on : (qs : List Signed) (r : Signed) → turned_terms (qs ++ r ∷ []) ≡ turned_terms qs ++ (if r.0 then false else true, r.1) ∷ []
turned_on [] r = refl
turned_on (q ∷ qs) r = ap (λ x. (if q.0 then false else true, q.1) ∷ x) (turned_on qs r)

turned_step : (t a b : Expression) (s : Bool) (rs : List Signed) → Goes t a b s rs
    → ((qs : List Signed) → chain t a ≡ Some qs → chain_turned t a ≡ chained t (turned_terms qs))
    → binary (operation (if s then false else true)) (if same_expression t a then t else chain_turned t a) b ≡ chained t (turned_terms rs)
turned_step t a b s rs g f = by_test g.others g.same g.terms
  where
    by_test : (c : Bool) → same_expression t a ≡ c → Went t a b s rs c
        → binary (operation (if s then false else true)) (if same_expression t a then t else chain_turned t a) b ≡ chained t (turned_terms rs)
    by_test true e h = rw (e, h) refl
    by_test false e h =
        rw (e, f h.0 h.1)
        (sym (chained_on t (turned_terms h.0) (if s then false else true, b)) ∙ ap (chained t) (sym (turned_on h.0 (s, b)) ∙ ap turned_terms (sym h.2)))

pub chain_turns : (t e : Expression) (rs : List Signed) → chain t e ≡ Some rs → chain_turned t e ≡ chained t (turned_terms rs)
chain_turns t (literal n k) rs h = absurd (grind (arith, h))
chain_turns t (get x s) rs h = absurd (grind (arith, h))
chain_turns t (minus a) rs h = absurd (grind (arith, h))
chain_turns t (binary op.Add a b) rs h = turned_step t a b false rs (goes t a b false rs h) (chain_turns t a)
chain_turns t (binary op.Sub a b) rs h = turned_step t a b true rs (goes t a b true rs h) (chain_turns t a)
chain_turns t (binary op.Mul a b) rs h = absurd (grind (arith, h))
chain_turns t (binary op.Div a b) rs h = absurd (grind (arith, h))
chain_turns t (power a n) rs h = absurd (grind (arith, h))
chain_turns t (call f s) rs h = absurd (grind (arith, h))

-- ---- without the target

no_end : {X : Type 0} (qs : List X) (r : X) → [] ≡ qs ++ r ∷ [] → ⊥
no_end [] r e = grind (arith, e)
no_end (q ∷ qs) r e = grind (arith, e)

never_empty : (t a b : Expression) (s : Bool) → Goes t a b s [] → ⊥
never_empty t a b s g = by_test g.others g.terms
  where
    by_test : (c : Bool) → Went t a b s [] c → ⊥
    by_test true h = grind (arith, h)
    by_test false h = no_end h.0 (s, b) h.2

pub not_empty : (t e : Expression) → chain t e ≡ Some [] → ⊥
not_empty t (literal n k) h = grind (arith, h)
not_empty t (get x s) h = grind (arith, h)
not_empty t (minus a) h = grind (arith, h)
not_empty t (binary op.Add a b) h = never_empty t a b false (goes t a b false [] h)
not_empty t (binary op.Sub a b) h = never_empty t a b true (goes t a b true [] h)
not_empty t (binary op.Mul a b) h = grind (arith, h)
not_empty t (binary op.Div a b) h = grind (arith, h)
not_empty t (power a n) h = grind (arith, h)
not_empty t (call f s) h = grind (arith, h)

abbrev sum_of : List Signed → Expression → Expression
sum_of [] e = e
sum_of (r ∷ rs) e = chained (first_term r) rs

sum_step : (t a b : Expression) (o : BinOp) (s : Bool) (rs : List Signed) → operation s ≡ o → first_with o b ≡ first_term (s, b) → Goes t a b s rs
    → ((qs : List Signed) → chain t a ≡ Some qs → chain_sum t a ≡ sum_of qs t) → (chain t a ≡ Some [] → ⊥)
    → (if same_expression t a then first_with o b else binary o (chain_sum t a) b) ≡ sum_of rs t
sum_step t a b o s rs os fs g f bare = by_test g.others g.same g.terms
  where
    after : (qs : List Signed) → chain t a ≡ Some qs → binary o (chain_sum t a) b ≡ sum_of (qs ++ (s, b) ∷ []) t
    after [] h = absurd (bare h)
    after (q ∷ qs) h = rw (f (q ∷ qs) h, sym os) (sym (chained_on (first_term q) qs (s, b)))

    by_test : (c : Bool) → same_expression t a ≡ c → Went t a b s rs c → (if same_expression t a then first_with o b else binary o (chain_sum t a) b) ≡ sum_of rs t
    by_test true e h = rw (e, h) fs
    by_test false e h = rw (e, h.2) (after h.0 h.1)

pub chain_sums : (t e : Expression) (rs : List Signed) → chain t e ≡ Some rs → chain_sum t e ≡ sum_of rs t
chain_sums t (literal n k) rs h = absurd (grind (arith, h))
chain_sums t (get x s) rs h = absurd (grind (arith, h))
chain_sums t (minus a) rs h = absurd (grind (arith, h))
chain_sums t (binary op.Add a b) rs h = sum_step t a b op.Add false rs refl refl (goes t a b false rs h) (chain_sums t a) (not_empty t a)
chain_sums t (binary op.Sub a b) rs h = sum_step t a b op.Sub true rs refl refl (goes t a b true rs h) (chain_sums t a) (not_empty t a)
chain_sums t (binary op.Mul a b) rs h = absurd (grind (arith, h))
chain_sums t (binary op.Div a b) rs h = absurd (grind (arith, h))
chain_sums t (power a n) rs h = absurd (grind (arith, h))
chain_sums t (call f s) rs h = absurd (grind (arith, h))

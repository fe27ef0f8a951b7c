-- Expressions of an adjoint are readable, and not much deeper than those of the program.
use Rattle.std.proofs.Common.{◌≡◌, ℕ, zero, suc, ◌+◌, ◌≤◌, max, Bool, true, false, not, ◌&&◌, if◌then◌else◌, List, [], ◌∷◌, ◌++◌, length, Option, Some, None, refl, sym, ap, ap₂, subst, ◌∙◌, length-append, append_assoc, append-nil, arith}
use Rattle.std.specs.Prelude.{◌==◌, nat_le}
use Rattle.std.proofs.lemmas.Bool.{and_parts, and_from}
use Rattle.std.proofs.lemmas.Bool.Decides.{nat_tests}
use Rattle.fl_ast.specs.declared.kind.Kind.TheVariants as kind
use Rattle.fl_ast.specs.declared.kind.BinOp.{BinOp}
use Rattle.fl_ast.specs.declared.kind.BinOp.TheVariants as op
use Rattle.fl_ast.specs.declared.kind.RelOp.{RelOp}
use Rattle.fl_ast.specs.declared.kind.RelOp.TheVariants as rel
use Rattle.fl_ast.specs.declared.kind.Fun.TheVariants as fun
use Rattle.fl_ast.specs.Tree.{Expression, literal, get, minus, binary, power, call, Expressions, no_expressions, expression, Designator, relation}
use Rattle.fl_ast.specs.AdjointTree.{AdjointExpression, adjoint_get, adjoint_binary}
use Rattle.fl_ast.specs.Measures.{depth, deepest}
use Rattle.fl_ast.specs.Readable.{is_variable, is_readable, are_readable, number_of, arity}
use Rattle.fl_ast.specs.ReadableAdjoint.{is_readable_adjoint, are_readable_adjoints, number_of_adjoints, adjoint_depth, deepest_adjoint}
use Rattle.fl_ast.specs.Same.{same_expression}
use Rattle.fl_types.specs.Increment.{Signed, longer, chain, first_of_sum, are_free_of, if_free, either as either_of, target_of, rest_terms, increment_terms}
use Rattle.adjoint_rules.specs.Occurrences.{Factor, operand, either, Occurrence, power_factors, minus_one, occurrences, of_two, of_one, rest_occurrences, assignment_occurrences}
use Rattle.adjoint_rules.specs.Expressions.{in_adjoint, all_in_adjoint, factor, product, temporary}
use Rattle.adjoint_rules.specs.Reverse.{operation, chained, first_term, turned_terms, without_sum, without_terms}
use Rattle.readable_adjoints.proofs.Every.{Every, every_append}

-- ---- the program's expressions

mutual
  readable_in : (e : Expression) → is_readable_adjoint (in_adjoint e) ≡ is_readable e
  readable_in (literal v k) = refl
  readable_in (get x s) = refl
  readable_in (minus e) = readable_in e
  readable_in (binary o l r) = ap₂ (λ a b. a && b) (readable_in l) (readable_in r)
  readable_in (power e n) = ap (λ b. nat_le n 2147483647 && b) (readable_in e)
  readable_in (call f es) = ap₂ (λ n b. (n == arity f) && b) (number_in es) (all_readable_in es)

  all_readable_in : (es : Expressions) → are_readable_adjoints (all_in_adjoint es) ≡ are_readable es
  all_readable_in no_expressions = refl
  all_readable_in (expression e es) = ap₂ (λ a b. a && b) (readable_in e) (all_readable_in es)

  number_in : (es : Expressions) → number_of_adjoints (all_in_adjoint es) ≡ number_of es
  number_in no_expressions = refl
  number_in (expression e es) = ap (λ n. 1 + n) (number_in es)

mutual
  depth_in : (e : Expression) → adjoint_depth (in_adjoint e) ≡ depth e
  depth_in (literal v k) = refl
  depth_in (get x s) = refl
  depth_in (minus e) = ap (λ n. n + 1) (depth_in e)
  depth_in (binary o l r) = ap₂ (λ m n. max m n + 1) (depth_in l) (depth_in r)
  depth_in (power e n) = ap (λ m. m + 1) (depth_in e)
  depth_in (call f es) = ap (λ n. n + 1) (deepest_in es)

  deepest_in : (es : Expressions) → deepest_adjoint (all_in_adjoint es) ≡ deepest es
  deepest_in no_expressions = refl
  deepest_in (expression e es) = ap₂ (λ m n. max m n) (depth_in e) (deepest_in es)

-- an expression of a program, with so many levels at most
pub record Fine (d : ℕ) (e : Expression) : Type 0 where
  pub readable : is_readable e ≡ true
  pub levels : depth e ≤ d

-- an expression of an adjoint
pub record FineAdjoint (d : ℕ) (e : AdjointExpression) : Type 0 where
  pub readable : is_readable_adjoint e ≡ true
  pub levels : adjoint_depth e ≤ d

pub fine_in : (d : ℕ) (e : Expression) → Fine d e → FineAdjoint d (in_adjoint e)
fine_in d e f = record { readable = readable_in e ∙ f.readable; levels = subst (λ (n : ℕ). n ≤ d) (sym (depth_in e)) f.levels }

pub fine_binary : (d : ℕ) (o : BinOp) (l r : Expression) → Fine d l → Fine d r → Fine (suc d) (binary o l r)
fine_binary d o l r f g =
    let a = f.levels in
    let b = g.levels in
    record { readable = and_from (is_readable l) (is_readable r) f.readable g.readable; levels = omega (arith, a, b) }

pub fine_adjoint_binary : (d : ℕ) (o : BinOp) (l r : AdjointExpression) → FineAdjoint d l → FineAdjoint d r → FineAdjoint (suc d) (adjoint_binary o l r)
fine_adjoint_binary d o l r f g =
    let a = f.levels in
    let b = g.levels in
    record { readable = and_from (is_readable_adjoint l) (is_readable_adjoint r) f.readable g.readable; levels = omega (arith, a, b) }

pub fine_minus : (d : ℕ) (e : Expression) → Fine d e → Fine (suc d) (minus e)
fine_minus d e f = let a = f.levels in record { readable = f.readable; levels = omega (arith, a) }

pub fine_more : (d m : ℕ) (e : Expression) → d ≤ m → Fine d e → Fine m e
fine_more d m e h f = let a = f.levels in record { readable = f.readable; levels = omega (arith, a, h) }

pub fine_left : (d : ℕ) (o : BinOp) (l r : Expression) → Fine d (binary o l r) → Fine d l
fine_left d o l r f = let a = f.levels in record { readable = (and_parts (is_readable l) (is_readable r) f.readable).0; levels = omega (arith, a) }

pub fine_right : (d : ℕ) (o : BinOp) (l r : Expression) → Fine d (binary o l r) → Fine d r
fine_right d o l r f = let a = f.levels in record { readable = (and_parts (is_readable l) (is_readable r) f.readable).1; levels = omega (arith, a) }

-- ---- factors

abbrev IsFactor : Factor → Type 0
IsFactor f = FineAdjoint 65 (factor f)

fine_operand : (e : Expression) → Fine 65 e → IsFactor (operand e)
fine_operand e f = fine_in 65 e f

product-append : (a : AdjointExpression) (fs gs : List Factor) → product a (fs ++ gs) ≡ product (product a fs) gs
product-append a [] gs = refl
product-append a (f ∷ fs) gs = product-append (adjoint_binary op.Mul a (factor f)) fs gs

-- the factors so far, with so many levels
abbrev pub Factors : ℕ → List Factor → Type 0
Factors m fs = FineAdjoint m (product (adjoint_get temporary) fs)

one_more : (m : ℕ) (fs : List Factor) (f : Factor) → 65 ≤ m → Factors m fs → FineAdjoint 65 (factor f) → Factors (suc m) (fs ++ f ∷ [])
one_more m fs f h p q =
    let b = q.levels in
    let wide : FineAdjoint m (factor f) = record { readable = q.readable; levels = omega (arith, b, h) } in
    subst (λ e. FineAdjoint (suc m) e) (sym (product-append (adjoint_get temporary) fs (f ∷ []))) (fine_adjoint_binary m op.Mul (product (adjoint_get temporary) fs) (factor f) p wide)

-- ---- occurrences

-- a place whose adjoint grows, with its amount
pub record Good (on : List ℕ → Bool) (o : Occurrence) : Type 0 where
  pub active : on o.place.name ≡ true
  pub named : is_variable o.place.name ≡ true
  pub subscripts : are_readable o.place.subscripts ≡ true
  pub shallow : deepest o.place.subscripts ≤ 64
  pub amount : FineAdjoint 193 (product (adjoint_get temporary) o.factors)

two : (m : ℕ) (fs : List Factor) (f g : Factor) → 65 ≤ m → Factors m fs → FineAdjoint 65 (factor f) → FineAdjoint 65 (factor g) → Factors (suc (suc m)) (fs ++ f ∷ g ∷ [])
two m fs f g h p q r =
    subst (λ gs. Factors (suc (suc m)) gs) (append_assoc fs (f ∷ []) (g ∷ [])) (one_more (suc m) (fs ++ f ∷ []) g (omega (arith, h)) (one_more m fs f h p q) r)

-- a place that is read
found : (on : List ℕ → Bool) (x : List ℕ) (s : Expressions) (less : Bool) (fs : List Factor) (m : ℕ) → m + ((deepest s + 1) + (deepest s + 1)) ≤ 193 → Fine 64 (get x s) → Factors m fs
    → (t : Bool) → on x ≡ t → Every (Good on) (if t then record { place = record { name = x; subscripts = s }; negative = less; factors = fs } ∷ [] else [])
found on x s less fs m r f p true e =
    let l = f.levels in
    let k = p.levels in
    let parts = and_parts (is_variable x) (are_readable s) f.readable in
    (record { active = e; named = parts.0; subscripts = parts.1; shallow = omega (arith, l); amount = record { readable = p.readable; levels = omega (arith, k, r) } }, tt)
found on x s less fs m r f p false e = tt

small_number : (n : ℕ) → nat_le n 2147483647 ≡ true → nat_le n 9223372036854775807 ≡ true
small_number n h = grind (arith, nat_tests)

less_number : (n : ℕ) → nat_le (suc n) 2147483647 ≡ true → nat_le n 2147483647 ≡ true
less_number n h = grind (arith, nat_tests)

with_power : (m : ℕ) (fs : List Factor) (a : Expression) (n : ℕ) → 65 ≤ m → nat_le n 2147483647 ≡ true → Fine 63 a → Factors m fs → Factors (suc (suc m)) (fs ++ power_factors a n)
with_power m fs a zero h k f p =
    let q : Factors (suc m) (fs ++ operand (literal 0 kind.Ring) ∷ []) = one_more m fs (operand (literal 0 kind.Ring)) h p (record { readable = refl; levels = omega arith }) in
    let l = q.levels in
    record { readable = q.readable; levels = omega (arith, l) }
with_power m fs a (suc zero) h k f p =
    let l = p.levels in
    subst (λ gs. Factors (suc (suc m)) gs) (sym (append-nil fs)) (record { readable = p.readable; levels = omega (arith, l) })
with_power m fs a (suc (suc zero)) h k f p =
    two m fs (operand (literal 2 kind.Ring)) (operand a) h p (record { readable = refl; levels = omega arith }) (fine_in 65 a (fine_more 63 65 a (omega arith) f))
with_power m fs a (suc (suc (suc n))) h k f p =
    let l = f.levels in
    two m fs (operand (literal (suc (suc (suc n))) kind.Ring)) (operand (power a (suc (suc n)))) h p
    (record { readable = small_number (suc (suc (suc n))) k; levels = omega arith })
    (fine_in 65 (power a (suc (suc n))) (record { readable = and_from (nat_le (suc (suc n)) 2147483647) (is_readable a) (less_number (suc (suc n)) k) f.readable; levels = omega (arith, l) }))

mutual
  pub occurrences_good : (on : List ℕ → Bool) (e : Expression) (less : Bool) (fs : List Factor) (m : ℕ) → 65 ≤ m → m + (depth e + depth e) ≤ 193 → Fine 64 e → Factors m fs
      → Every (Good on) (occurrences on e less fs)
  occurrences_good on (literal n k) less fs m h r f p = tt
  occurrences_good on (get x s) less fs m h r f p = found on x s less fs m r f p (on x) refl
  occurrences_good on (minus a) less fs m h r f p =
      let l = f.levels in
      occurrences_good on a (not less) fs m h (omega (arith, r)) (record { readable = f.readable; levels = omega (arith, l) }) p
  occurrences_good on (binary op.Add a b) less fs m h r f p =
      every_append (Good on) (occurrences on a less fs) (occurrences on b less fs)
      (occurrences_good on a less fs m h (omega (arith, r)) (fine_left 64 op.Add a b f) p) (occurrences_good on b less fs m h (omega (arith, r)) (fine_right 64 op.Add a b f) p)
  occurrences_good on (binary op.Sub a b) less fs m h r f p =
      every_append (Good on) (occurrences on a less fs) (occurrences on b (not less) fs)
      (occurrences_good on a less fs m h (omega (arith, r)) (fine_left 64 op.Sub a b f) p) (occurrences_good on b (not less) fs m h (omega (arith, r)) (fine_right 64 op.Sub a b f) p)
  occurrences_good on (binary op.Mul a b) less fs m h r f p =
      let left = fine_left 64 op.Mul a b f in
      let right = fine_right 64 op.Mul a b f in
      every_append (Good on) (occurrences on a less (fs ++ operand b ∷ [])) (occurrences on b less (fs ++ operand a ∷ []))
      (occurrences_good on a less (fs ++ operand b ∷ []) (suc m) (omega (arith, h)) (omega (arith, r)) left (one_more m fs (operand b) h p (fine_in 65 b (fine_more 64 65 b (omega arith) right))))
      (occurrences_good on b less (fs ++ operand a ∷ []) (suc m) (omega (arith, h)) (omega (arith, r)) right (one_more m fs (operand a) h p (fine_in 65 a (fine_more 64 65 a (omega arith) left))))
  occurrences_good on (binary op.Div a b) less fs m h r f p = tt
  occurrences_good on (power a n) less fs m h r f p =
      let l = f.levels in
      let parts = and_parts (nat_le n 2147483647) (is_readable a) f.readable in
      occurrences_good on a less (fs ++ power_factors a n) (suc (suc m)) (omega (arith, h)) (omega (arith, r)) (record { readable = parts.1; levels = omega (arith, l) })
      (with_power m fs a n h parts.0 (record { readable = parts.1; levels = omega (arith, l) }) p)
  occurrences_good on (call fun.Max args) less fs m h r f p =
      let l = f.levels in two_good on rel.Ge args less fs m h (omega (arith, r)) (omega (arith, l)) ((and_parts (number_of args == 2) (are_readable args) f.readable).1) p
  occurrences_good on (call fun.Min args) less fs m h r f p =
      let l = f.levels in two_good on rel.Le args less fs m h (omega (arith, r)) (omega (arith, l)) ((and_parts (number_of args == 2) (are_readable args) f.readable).1) p
  occurrences_good on (call fun.Abs args) less fs m h r f p =
      let l = f.levels in one_good on args less fs m h (omega (arith, r)) (omega (arith, l)) ((and_parts (number_of args == 1) (are_readable args) f.readable).1) p
  occurrences_good on (call fun.Mod args) less fs m h r f p = tt

  two_good : (on : List ℕ → Bool) (o : RelOp) (args : Expressions) (less : Bool) (fs : List Factor) (m : ℕ) → 65 ≤ m → m + (deepest args + deepest args) + 2 ≤ 193 → deepest args ≤ 63
      → are_readable args ≡ true → Factors m fs → Every (Good on) (of_two on o args less fs)
  two_good on o no_expressions less fs m h r d e p = tt
  two_good on o (expression a no_expressions) less fs m h r d e p = tt
  two_good on o (expression a (expression b no_expressions)) less fs m h r d e p =
      let first = and_parts (is_readable a) (is_readable b && true) e in
      let second = and_parts (is_readable b) true first.1 in
      every_append (Good on) (occurrences on a less (fs ++ either 1 0 (relation o a b) ∷ [])) (occurrences on b less (fs ++ either 0 1 (relation o a b) ∷ []))
      (occurrences_good on a less (fs ++ either 1 0 (relation o a b) ∷ []) (suc m) (omega (arith, h)) (omega (arith, r)) (record { readable = first.0; levels = omega (arith, d) })
      (one_more m fs (either 1 0 (relation o a b)) h p (record { readable = and_from (is_readable a) (is_readable b) first.0 second.0; levels = omega (arith, d) })))
      (occurrences_good on b less (fs ++ either 0 1 (relation o a b) ∷ []) (suc m) (omega (arith, h)) (omega (arith, r)) (record { readable = second.0; levels = omega (arith, d) })
      (one_more m fs (either 0 1 (relation o a b)) h p (record { readable = and_from (is_readable a) (is_readable b) first.0 second.0; levels = omega (arith, d) })))
  two_good on o (expression a (expression b (expression c more))) less fs m h r d e p = tt

  one_good : (on : List ℕ → Bool) (args : Expressions) (less : Bool) (fs : List Factor) (m : ℕ) → 65 ≤ m → m + (deepest args + deepest args) + 2 ≤ 193 → deepest args ≤ 63
      → are_readable args ≡ true → Factors m fs → Every (Good on) (of_one on args less fs)
  one_good on no_expressions less fs m h r d e p = tt
  one_good on (expression a no_expressions) less fs m h r d e p =
      let first = and_parts (is_readable a) true e in
      occurrences_good on a less (fs ++ either minus_one 1 (relation rel.Lt a (literal 0 kind.Ring)) ∷ []) (suc m) (omega (arith, h)) (omega (arith, r)) (record { readable = first.0; levels = omega (arith, d) })
      (one_more m fs (either minus_one 1 (relation rel.Lt a (literal 0 kind.Ring))) h p (record { readable = and_from (is_readable a) true first.0 refl; levels = omega (arith, d) }))
  one_good on (expression a (expression b more)) less fs m h r d e p = tt

-- ---- rest terms

abbrev IsTerm : Signed → Type 0
IsTerm r = Fine 64 r.1

-- so many at most
pub record Terms (n : ℕ) (rs : List Signed) : Type 0 where
  pub all : Every IsTerm rs
  pub few : length rs ≤ n

abbrev pub OnTerms : ℕ → Option (List Signed) → Type 0
OnTerms n None = Unit {0}
OnTerms n (Some rs) = Terms n rs

lone : (n : ℕ) (r : Signed) → 1 ≤ n → Fine 64 r.1 → Terms n (r ∷ [])
lone n r h f = record { all = (f, tt); few = h }

longer_good : (m n : ℕ) (o : Option (List Signed)) (r : Signed) → suc m ≤ n → Fine 64 r.1 → OnTerms m o → OnTerms n (longer o r)
longer_good m n None r h f t = tt
longer_good m n (Some rs) r h f t = let few = t.few in record { all = every_append IsTerm rs (r ∷ []) t.all (f, tt); few = omega (arith, few, h, length-append rs (r ∷ [])) }

chosen : (n : ℕ) (b : Bool) (p q : Option (List Signed)) → OnTerms n p → OnTerms n q → OnTerms n (if b then p else q)
chosen n true p q h k = h
chosen n false p q h k = k

chain_good : (t e : Expression) → Fine 64 e → OnTerms (depth e) (chain t e)
chain_good t (literal v k) f = tt
chain_good t (get x s) f = tt
chain_good t (minus e) f = tt
chain_good t (binary op.Add a b) f =
    chosen (depth (binary op.Add a b)) (same_expression t a) (Some ((false, b) ∷ [])) (longer (chain t a) (false, b)) (lone (depth (binary op.Add a b)) (false, b) (omega arith) (fine_right 64 op.Add a b f))
    (longer_good (depth a) (depth (binary op.Add a b)) (chain t a) (false, b) (omega arith) (fine_right 64 op.Add a b f) (chain_good t a (fine_left 64 op.Add a b f)))
chain_good t (binary op.Sub a b) f =
    chosen (depth (binary op.Sub a b)) (same_expression t a) (Some ((true, b) ∷ [])) (longer (chain t a) (true, b)) (lone (depth (binary op.Sub a b)) (true, b) (omega arith) (fine_right 64 op.Sub a b f))
    (longer_good (depth a) (depth (binary op.Sub a b)) (chain t a) (true, b) (omega arith) (fine_right 64 op.Sub a b f) (chain_good t a (fine_left 64 op.Sub a b f)))
chain_good t (binary op.Mul a b) f = tt
chain_good t (binary op.Div a b) f = tt
chain_good t (power a n) f = tt
chain_good t (call g s) f = tt

sum_good : (t e : Expression) → Fine 64 e → OnTerms 64 (first_of_sum t e)
sum_good t (literal v k) f = tt
sum_good t (get x s) f = tt
sum_good t (minus e) f = tt
sum_good t (binary op.Add r b) f = chosen 64 (same_expression t b) (Some ((false, r) ∷ [])) None (lone 64 (false, r) (omega arith) (fine_left 64 op.Add r b f)) tt
sum_good t (binary op.Sub a b) f = tt
sum_good t (binary op.Mul a b) f = tt
sum_good t (binary op.Div a b) f = tt
sum_good t (power a n) f = tt
sum_good t (call g s) f = tt

free_good : (n : ℕ) (x : List ℕ) (o : Option (List Signed)) → OnTerms n o → OnTerms n (if_free x o)
free_good n x None h = tt
free_good n x (Some rs) h = chosen n (are_free_of x rs) (Some rs) None h tt

either_good : (n : ℕ) (o p : Option (List Signed)) → OnTerms n o → OnTerms n p → OnTerms n (either_of o p)
either_good n None p h k = k
either_good n (Some rs) p h k = h

more_terms : (m n : ℕ) (o : Option (List Signed)) → m ≤ n → OnTerms m o → OnTerms n o
more_terms m n None h t = tt
more_terms m n (Some rs) h t = let few = t.few in record { all = t.all; few = omega (arith, few, h) }

pub terms_good : (ring : List ℕ → Bool) (p : Designator) (e : Expression) → Fine 64 e → OnTerms 64 (increment_terms ring p e)
terms_good ring p e f =
    chosen 64 (ring p.name) (rest_terms p e) None
    (either_good 64 (if_free p.name (chain (target_of p) e)) (if_free p.name (first_of_sum (target_of p) e))
    (free_good 64 p.name (chain (target_of p) e) (more_terms (depth e) 64 (chain (target_of p) e) f.levels (chain_good (target_of p) e f)))
    (free_good 64 p.name (first_of_sum (target_of p) e) (sum_good (target_of p) e f))) tt

chained_good : (d : ℕ) (e : Expression) (rs : List Signed) → 64 ≤ d → Fine d e → Every IsTerm rs → Fine (d + length rs) (chained e rs)
chained_good d e [] h f t = fine_more d (d + 0) e (omega arith) f
chained_good d e (r ∷ rs) h f t =
    let all = chained_good (suc d) (binary (operation r.0) e r.1) rs (omega (arith, h)) (fine_binary d (operation r.0) e r.1 f (fine_more 64 d r.1 h t.0)) t.1 in
    fine_more (suc d + length rs) (d + length (r ∷ rs)) (chained (binary (operation r.0) e r.1) rs) (omega arith) all

turned_all : (rs : List Signed) → Every IsTerm rs → Every IsTerm (turned_terms rs)
turned_all [] t = tt
turned_all (r ∷ rs) t = (t.0, turned_all rs t.1)

turned_length : (rs : List Signed) → length (turned_terms rs) ≡ length rs
turned_length [] = refl
turned_length (r ∷ rs) = ap suc (turned_length rs)

first_good : (r : Signed) → Fine 64 r.1 → Fine 65 (first_term r)
first_good (true, e) f = fine_minus 64 e f
first_good (false, e) f = fine_more 64 65 e (omega arith) f

turned_good : (p : Designator) (rs : List Signed) → Fine 65 (target_of p) → Terms 64 rs → Fine 129 (chained (target_of p) (turned_terms rs))
turned_good p rs f t =
    let few = t.few in
    fine_more (65 + length (turned_terms rs)) 129 (chained (target_of p) (turned_terms rs)) (omega (arith, few, turned_length rs)) (chained_good 65 (target_of p) (turned_terms rs) (omega arith) f (turned_all rs t.all))

sum_undone : (p : Designator) (rs : List Signed) → Fine 65 (target_of p) → Terms 64 rs → Fine 130 (without_sum p rs)
sum_undone p [] f t = fine_more 65 130 (target_of p) (omega arith) f
sum_undone p (r ∷ []) f t = fine_more 129 130 (chained (target_of p) (turned_terms (r ∷ []))) (omega arith) (turned_good p (r ∷ []) f t)
sum_undone p (r ∷ s ∷ rs) f t =
    let few = t.few in
    let all = t.all in
    fine_binary 129 op.Sub (target_of p) (chained (first_term r) (s ∷ rs)) (fine_more 65 129 (target_of p) (omega arith) f)
    (fine_more (65 + length (s ∷ rs)) 129 (chained (first_term r) (s ∷ rs)) (omega (arith, few)) (chained_good 65 (first_term r) (s ∷ rs) (omega arith) (first_good r all.0) all.1))

pub undone_good : (atomic : Bool) (p : Designator) (rs : List Signed) → Fine 65 (target_of p) → Terms 64 rs → Fine 130 (without_terms atomic p rs)
undone_good true p rs f t = sum_undone p rs f t
undone_good false p rs f t = fine_more 129 130 (chained (target_of p) (turned_terms rs)) (omega arith) (turned_good p rs f t)

rest_good : (on : List ℕ → Bool) (rs : List Signed) → Every IsTerm rs → Every (Good on) (rest_occurrences on rs)
rest_good on [] t = tt
rest_good on (r ∷ rs) t =
    let first = t.0 in
    let l = first.levels in
    every_append (Good on) (occurrences on r.1 r.0 []) (rest_occurrences on rs) (occurrences_good on r.1 r.0 [] 65 (omega arith) (omega (arith, l)) first (record { readable = refl; levels = omega arith }))
    (rest_good on rs t.1)

pub assignment_good : (on : List ℕ → Bool) (e : Expression) (o : Option (List Signed)) → Fine 64 e → OnTerms 64 o → Every (Good on) (assignment_occurrences on e o)
assignment_good on e None f t = let l = f.levels in occurrences_good on e false [] 65 (omega arith) (omega (arith, l)) f (record { readable = refl; levels = omega arith })
assignment_good on e (Some rs) f t = rest_good on rs t.all

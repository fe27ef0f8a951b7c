-- A name is carried where the reverse part increments its adjoint.
use Rattle.std.proofs.Common.{◌≡◌, ℕ, zero, suc, ◌+◌, ◌==◌, Bool, true, false, not, ◌&&◌, ◌||◌, if◌then◌else◌, bytes_eq, List, [], ◌∷◌, ◌++◌, Option, Some, None, is_some, refl, ap, sym, subst, ◌∙◌, arith}
use Rattle.std.specs.List.{list_any}
use Rattle.std.proofs.lemmas.Bool.{and_parts}
use Rattle.std.proofs.lemmas.Bool.Decides.{nat_tests}
use Rattle.std.proofs.lemmas.Slice.Eq.{bytes_eq-Decides}
use Rattle.std.proofs.lemmas.List.Folds.{list_any-append}
use Rattle.fl_ast.specs.declared.kind.BinOp.TheVariants as op
use Rattle.fl_ast.specs.declared.kind.Fun.TheVariants as fun
use Rattle.fl_ast.specs.declared.kind.Kind.TheVariants as kind
use Rattle.fl_ast.specs.declared.kind.RelOp.{RelOp}
use Rattle.fl_ast.specs.declared.kind.RelOp.TheVariants as rel
use Rattle.fl_ast.specs.Tree.{Expression, literal, get, minus, binary, power, call, Expressions, no_expressions, expression, Designator, relation, Statement, assignment, branch, loop, Statements, no_statements, statement, Arms, no_arms, arm}
use Rattle.fl_ast.specs.Occurs.{occurs, occurs_in_any}
use Rattle.fl_ast.specs.Readable.{number_of}
use Rattle.fl_ast.specs.Same.{same_expression, same_expressions}
use Rattle.fl_types.specs.declared.increment.IncrementForm.TheVariants.{Chain, Sum}
use Rattle.fl_types.specs.Increment.{Signed, longer, chain, first_of_sum, are_free_of, if_free, either, target_of, rest_terms, increment_form, increment_terms}
use Rattle.adjoint_rules.specs.Needed.{Kinds}
use Rattle.adjoint_rules.specs.Occurrences.{Factor, operand, either as one_of, Occurrence, power_factors, minus_one, occurrences, of_two, of_one, rest_occurrences, assignment_occurrences}
use Rattle.adjoint_choices.specs.Choosing.{is_of, grows_by, grows, grows_in, grows_in_arms}
use Rattle.adjoint_choices.specs.Walked.{is_division, is_followed, carries, any_carries, carried_by, carried, carried_in, carried_in_arms}

-- ---- of expressions

or_none : (a : Bool) → (a || false) ≡ a
or_none true = refl
or_none false = refl

joined : (x : List ℕ) (a b : List Occurrence) (c d : Bool) → list_any (is_of x) a ≡ c → list_any (is_of x) b ≡ d → list_any (is_of x) (a ++ b) ≡ (c || d)
joined x a b c d p q = list_any-append (is_of x) a b ∙ (ap (λ r. r || list_any (is_of x) b) p ∙ ap (λ r. c || r) q)

at_name : (x : List ℕ) (on : List ℕ → Bool) → on x ≡ true → (y : List ℕ) (s : Expressions) (less : Bool) (fs : List Factor)
    → list_any (is_of x) (if on y then record { place = record { name = y; subscripts = s }; negative = less; factors = fs } ∷ [] else []) ≡ bytes_eq x y
at_name x on h y s less fs = by_test (on y) refl
  where
    apart : (c : Bool) → bytes_eq x y ≡ c → on y ≡ false → false ≡ c
    apart true e f = sym f ∙ (ap on (sym ((bytes_eq-Decides x y).0 e)) ∙ h)
    apart false e f = refl

    by_test : (b : Bool) → on y ≡ b → list_any (is_of x) (if b then record { place = record { name = y; subscripts = s }; negative = less; factors = fs } ∷ [] else []) ≡ bytes_eq x y
    by_test true e = or_none (bytes_eq x y)
    by_test false e = apart (bytes_eq x y) refl e

-- the other two have other numbers of operands
three : (n : ℕ) → (1 + (1 + (1 + n)) == 2) ≡ false
three n = grind (arith, nat_tests)

two : (n : ℕ) → (1 + (1 + n) == 1) ≡ false
two n = grind (arith, nat_tests)

mutual
  carries_is : (x : List ℕ) (on : List ℕ → Bool) → on x ≡ true → (e : Expression) (less : Bool) (fs : List Factor) → list_any (is_of x) (occurrences on e less fs) ≡ carries x e
  carries_is x on h (literal n k) less fs = refl
  carries_is x on h (get y s) less fs = at_name x on h y s less fs
  carries_is x on h (minus a) less fs = carries_is x on h a (not less) fs
  carries_is x on h (binary op.Add a b) less fs =
      joined x (occurrences on a less fs) (occurrences on b less fs) (carries x a) (carries x b) (carries_is x on h a less fs) (carries_is x on h b less fs)
  carries_is x on h (binary op.Sub a b) less fs =
      joined x (occurrences on a less fs) (occurrences on b (not less) fs) (carries x a) (carries x b) (carries_is x on h a less fs) (carries_is x on h b (not less) fs)
  carries_is x on h (binary op.Mul a b) less fs =
      joined x (occurrences on a less (fs ++ operand b ∷ [])) (occurrences on b less (fs ++ operand a ∷ [])) (carries x a) (carries x b)
      (carries_is x on h a less (fs ++ operand b ∷ [])) (carries_is x on h b less (fs ++ operand a ∷ []))
  carries_is x on h (binary op.Div a b) less fs = refl
  carries_is x on h (power a n) less fs = carries_is x on h a less (fs ++ power_factors a n)
  carries_is x on h (call fun.Max s) less fs = two_are x on h rel.Ge s less fs
  carries_is x on h (call fun.Min s) less fs = two_are x on h rel.Le s less fs
  carries_is x on h (call fun.Abs s) less fs = one_is x on h s less fs
  carries_is x on h (call fun.Mod s) less fs = refl

  two_are : (x : List ℕ) (on : List ℕ → Bool) → on x ≡ true → (o : RelOp) (s : Expressions) (less : Bool) (fs : List Factor)
      → list_any (is_of x) (of_two on o s less fs) ≡ (if number_of s == 2 then any_carries x s else false)
  two_are x on h o no_expressions less fs = refl
  two_are x on h o (expression a no_expressions) less fs = refl
  two_are x on h o (expression a (expression b no_expressions)) less fs =
      joined x (occurrences on a less (fs ++ one_of 1 0 (relation o a b) ∷ [])) (occurrences on b less (fs ++ one_of 0 1 (relation o a b) ∷ [])) (carries x a) (carries x b)
      (carries_is x on h a less (fs ++ one_of 1 0 (relation o a b) ∷ [])) (carries_is x on h b less (fs ++ one_of 0 1 (relation o a b) ∷ []))
      ∙ ap (λ r. carries x a || r) (sym (or_none (carries x b)))
  two_are x on h o (expression a (expression b (expression c s))) less fs = rw (three (number_of s)) refl

  one_is : (x : List ℕ) (on : List ℕ → Bool) → on x ≡ true → (s : Expressions) (less : Bool) (fs : List Factor)
      → list_any (is_of x) (of_one on s less fs) ≡ (if number_of s == 1 then any_carries x s else false)
  one_is x on h no_expressions less fs = refl
  one_is x on h (expression a no_expressions) less fs =
      carries_is x on h a less (fs ++ one_of minus_one 1 (relation rel.Lt a (literal 0 kind.Ring)) ∷ []) ∙ sym (or_none (carries x a))
  one_is x on h (expression a (expression b s)) less fs = rw (two (number_of s)) refl

-- ---- of rest terms

abbrev any_term : List ℕ → List Signed → Bool
any_term x [] = false
any_term x (r ∷ rs) = carries x r.1 || any_term x rs

rest_is : (x : List ℕ) (on : List ℕ → Bool) → on x ≡ true → (rs : List Signed) → list_any (is_of x) (rest_occurrences on rs) ≡ any_term x rs
rest_is x on h [] = refl
rest_is x on h (r ∷ rs) = joined x (occurrences on r.1 r.0 []) (rest_occurrences on rs) (carries x r.1) (any_term x rs) (carries_is x on h r.1 r.0 []) (rest_is x on h rs)

or_assoc : (a b c : Bool) → (a || (b || c)) ≡ ((a || b) || c)
or_assoc true b c = refl
or_assoc false b c = refl

more_terms : (x : List ℕ) (qs : List Signed) (r : Signed) → any_term x (qs ++ r ∷ []) ≡ (any_term x qs || carries x r.1)
more_terms x [] r = or_none (carries x r.1)
more_terms x (q ∷ qs) r = ap (λ c. carries x q.1 || c) (more_terms x qs r) ∙ or_assoc (carries x q.1) (any_term x qs) (carries x r.1)

is_some_of : {X : Type 0} (a b : X) → Some a ≡ Some b → a ≡ b
is_some_of a b e = grind (arith, e)

longer_is : (o : Option (List Signed)) (r : Signed) (rs : List Signed) → longer o r ≡ Some rs → (qs : List Signed) × (o ≡ Some qs) × (rs ≡ qs ++ r ∷ [])
longer_is None r rs e = absurd (grind (arith, e))
longer_is (Some qs) r rs e = (qs, refl, sym (is_some_of _ _ e))

-- another name than the target's isn't carried by the target
same_as_target : (x y : List ℕ) (s : Expressions) (a : Expression) → bytes_eq x y ≡ false → same_expression (get y s) a ≡ true → carries x a ≡ false
same_as_target x y s (literal n k) h e = refl
same_as_target x y s (get z t) h e = ap (bytes_eq x) (sym ((bytes_eq-Decides y z).0 (and_parts (bytes_eq y z) (same_expressions s t) e).0)) ∙ h
same_as_target x y s (minus a) h e = absurd (grind (arith, e))
same_as_target x y s (binary o a b) h e = absurd (grind (arith, e))
same_as_target x y s (power a n) h e = absurd (grind (arith, e))
same_as_target x y s (call f u) h e = absurd (grind (arith, e))

chain_step : (x : List ℕ) (y : List ℕ) (s : Expressions) (a b : Expression) (less : Bool) (rs : List Signed) → bytes_eq x y ≡ false
    → ((qs : List Signed) → chain (get y s) a ≡ Some qs → carries x a ≡ any_term x qs)
    → (c : Bool) → same_expression (get y s) a ≡ c → (if c then Some ((less, b) ∷ []) else longer (chain (get y s) a) (less, b)) ≡ Some rs → (carries x a || carries x b) ≡ any_term x rs
chain_step x y s a b less rs h f true c e =
    ap (λ r. r || carries x b) (same_as_target x y s a h c) ∙ (sym (or_none (carries x b)) ∙ ap (any_term x) (is_some_of _ _ e))
chain_step x y s a b less rs h f false c e =
    let l = longer_is (chain (get y s) a) (less, b) rs e in
    ap (λ r. r || carries x b) (f l.0 l.1) ∙ (sym (more_terms x l.0 (less, b)) ∙ ap (any_term x) (sym l.2))

chain_is : (x : List ℕ) (y : List ℕ) (s : Expressions) (e : Expression) (rs : List Signed) → bytes_eq x y ≡ false → chain (get y s) e ≡ Some rs → carries x e ≡ any_term x rs
chain_is x y s (literal n k) rs h e = absurd (grind (arith, e))
chain_is x y s (get z t) rs h e = absurd (grind (arith, e))
chain_is x y s (minus a) rs h e = absurd (grind (arith, e))
chain_is x y s (binary op.Add a b) rs h e = chain_step x y s a b false rs h (λ qs g. chain_is x y s a qs h g) (same_expression (get y s) a) refl e
chain_is x y s (binary op.Sub a b) rs h e = chain_step x y s a b true rs h (λ qs g. chain_is x y s a qs h g) (same_expression (get y s) a) refl e
chain_is x y s (binary op.Mul a b) rs h e = absurd (grind (arith, e))
chain_is x y s (binary op.Div a b) rs h e = absurd (grind (arith, e))
chain_is x y s (power a n) rs h e = absurd (grind (arith, e))
chain_is x y s (call f u) rs h e = absurd (grind (arith, e))

sum_step : (x : List ℕ) (y : List ℕ) (s : Expressions) (a b : Expression) (rs : List Signed) → bytes_eq x y ≡ false
    → (c : Bool) → same_expression (get y s) b ≡ c → (if c then Some ((false, a) ∷ []) else None) ≡ Some rs → (carries x a || carries x b) ≡ any_term x rs
sum_step x y s a b rs h true c e = ap (λ r. carries x a || r) (same_as_target x y s b h c) ∙ ap (any_term x) (is_some_of _ _ e)
sum_step x y s a b rs h false c e = absurd (grind (arith, e))

sum_is : (x : List ℕ) (y : List ℕ) (s : Expressions) (e : Expression) (rs : List Signed) → bytes_eq x y ≡ false → first_of_sum (get y s) e ≡ Some rs → carries x e ≡ any_term x rs
sum_is x y s (literal n k) rs h e = absurd (grind (arith, e))
sum_is x y s (get z t) rs h e = absurd (grind (arith, e))
sum_is x y s (minus a) rs h e = absurd (grind (arith, e))
sum_is x y s (binary op.Add a b) rs h e = sum_step x y s a b rs h (same_expression (get y s) b) refl e
sum_is x y s (binary op.Sub a b) rs h e = absurd (grind (arith, e))
sum_is x y s (binary op.Mul a b) rs h e = absurd (grind (arith, e))
sum_is x y s (binary op.Div a b) rs h e = absurd (grind (arith, e))
sum_is x y s (power a n) rs h e = absurd (grind (arith, e))
sum_is x y s (call f u) rs h e = absurd (grind (arith, e))

-- ---- rest terms are free of the target

or_false_left : (a b : Bool) → (a || b) ≡ false → a ≡ false
or_false_left true b e = e
or_false_left false b e = refl

or_false_right : (a b : Bool) → (a || b) ≡ false → b ≡ false
or_false_right true b e = absurd (grind (arith, e))
or_false_right false b e = e

neither : (a b : Bool) → a ≡ false → b ≡ false → (a || b) ≡ false
neither true b p q = p
neither false b p q = q

if_none : (c a : Bool) → a ≡ false → (if c then a else false) ≡ false
if_none true a e = e
if_none false a e = refl

if_not : (c a : Bool) → a ≡ false → (if c then false else a) ≡ false
if_not true a e = refl
if_not false a e = e

turned : (x y : List ℕ) → bytes_eq y x ≡ false → bytes_eq x y ≡ false
turned x y h = by_test (bytes_eq x y) refl
  where
    by_test : (c : Bool) → bytes_eq x y ≡ c → c ≡ false
    by_test true e = sym ((bytes_eq-Decides y x).1 (sym ((bytes_eq-Decides x y).0 e))) ∙ h
    by_test false e = refl

mutual
  absent : (x : List ℕ) (e : Expression) → occurs x e ≡ false → carries x e ≡ false
  absent x (literal n k) h = refl
  absent x (get y s) h = turned x y (or_false_left (bytes_eq y x) (occurs_in_any x s) h)
  absent x (minus a) h = absent x a h
  absent x (binary o a b) h =
      if_not (is_division o) (carries x a || carries x b)
      (neither (carries x a) (carries x b) (absent x a (or_false_left (occurs x a) (occurs x b) h)) (absent x b (or_false_right (occurs x a) (occurs x b) h)))
  absent x (power a n) h = absent x a h
  absent x (call f s) h = if_none (is_followed f (number_of s)) (any_carries x s) (all_absent x s h)

  all_absent : (x : List ℕ) (s : Expressions) → occurs_in_any x s ≡ false → any_carries x s ≡ false
  all_absent x no_expressions h = refl
  all_absent x (expression a s) h =
      neither (carries x a) (any_carries x s) (absent x a (or_false_left (occurs x a) (occurs_in_any x s) h)) (all_absent x s (or_false_right (occurs x a) (occurs_in_any x s) h))

not_true : (a : Bool) → not a ≡ true → a ≡ false
not_true true e = sym e
not_true false e = refl

free_terms : (x : List ℕ) (rs : List Signed) → are_free_of x rs ≡ true → any_term x rs ≡ false
free_terms x [] h = refl
free_terms x (r ∷ rs) h =
    let p = and_parts (not (occurs x r.1)) (are_free_of x rs) h in
    neither (carries x r.1) (any_term x rs) (absent x r.1 (not_true (occurs x r.1) p.0)) (free_terms x rs p.1)

-- terms that are free are the terms
free_is : (x : List ℕ) (o : Option (List Signed)) (rs : List Signed) → if_free x o ≡ Some rs → (o ≡ Some rs) × (are_free_of x rs ≡ true)
free_is x None rs h = absurd (grind (arith, h))
free_is x (Some qs) rs h = by_test (are_free_of x qs) refl h
  where
    by_test : (b : Bool) → are_free_of x qs ≡ b → (if b then Some qs else None) ≡ Some rs → (Some qs ≡ Some rs) × (are_free_of x rs ≡ true)
    by_test true f e = (e, ap (are_free_of x) (sym (is_some_of _ _ e)) ∙ f)
    by_test false f e = absurd (grind (arith, e))

-- ---- of assignments

-- what the rest terms of an assignment are: none, or free of the target, another name being carried by them or not at all
pub record Told (x : List ℕ) (p : Designator) (e : Expression) (rs : List Signed) : Type 0 where
  free : are_free_of p.name rs ≡ true
  others : bytes_eq x p.name ≡ false → carries x e ≡ any_term x rs

told_by : (x : List ℕ) (p : Designator) (e : Expression) (c d : Option (List Signed)) (rs : List Signed)
    → ((qs : List Signed) → c ≡ Some qs → Told x p e qs) → ((qs : List Signed) → d ≡ Some qs → Told x p e qs) → either c d ≡ Some rs → Told x p e rs
told_by x p e (Some qs) d rs f g h = f rs h
told_by x p e None d rs f g h = g rs h

told : (x : List ℕ) (p : Designator) (e : Expression) (rs : List Signed) → rest_terms p e ≡ Some rs → Told x p e rs
told x p e rs h =
    told_by x p e (if_free p.name (chain (target_of p) e)) (if_free p.name (first_of_sum (target_of p) e)) rs
    (λ qs g. let f = free_is p.name (chain (target_of p) e) qs g in record { free = f.1; others = λ a. chain_is x p.name p.subscripts e qs a f.0 })
    (λ qs g. let f = free_is p.name (first_of_sum (target_of p) e) qs g in record { free = f.1; others = λ a. sum_is x p.name p.subscripts e qs a f.0 })
    h

some_form : (c d : Option (List Signed)) → is_some (if is_some c then Some Chain else if is_some d then Some Sum else None) ≡ is_some (either c d)
some_form (Some rs) d = refl
some_form None (Some rs) = refl
some_form None None = refl

has_form : (p : Designator) (e : Expression) → is_some (increment_form p e) ≡ is_some (rest_terms p e)
has_form p e = some_form (if_free p.name (chain (target_of p) e)) (if_free p.name (first_of_sum (target_of p) e))

-- what the tests make of it: an increment's own target is none
tests : (c a q r s held : Bool) → ((q && (r && s)) ≡ true → held ≡ false) → ((q && (r && s)) ≡ false → held ≡ c)
    → (a && held) ≡ (if not c then false else if not a then false else if not q then true else if not r then true else not s)
tests true false q r s held f g = refl
tests false false q r s held f g = refl
tests true true false r s held f g = g refl
tests false true false r s held f g = g refl
tests true true true false s held f g = g refl
tests false true true false s held f g = g refl
tests true true true true false held f g = g refl
tests false true true true false held f g = g refl
tests true true true true true held f g = f refl
tests false true true true true held f g = f refl

held_own : (x : List ℕ) (on : List ℕ → Bool) (p : Designator) (e : Expression) (o : Option (List Signed)) → on x ≡ true → ((rs : List Signed) → o ≡ Some rs → Told x p e rs)
    → (r q : Bool) → bytes_eq x p.name ≡ q → (q && (r && is_some o)) ≡ true → list_any (is_of x) (assignment_occurrences on e (if r then o else None)) ≡ false
held_own x on p e (Some rs) h f true true n t =
    rest_is x on h rs ∙ (ap (λ y. any_term y rs) ((bytes_eq-Decides x p.name).0 n) ∙ free_terms p.name rs (f rs refl).free)
held_own x on p e None h f true true n t = absurd (grind (arith, t))
held_own x on p e o h f false true n t = absurd (grind (arith, t))
held_own x on p e o h f r false n t = absurd (grind (arith, t))

held_other : (x : List ℕ) (on : List ℕ → Bool) (p : Designator) (e : Expression) (o : Option (List Signed)) → on x ≡ true → ((rs : List Signed) → o ≡ Some rs → Told x p e rs)
    → (r q : Bool) → bytes_eq x p.name ≡ q → (q && (r && is_some o)) ≡ false → list_any (is_of x) (assignment_occurrences on e (if r then o else None)) ≡ carries x e
held_other x on p e o h f false q n t = carries_is x on h e false []
held_other x on p e None h f true q n t = carries_is x on h e false []
held_other x on p e (Some rs) h f true true n t = absurd (grind (arith, t))
held_other x on p e (Some rs) h f true false n t = rest_is x on h rs ∙ sym ((f rs refl).others n)

carried_by_is : (k : Kinds) (x : List ℕ) (p : Designator) (e : Expression) → k.active x ≡ true → grows_by k x p e ≡ carried_by k x p e
carried_by_is k x p e h =
    tests (carries x e) (k.active p.name) (bytes_eq x p.name) (k.ring p.name) (is_some (rest_terms p e)) (list_any (is_of x) (assignment_occurrences k.active e (increment_terms k.ring p e)))
    (held_own x k.active p e (rest_terms p e) h (told x p e) (k.ring p.name) (bytes_eq x p.name) refl)
    (held_other x k.active p e (rest_terms p e) h (told x p e) (k.ring p.name) (bytes_eq x p.name) refl)
    ∙ ap (λ s. if not (carries x e) then false else if not (k.active p.name) then false else if not (bytes_eq x p.name) then true else if not (k.ring p.name) then true else not s) (sym (has_form p e))

-- ---- of statements

both : (a b c d : Bool) → a ≡ c → b ≡ d → (a || b) ≡ (c || d)
both a b c d p q = ap (λ r. r || b) p ∙ ap (λ r. c || r) q

mutual
  carried_is : (k : Kinds) (x : List ℕ) → k.active x ≡ true → (s : Statement) → grows k x s ≡ carried k x s
  carried_is k x h (assignment line atomic p e) = carried_by_is k x p e h
  carried_is k x h (branch line arms other) = both (grows_in_arms k x arms) (grows_in k x other) (carried_in_arms k x arms) (carried_in k x other) (arms_are k x h arms) (walked_is k x h other)
  carried_is k x h (loop line number directive var first last step body) = walked_is k x h body

  pub walked_is : (k : Kinds) (x : List ℕ) → k.active x ≡ true → (ss : Statements) → grows_in k x ss ≡ carried_in k x ss
  walked_is k x h no_statements = refl
  walked_is k x h (statement s ss) = both (grows k x s) (grows_in k x ss) (carried k x s) (carried_in k x ss) (carried_is k x h s) (walked_is k x h ss)

  arms_are : (k : Kinds) (x : List ℕ) → k.active x ≡ true → (arms : Arms) → grows_in_arms k x arms ≡ carried_in_arms k x arms
  arms_are k x h no_arms = refl
  arms_are k x h (arm test body arms) = both (grows_in k x body) (grows_in_arms k x arms) (carried_in k x body) (carried_in_arms k x arms) (walked_is k x h body) (arms_are k x h arms)

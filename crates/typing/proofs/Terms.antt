-- The terms of increments by their forms.
use Rattle.std.proofs.Common.{◌≡◌, ℕ, ◌+◌, ◌<◌, Bool, true, false, not, ◌&&◌, ◌||◌, if◌then◌else◌, nat_lt, List, [], ◌∷◌, ◌++◌, length, Option, Some, None, is_some, refl, sym, ap, ◌∙◌, arith}
use Rattle.std.proofs.lemmas.List.{length-append}
use Rattle.std.proofs.lemmas.Bool.{lt-ltb}
use Rattle.fl_ast.specs.declared.kind.BinOp.TheVariants.{Add, Sub, Mul, Div}
use Rattle.fl_ast.specs.Same.{same_expression}
use Rattle.fl_ast.specs.Tree.{Expression, literal, get, minus, binary, power, call, Designator}
use Rattle.fl_types.specs.declared.increment.IncrementForm.{IncrementForm}
use Rattle.fl_types.specs.declared.increment.IncrementForm.TheVariants.{Chain, Sum}
use Rattle.fl_types.specs.Increment.{Signed, longer, chain, first_of_sum, are_free_of, if_free, either, target_of, rest_terms, increment_form, increment_terms}
use Rattle.fl_types.specs.Rows.{has_minus, is_no_update, is_no_terms}
use Rattle.fl_types.specs.Sharing.{is_ring_name}
use Rattle.fl_ast.specs.declared.stmt.Program.{Program}
use Rattle.typing.specs.Firsts.{own_of}
use Rattle.typing.specs.Updates.{chain_minus, is_long_chain}

some_is : {A : Type 0} (x y : A) → Some x ≡ Some y → x ≡ y
some_is x y h = cc

no_some : {A : Type 0} (x : A) → None ≡ Some x → ⊥
no_some x h = cc

or_no : (b : Bool) → (b || false) ≡ b
or_no true = refl
or_no false = refl

or_yes : (b : Bool) → (b || true) ≡ true
or_yes true = refl
or_yes false = refl

-- ---- chains

sign_append : (ts : List Signed) (t : Signed) → has_minus (ts ++ t ∷ []) ≡ has_minus ts || t.0
sign_append [] t = or_no t.0
sign_append (u ∷ ts) t = ap (λ b. u.0 || b) (sign_append ts t) ∙ grouped u.0 (has_minus ts) t.0
  where
    grouped : (a b c : Bool) → (a || (b || c)) ≡ ((a || b) || c)
    grouped true b c = refl
    grouped false b c = refl

-- what is known of a chain's terms
record Terms (sign long : Bool) (o : Option (List Signed)) : Type 0 where
  signs : (ts : List Signed) → o ≡ Some ts → has_minus ts ≡ sign
  some : (ts : List Signed) → o ≡ Some ts → 0 < length ts
  size : (ts : List Signed) → o ≡ Some ts → nat_lt 1 (length ts) ≡ long

no_terms : (a b : Bool) → Terms a b None
no_terms a b = record {
  signs = λ ts h. absurd (no_some ts h);
  some = λ ts h. absurd (no_some ts h);
  size = λ ts h. absurd (no_some ts h);
}

one_term : (t : Signed) → Terms t.0 false (Some (t ∷ []))
one_term t = record {
  signs = λ ts h. ap has_minus (sym (some_is _ _ h)) ∙ or_no t.0;
  some = λ ts h. let e : length (t ∷ []) ≡ length ts = ap length (some_is _ _ h) in omega (arith, e);
  size = λ ts h. ap (λ us. nat_lt 1 (length us)) (sym (some_is _ _ h));
}

more_terms : (a b : Bool) (o : Option (List Signed)) (t : Signed) → Terms a b o → Terms (a || t.0) true (longer o t)
more_terms a b None t k = no_terms (a || t.0) true
more_terms a b (Some rs) t k =
    let n : length (rs ++ t ∷ []) ≡ length rs + 1 = length-append rs (t ∷ []) in
    let m : 0 < length rs = k.some rs refl in
    let two : 1 < length (rs ++ t ∷ []) = omega (arith, n, m) in
    record {
      signs = λ ts h. ap has_minus (sym (some_is _ _ h)) ∙ (sign_append rs t ∙ ap (λ c. c || t.0) (k.signs rs refl));
      some = λ ts h. let e : length (rs ++ t ∷ []) ≡ length ts = ap length (some_is _ _ h) in omega (arith, e, n);
      size = λ ts h. ap (λ us. nat_lt 1 (length us)) (sym (some_is _ _ h)) ∙ lt-ltb 1 (length (rs ++ t ∷ [])) two;
    }

added : (c a b : Bool) (o : Option (List Signed)) (e : Expression) → Terms a b o
    → Terms (if c then false else a) (not c) (if c then Some ((false, e) ∷ []) else longer o (false, e))
added true a b o e k = one_term (false, e)
added false a b o e k = let m : Terms (a || false) true (longer o (false, e)) = more_terms a b o (false, e) k in rw (← or_no a) m

with_sign : (a b l : Bool) (o : Option (List Signed)) → a ≡ b → Terms a l o → Terms b l o
with_sign a b l o h k = rw (← h) k

taken : (c a b : Bool) (o : Option (List Signed)) (e : Expression) → Terms a b o
    → Terms true (not c) (if c then Some ((true, e) ∷ []) else longer o (true, e))
taken true a b o e k = one_term (true, e)
taken false a b o e k = with_sign (a || true) true true (longer o (true, e)) (or_yes a) (more_terms a b o (true, e) k)

chain_terms : (t e : Expression) → Terms (chain_minus t e) (is_long_chain t e) (chain t e)
chain_terms t (literal n k) = no_terms false false
chain_terms t (get x s) = no_terms false false
chain_terms t (minus a) = no_terms false false
chain_terms t (binary Add a b) = added (same_expression t a) _ _ (chain t a) b (chain_terms t a)
chain_terms t (binary Sub a b) = taken (same_expression t a) _ _ (chain t a) b (chain_terms t a)
chain_terms t (binary Mul a b) = no_terms false (not (same_expression t a))
chain_terms t (binary Div a b) = no_terms false (not (same_expression t a))
chain_terms t (power a n) = no_terms false false
chain_terms t (call f s) = no_terms false false

-- ---- what is free of the name

kept_if : (b : Bool) (us ts : List Signed) → (if b then Some us else None) ≡ Some ts → us ≡ ts
kept_if true us ts h = some_is us ts h
kept_if false us ts h = absurd (no_some ts h)

free_is : (x : List ℕ) (o : Option (List Signed)) (ts : List Signed) → if_free x o ≡ Some ts → o ≡ Some ts
free_is x None ts h = absurd (no_some ts h)
free_is x (Some us) ts h = ap Some (kept_if (are_free_of x us) us ts h)

-- ---- sums

one_plus : (c : Bool) (r : Expression) (ts : List Signed) → (if c then Some ((false, r) ∷ []) else None) ≡ Some ts → has_minus ts ≡ false
one_plus true r ts h = ap has_minus (sym (some_is _ _ h))
one_plus false r ts h = absurd (no_some ts h)

sum_plus : (t e : Expression) (ts : List Signed) → first_of_sum t e ≡ Some ts → has_minus ts ≡ false
sum_plus t (literal n k) ts h = absurd (no_some ts h)
sum_plus t (get x s) ts h = absurd (no_some ts h)
sum_plus t (minus a) ts h = absurd (no_some ts h)
sum_plus t (binary Add a b) ts h = one_plus (same_expression t b) a ts h
sum_plus t (binary Sub a b) ts h = absurd (no_some ts h)
sum_plus t (binary Mul a b) ts h = absurd (no_some ts h)
sum_plus t (binary Div a b) ts h = absurd (no_some ts h)
sum_plus t (power a n) ts h = absurd (no_some ts h)
sum_plus t (call f s) ts h = absurd (no_some ts h)

-- ---- forms

abbrev form_by : Option (List Signed) → Option (List Signed) → Option IncrementForm
form_by a b = if is_some a then Some Chain else if is_some b then Some Sum else None

form_none : (a b : Option (List Signed)) → form_by a b ≡ None → either a b ≡ None
form_none None None h = refl
form_none None (Some y) h = absurd (no_some Sum (sym h))
form_none (Some x) b h = absurd (no_some Chain (sym h))

form_some : (a b : Option (List Signed)) (f : IncrementForm) → form_by a b ≡ Some f → is_no_terms (either a b) ≡ false
form_some None None f h = absurd (no_some f h)
form_some None (Some y) f h = refl
form_some (Some x) b f h = refl

form_sum : (a b : Option (List Signed)) → ((ts : List Signed) → b ≡ Some ts → has_minus ts ≡ false) → form_by a b ≡ Some Sum → is_no_update (either a b) ≡ false
form_sum None None k h = absurd (no_some Sum h)
form_sum None (Some y) k h = ap (λ s. s && nat_lt 1 (length y)) (k y refl)
form_sum (Some x) b k h = absurd (let f : Chain ≡ Sum = some_is Chain Sum h in cc)

form_chain : (a b : Option (List Signed)) (s l : Bool) → ((ts : List Signed) → a ≡ Some ts → has_minus ts ≡ s) → ((ts : List Signed) → a ≡ Some ts → nat_lt 1 (length ts) ≡ l)
    → form_by a b ≡ Some Chain → is_no_update (either a b) ≡ s && l
form_chain None None s l k j h = absurd (no_some Chain h)
form_chain None (Some y) s l k j h = absurd (let f : Sum ≡ Chain = some_is Sum Chain h in cc)
form_chain (Some x) b s l k j h = ap (λ c. c && nat_lt 1 (length x)) (k x refl) ∙ ap (λ c. s && c) (j x refl)

pub no_form : (p : Designator) (e : Expression) → increment_form p e ≡ None → rest_terms p e ≡ None
no_form p e h = form_none (if_free p.name (chain (target_of p) e)) (if_free p.name (first_of_sum (target_of p) e)) h

pub some_form : (p : Designator) (e : Expression) (f : IncrementForm) → increment_form p e ≡ Some f → is_no_terms (rest_terms p e) ≡ false
some_form p e f h = form_some (if_free p.name (chain (target_of p) e)) (if_free p.name (first_of_sum (target_of p) e)) f h

pub sum_form : (p : Designator) (e : Expression) → increment_form p e ≡ Some Sum → is_no_update (rest_terms p e) ≡ false
sum_form p e h =
    form_sum (if_free p.name (chain (target_of p) e)) (if_free p.name (first_of_sum (target_of p) e)) (λ ts g. sum_plus (target_of p) e ts (free_is p.name _ ts g)) h

pub chain_form : (p : Designator) (e : Expression) → increment_form p e ≡ Some Chain → is_no_update (rest_terms p e) ≡ chain_minus (target_of p) e && is_long_chain (target_of p) e
chain_form p e h =
    let k = chain_terms (target_of p) e in
    form_chain (if_free p.name (chain (target_of p) e)) (if_free p.name (first_of_sum (target_of p) e)) _ _
    (λ ts g. k.signs ts (free_is p.name _ ts g)) (λ ts g. k.size ts (free_is p.name _ ts g)) h

pub own_is : (p : Program) (t : Designator) (e : Expression) (f : IncrementForm) → is_ring_name p.decls t.name ≡ true → increment_form t e ≡ Some f → own_of p t e ≡ Some t.name
own_is p t e f r h = rw (r, some_form t e f h) refl

pub sum_update : (p : Program) (t : Designator) (e : Expression) → is_ring_name p.decls t.name ≡ true → increment_form t e ≡ Some Sum
    → is_no_update (increment_terms (is_ring_name p.decls) t e) ≡ false
sum_update p t e r h = rw r (sum_form t e h)

pub chain_update : (p : Program) (t : Designator) (e : Expression) → is_ring_name p.decls t.name ≡ true → increment_form t e ≡ Some Chain
    → is_no_update (increment_terms (is_ring_name p.decls) t e) ≡ chain_minus (target_of t) e && is_long_chain (target_of t) e
chain_update p t e r h = rw r (chain_form t e h)

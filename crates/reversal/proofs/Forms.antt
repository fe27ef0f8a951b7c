-- What is made of an increment by its form is what the rules make of its rest terms.
use Rattle.std.proofs.Common.{◌≡◌, ℕ, Bool, true, false, not, ◌&&◌, ◌||◌, if◌then◌else◌, List, [], ◌∷◌, ◌++◌, Option, Some, None, is_some, refl, ap, sym, subst, ◌∙◌, arith}
use Rattle.std.proofs.lemmas.List.{append-nil}
use Rattle.fl_ast.specs.declared.kind.BinOp.TheVariants as op
use Rattle.fl_ast.specs.Tree.{Expression, literal, get, minus, binary, power, call, Designator}
use Rattle.fl_ast.specs.AdjointTree.{AdjointExpression, adjoint_get, AdjointStatement}
use Rattle.fl_ast.specs.Same.{same_expression}
use Rattle.fl_types.specs.declared.increment.IncrementForm.{IncrementForm}
use Rattle.fl_types.specs.declared.increment.IncrementForm.TheVariants.{Chain, Sum}
use Rattle.fl_types.specs.Increment.{Signed, chain, first_of_sum, are_free_of, if_free, either, target_of, rest_terms, increment_form, increment_terms}
use Rattle.adjoint_rules.specs.Occurrences.{occurrences, rest_occurrences}
use Rattle.adjoint_rules.specs.Expressions.{temporary, increments}
use Rattle.adjoint_rules.specs.Scopes.{Scope}
use Rattle.adjoint_rules.specs.Forward.{kept, forward_assignment}
use Rattle.adjoint_rules.specs.Reverse.{backward_plain, backward_increment, backward_assignment, without_terms}
use Rattle.fl_types.specs.declared.choice.NameSet.{NameSet}
use Rattle.fl_types.specs.declared.choice.Chosen.{Chosen}
use Rattle.fl_types.specs.Sharing.{has_name}
use Rattle.reversal.specs.Growth.{is_atomic_in}
use Rattle.reversal.specs.Chains.{chain_turned, chain_sum, is_long, front_of, without_by, growths_by, form_of, backward_by}
use Rattle.reversal.proofs.Spreading.{growths_are}
use Rattle.reversal.proofs.Terms.{Went, goes, not_empty, chain_are, chain_turns, chain_sums}

-- the rest terms of a value with that form
abbrev pub Rests : IncrementForm → Expression → Expression → List Signed → Type 0
Rests Chain t e rs = chain t e ≡ Some rs
Rests Sum t e rs = (rs ≡ (false, front_of e) ∷ [])

free_is : (x : List ℕ) (o : Option (List Signed)) (rs : List Signed) → if_free x o ≡ Some rs → o ≡ Some rs
free_is x None rs h = absurd (grind (arith, h))
free_is x (Some qs) rs h = by_test (are_free_of x qs) h
  where
    by_test : (b : Bool) → (if b then Some qs else None) ≡ Some rs → Some qs ≡ Some rs
    by_test true e = e
    by_test false e = absurd (grind (arith, e))

is_some_of : {X : Type 0} (a b : X) → Some a ≡ Some b → a ≡ b
is_some_of a b e = grind (arith, e)

front_step : (a : Expression) (rs : List Signed) (c : Bool) → (if c then Some ((false, a) ∷ []) else None) ≡ Some rs → rs ≡ (false, a) ∷ []
front_step a rs true h = sym (is_some_of _ _ h)
front_step a rs false h = absurd (grind (arith, h))

front_is : (t e : Expression) (rs : List Signed) → first_of_sum t e ≡ Some rs → rs ≡ (false, front_of e) ∷ []
front_is t (literal n k) rs h = absurd (grind (arith, h))
front_is t (get x s) rs h = absurd (grind (arith, h))
front_is t (minus a) rs h = absurd (grind (arith, h))
front_is t (binary op.Add a b) rs h = front_step a rs (same_expression t b) h
front_is t (binary op.Sub a b) rs h = absurd (grind (arith, h))
front_is t (binary op.Mul a b) rs h = absurd (grind (arith, h))
front_is t (binary op.Div a b) rs h = absurd (grind (arith, h))
front_is t (power a n) rs h = absurd (grind (arith, h))
front_is t (call f s) rs h = absurd (grind (arith, h))

-- an assignment without a form has no rest terms, and one with a form has those
abbrev pub Formed : (t e : Expression) → Option IncrementForm → Option (List Signed) → Type 0
Formed t e None o = o ≡ None
Formed t e (Some f) o = (rs : List Signed) × (o ≡ Some rs) × Rests f t e rs

formed_by : (t e : Expression) (c d : Option (List Signed)) → ((rs : List Signed) → c ≡ Some rs → chain t e ≡ Some rs) → ((rs : List Signed) → d ≡ Some rs → rs ≡ (false, front_of e) ∷ [])
    → Formed t e (if is_some c then Some Chain else if is_some d then Some Sum else None) (either c d)
formed_by t e (Some rs) d f g = (rs, refl, f rs refl)
formed_by t e None (Some rs) f g = (rs, refl, g rs refl)
formed_by t e None None f g = refl

pub formed : (ring : List ℕ → Bool) (p : Designator) (e : Expression) → Formed (target_of p) e (form_of ring p e) (increment_terms ring p e)
formed ring p e = by_test (ring p.name)
  where
    by_test : (b : Bool) → Formed (target_of p) e (if b then increment_form p e else None) (if b then rest_terms p e else None)
    by_test true =
        formed_by (target_of p) e (if_free p.name (chain (target_of p) e)) (if_free p.name (first_of_sum (target_of p) e))
        (λ rs h. free_is p.name (chain (target_of p) e) rs h) (λ rs h. front_is (target_of p) e rs (free_is p.name (first_of_sum (target_of p) e) rs h))
    by_test false = refl

-- ---- growths

pub growths_by_form : (on atomic : List ℕ → Bool) (line : ℕ) (f : IncrementForm) (t e : Expression) (rs : List Signed) → Rests f t e rs
    → growths_by on atomic line f t e (adjoint_get temporary) ≡ increments atomic line (rest_occurrences on rs)
growths_by_form on atomic line Chain t e rs h = chain_are on atomic line t e rs h
growths_by_form on atomic line Sum t e rs h =
    sym (growths_are on atomic line (front_of e) false [])
    ∙ ap (increments atomic line) (sym (append-nil (occurrences on (front_of e) false [])) ∙ ap (rest_occurrences on) (sym h))

-- ---- without the terms

-- whether there are several terms
abbrev several : List Signed → Bool
several [] = false
several (r ∷ []) = false
several (r ∷ s ∷ rs) = true

several_joined : (qs : List Signed) (r : Signed) → (qs ≡ [] → ⊥) → several (qs ++ r ∷ []) ≡ true
several_joined [] r h = absurd (h refl)
several_joined (q ∷ []) r h = refl
several_joined (q ∷ s ∷ qs) r h = refl

long_step : (t a b : Expression) (s : Bool) (rs : List Signed) → (chain t a ≡ Some [] → ⊥) → (c : Bool) → Went t a b s rs c → not c ≡ several rs
long_step t a b s rs bare true h = rw h refl
long_step t a b s rs bare false h = sym (ap several h.2 ∙ several_joined h.0 (s, b) (λ e. bare (h.1 ∙ ap (λ x. Some x) e)))

long_is : (t e : Expression) (rs : List Signed) → chain t e ≡ Some rs → is_long t e ≡ several rs
long_is t (literal n k) rs h = absurd (grind (arith, h))
long_is t (get x s) rs h = absurd (grind (arith, h))
long_is t (minus a) rs h = absurd (grind (arith, h))
long_is t (binary op.Add a b) rs h = let g = goes t a b false rs h in ap not g.same ∙ long_step t a b false rs (not_empty t a) g.others g.terms
long_is t (binary op.Sub a b) rs h = let g = goes t a b true rs h in ap not g.same ∙ long_step t a b true rs (not_empty t a) g.others g.terms
long_is t (binary op.Mul a b) rs h = absurd (grind (arith, h))
long_is t (binary op.Div a b) rs h = absurd (grind (arith, h))
long_is t (power a n) rs h = absurd (grind (arith, h))
long_is t (call f s) rs h = absurd (grind (arith, h))

chain_without : (together : Bool) (p : Designator) (e : Expression) (rs : List Signed) → chain (target_of p) e ≡ Some rs
    → (if together && several rs then binary op.Sub (target_of p) (chain_sum (target_of p) e) else chain_turned (target_of p) e) ≡ without_terms together p rs
chain_without false p e rs h = chain_turns (target_of p) e rs h
chain_without true p e [] h = absurd (not_empty (target_of p) e h)
chain_without true p e (r ∷ []) h = chain_turns (target_of p) e (r ∷ []) h
chain_without true p e (r ∷ s ∷ rs) h = ap (binary op.Sub (target_of p)) (chain_sums (target_of p) e (r ∷ s ∷ rs) h)

one_without : (together : Bool) (p : Designator) (a : Expression) → binary op.Sub (target_of p) a ≡ without_terms together p ((false, a) ∷ [])
one_without true p a = refl
one_without false p a = refl

pub without_is : (f : IncrementForm) (together : Bool) (p : Designator) (e : Expression) (rs : List Signed) → Rests f (target_of p) e rs
    → without_by f together (target_of p) e ≡ without_terms together p rs
without_is Chain together p e rs h =
    ap (λ c. if together && c then binary op.Sub (target_of p) (chain_sum (target_of p) e) else chain_turned (target_of p) e) (long_is (target_of p) e rs h)
    ∙ chain_without together p e rs h
without_is Sum together p e rs h = one_without together p (front_of e) ∙ ap (without_terms together p) (sym h)

-- ---- assignments

-- the terms of a value with a known form
with_form : (ring : List ℕ → Bool) (p : Designator) (e : Expression) (o : Option IncrementForm) → form_of ring p e ≡ o → Formed (target_of p) e o (increment_terms ring p e)
with_form ring p e o h = subst (λ x. Formed (target_of p) e x (increment_terms ring p e)) h (formed ring p e)

pub forward_plain_is : (scope : Scope) (line : ℕ) (atomic : Bool) (p : Designator) (e : Expression) → form_of scope.ring p e ≡ None
    → forward_assignment scope line atomic p e None ≡ forward_assignment scope line atomic p e (increment_terms scope.ring p e)
forward_plain_is scope line atomic p e h = ap (forward_assignment scope line atomic p e) (sym (with_form scope.ring p e None h))

pub forward_form_is : (scope : Scope) (line : ℕ) (atomic : Bool) (p : Designator) (e : Expression) (o : Option IncrementForm) → o ≡ form_of scope.ring p e → (f : IncrementForm) → o ≡ Some f
    → kept line atomic p e ∷ [] ≡ forward_assignment scope line atomic p e (increment_terms scope.ring p e)
forward_form_is scope line atomic p e o h f g = ap (forward_assignment scope line atomic p e) (sym (with_form scope.ring p e (Some f) (sym h ∙ g)).1)

pub backward_plain_is : (scope : Scope) (line : ℕ) (atomic : Bool) (p : Designator) (e : Expression) → form_of scope.ring p e ≡ None
    → backward_plain scope line p e ≡ backward_assignment scope line atomic p e (increment_terms scope.ring p e)
backward_plain_is scope line atomic p e h = ap (backward_assignment scope line atomic p e) (sym (with_form scope.ring p e None h))

increment_is : (scope : Scope) (line : ℕ) (atomic : Bool) (p : Designator) (e : Expression) (f : IncrementForm) (rs : List Signed) → Rests f (target_of p) e rs
    → backward_by scope line atomic f p e ≡ backward_increment scope line atomic p e rs
increment_is scope line atomic p e f rs h =
    let together = atomic || scope.pluses p.name in
    rw (without_is f together p e rs h, growths_by_form scope.active scope.atomic line f (target_of p) e rs h) refl

pub backward_form_is : (scope : Scope) (line : ℕ) (atomic : Bool) (p : Designator) (e : Expression) (f : IncrementForm) → form_of scope.ring p e ≡ Some f
    → backward_by scope line atomic f p e ≡ backward_assignment scope line atomic p e (increment_terms scope.ring p e)
backward_form_is scope line atomic p e f h =
    let w = with_form scope.ring p e (Some f) h in
    increment_is scope line atomic p e f w.0 w.2 ∙ ap (backward_assignment scope line atomic p e) (sym w.1)

-- what the same parts are called doesn't matter
pub terms_from : (a b : NameSet) (c d : List Chosen) (m n : Option ℕ) (k l : ℕ) (f : IncrementForm) (t e : Expression) (amount : AdjointExpression) (old new : List AdjointStatement)
    → a ≡ b → c ≡ d → m ≡ n → k ≡ l → amount ≡ adjoint_get temporary → new ≡ old ++ growths_by (λ x. has_name x a.names) (is_atomic_in c m) k f t e amount
    → new ≡ old ++ growths_by (λ x. has_name x b.names) (is_atomic_in d n) l f t e (adjoint_get temporary)
terms_from a b c d m n k l f t e amount old new ab cd mn kl at h = h ∙ ap (λ x. old ++ x) (rw (ab, cd, mn, kl, at) refl)

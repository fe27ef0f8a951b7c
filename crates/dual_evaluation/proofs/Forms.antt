-- The run of an assignment by its form is the run of the assignment.
use Rattle.std.specs.Prelude.{◌≡◌, ℕ, Bool, true, false, if◌then◌else◌, List, [], ◌∷◌, ◌++◌, Option, Some, None, is_some, Result, Ok, Err, slice_set, refl}
use Rattle.std.proofs.Common.{ap, sym, ◌∙◌, subst, arith}
use Rattle.ring_core.proofs.Modular.{modular, modulo}
use Rattle.ring_core.specs.Ring.{ring_add, ring_sub}
use Rattle.fl_ast.specs.declared.kind.BinOp.TheVariants.{Add, Sub, Mul, Div}
use Rattle.fl_ast.specs.Tree.{Expression, literal, get, minus, binary, power, call, Expressions, Designator}
use Rattle.fl_ast.specs.Same.{same_expression}
use Rattle.fl_types.specs.declared.access.AccessKind.{AccessKind}
use Rattle.fl_types.specs.declared.increment.IncrementForm.{IncrementForm}
use Rattle.fl_types.specs.declared.increment.IncrementForm.TheVariants.{Chain, Sum}
use Rattle.fl_types.specs.Increment.{Signed, longer, target_of, chain, first_of_sum, are_free_of, if_free, either, rest_terms, increment_form, increment_terms}
use Rattle.fl_types.specs.Accesses.{increment_kind}
use Rattle.meaning.specs.declared.value.Dual.{Dual}
use Rattle.meaning.specs.declared.value.Value.{Value}
use Rattle.meaning.specs.declared.value.Value.TheVariants.{Ring}
use Rattle.meaning.specs.declared.value.Cause.{Cause}
use Rattle.meaning.specs.Values.{dual_add, dual_sub, as_dual, whole_numbers}
use Rattle.meaning.specs.Logs.{Log, Traced, pure, continuation, ◌>>=◌, inside, right_side}
use Rattle.meaning.specs.Sites.{Cells, Site, place_of}
use Rattle.meaning.specs.Expressions.{content, value_of, values_of}
use Rattle.meaning.specs.Statements.{store_at, plain_assignment, put, terms_of, incremented_dual, increment_cell, increment_place, increment, assignment_by}
use Rattle.resolved.specs.SlotTables.{Names, table_site, is_ring_in}
use Rattle.resolved.specs.ResolvedStmts.{form_in, same_form}
use Rattle.dual_evaluation.specs.Answers.{location_of}
use Rattle.dual_evaluation.specs.Assignments.{put_by, increment_cell_by, increment_at, increment_by, sum_with, no_sum, chain_sum, front, by_form}
use Rattle.meaning.proofs.ByKeys.{touching_out}

-- one result and then another
abbrev pub next : {X A B : Type 0} → Result A X → (A → Result B X) → Result B X
next (Ok a) f = f a
next (Err x) f = Err x

out_joined : {X A B : Type 0} (l : Log) (r : Result A X) (f : A → Traced X B) → (continuation l r f).out ≡ next r (λ a. (f a).out)
out_joined l (Ok a) f = refl
out_joined l (Err x) f = refl

pub out_then : {X A B : Type 0} (t : Traced X A) (f : A → Traced X B) → (t >>= f).out ≡ next t.out (λ a. (f a).out)
out_then t f = out_joined t.log t.out f

-- ---- sums

assoc : (a b c : Dual) → dual_add (dual_add a b) c ≡ dual_add a (dual_add b c)
assoc a b c =
    let v : ring_add (ring_add a.value b.value) c.value ≡ ring_add a.value (ring_add b.value c.value) = simp modular (modulo (omega arith)) in
    let t : ring_add (ring_add a.tangent b.tangent) c.tangent ≡ ring_add a.tangent (ring_add b.tangent c.tangent) = simp modular (modulo (omega arith)) in
    rw (v, t) refl

assoc_sub : (a b c : Dual) → dual_sub (dual_add a b) c ≡ dual_add a (dual_sub b c)
assoc_sub a b c =
    let v : ring_sub (ring_add a.value b.value) c.value ≡ ring_add a.value (ring_sub b.value c.value) = simp modular (modulo (omega arith)) in
    let t : ring_sub (ring_add a.tangent b.tangent) c.tangent ≡ ring_add a.tangent (ring_sub b.tangent c.tangent) = simp modular (modulo (omega arith)) in
    rw (v, t) refl

from_none : (a b : Dual) → dual_add a b ≡ dual_add a (dual_add no_sum b)
from_none a b =
    let v : ring_add a.value b.value ≡ ring_add a.value (ring_add 0 b.value) = simp modular (modulo (omega arith)) in
    let t : ring_add a.tangent b.tangent ≡ ring_add a.tangent (ring_add 0 b.tangent) = simp modular (modulo (omega arith)) in
    rw (v, t) refl

from_none_sub : (a b : Dual) → dual_sub a b ≡ dual_add a (dual_sub no_sum b)
from_none_sub a b =
    let v : ring_sub a.value b.value ≡ ring_add a.value (ring_sub 0 b.value) = simp modular (modulo (omega arith)) in
    let t : ring_sub a.tangent b.tangent ≡ ring_add a.tangent (ring_sub 0 b.tangent) = simp modular (modulo (omega arith)) in
    rw (v, t) refl

-- one term more
abbrev step : Bool → Dual → Dual → Dual
step s d e = if s then dual_sub d e else dual_add d e

step_assoc : (s : Bool) (a b c : Dual) → step s (dual_add a b) c ≡ dual_add a (step s b c)
step_assoc true a b c = assoc_sub a b c
step_assoc false a b c = assoc a b c

step_none : (s : Bool) (a b : Dual) → step s a b ≡ dual_add a (step s no_sum b)
step_none true a b = from_none_sub a b
step_none false a b = from_none a b

grown_add : (ds : List (Bool × Dual)) (a b : Dual) → incremented_dual ds (dual_add a b) ≡ dual_add a (incremented_dual ds b)
grown_add [] a b = refl
grown_add (d ∷ ds) a b = ap (incremented_dual ds) (step_assoc d.0 a b d.1) ∙ grown_add ds a (step d.0 b d.1)

-- some terms are added by adding their sum
grown_sum : (d : Bool × Dual) (ds : List (Bool × Dual)) (a : Dual) → incremented_dual (d ∷ ds) a ≡ dual_add a (incremented_dual (d ∷ ds) no_sum)
grown_sum d ds a = ap (incremented_dual ds) (step_none d.0 a d.1) ∙ grown_add ds a (step d.0 no_sum d.1)

grown_more : (ds : List (Bool × Dual)) (d : Bool × Dual) (a : Dual) → incremented_dual (ds ++ d ∷ []) a ≡ step d.0 (incremented_dual ds a) d.1
grown_more [] d a = refl
grown_more (e ∷ ds) d a = grown_more ds d (step e.0 a e.1)

-- ---- the terms of a chain

abbrev sums_of : Result (List (Bool × Dual)) Cause → Result Dual Cause
sums_of (Ok ds) = Ok (incremented_dual ds no_sum)
sums_of (Err c) = Err c

abbrev added_to : List (Bool × Dual) → Bool → Result Value Cause → Result (List (Bool × Dual)) Cause
added_to ds s (Ok v) = Ok (ds ++ (s, as_dual v) ∷ [])
added_to ds s (Err c) = Err c

-- the terms of a list, and then one more
abbrev ended : Result (List (Bool × Dual)) Cause → Bool → Result Value Cause → Result (List (Bool × Dual)) Cause
ended (Ok ds) s r = added_to ds s r
ended (Err c) s r = Err c

terms_one : (site : Site) (cells : Cells) (r : Signed) (l : Log) (q : Result Value Cause)
    → (continuation {X = Cause} {A = Value} {B = List (Bool × Dual)} l q (λ v. pure [] >>= (λ ds. pure ((r.0, as_dual v) ∷ ds)))).out ≡ added_to [] r.0 q
terms_one site cells r l (Ok v) = refl
terms_one site cells r l (Err c) = refl

consed : (r : Bool × Dual) (q : Result (List (Bool × Dual)) Cause) (s : Bool) (w : Result Value Cause)
    → next (ended q s w) (λ ds. Ok (r ∷ ds)) ≡ ended (next q (λ ds. Ok (r ∷ ds))) s w
consed r (Ok ds) s (Ok v) = refl
consed r (Ok ds) s (Err c) = refl
consed r (Err c) s w = refl

terms_cons : (site : Site) (cells : Cells) (r : Signed) (rs : List Signed)
    → (terms_of (r ∷ rs) site cells).out ≡ next (value_of r.1 site cells).out (λ v. next (terms_of rs site cells).out (λ ds. Ok ((r.0, as_dual v) ∷ ds)))
terms_cons site cells r rs =
    out_then (value_of r.1 site cells) _ ∙ inner (value_of r.1 site cells).out
  where
    inner : (q : Result Value Cause) → next q (λ v. (terms_of rs site cells >>= (λ ds. pure ((r.0, as_dual v) ∷ ds))).out)
        ≡ next q (λ v. next (terms_of rs site cells).out (λ ds. Ok ((r.0, as_dual v) ∷ ds)))
    inner (Ok v) = out_then (terms_of rs site cells) _
    inner (Err c) = refl

next_ended : (s : Bool) (w : Result Value Cause) (r : Bool) (o : Result (List (Bool × Dual)) Cause) (q : Result Value Cause)
    → next q (λ v. next (ended o s w) (λ ds. Ok ((r, as_dual v) ∷ ds))) ≡ ended (next q (λ v. next o (λ ds. Ok ((r, as_dual v) ∷ ds)))) s w
next_ended s w r o (Ok v) = consed (r, as_dual v) o s w
next_ended s w r o (Err c) = refl

terms_more : (site : Site) (cells : Cells) (qs : List Signed) (r : Signed) → (terms_of (qs ++ r ∷ []) site cells).out ≡ ended (terms_of qs site cells).out r.0 (value_of r.1 site cells).out
terms_more site cells [] r = terms_one site cells r (value_of r.1 site cells).log (value_of r.1 site cells).out
terms_more site cells (q ∷ qs) r =
    terms_cons site cells q (qs ++ r ∷ [])
    ∙ ap (λ o. next (value_of q.1 site cells).out (λ v. next o (λ ds. Ok ((q.0, as_dual v) ∷ ds)))) (terms_more site cells qs r)
    ∙ next_ended r.0 (value_of r.1 site cells).out q.0 (terms_of qs site cells).out (value_of q.1 site cells).out
    ∙ ap (λ o. ended o r.0 (value_of r.1 site cells).out) (sym (terms_cons site cells q qs))

-- the first operand of a chain adds nothing
starts : (x : List ℕ) (s : Expressions) (a : Expression) (site : Site) (cells : Cells) → same_expression (get x s) a ≡ true → chain_sum a site cells ≡ pure no_sum
starts x s (get y t) site cells h = refl
starts x s (literal n k) site cells h = refl
starts x s (minus a) site cells h = refl
starts x s (power a n) site cells h = refl
starts x s (call f t) site cells h = refl
starts x s (binary o a b) site cells h = absurd (cc)

same_of : (b : Bool) (r : Signed) (o : Option (List Signed)) (rs : List Signed) → b ≡ true → (if b then Some (r ∷ []) else o) ≡ Some rs → rs ≡ r ∷ []
same_of true r o rs h e = cc
same_of false r o rs h e = absurd (cc)

later_of : (b : Bool) (r : Signed) (o : Option (List Signed)) (rs : List Signed) → b ≡ false → (if b then Some (r ∷ []) else o) ≡ Some rs → o ≡ Some rs
later_of true r o rs h e = absurd (cc)
later_of false r o rs h e = e

last_sum : (o : Result (List (Bool × Dual)) Cause) (s : Bool) (w : Result Value Cause) → sums_of (ended o s w) ≡ next (sums_of o) (λ d. next w (λ v. Ok (step s d (as_dual v))))
last_sum (Ok ds) s (Ok v) = ap Ok (grown_more ds (s, as_dual v) no_sum)
last_sum (Ok ds) s (Err c) = refl
last_sum (Err c) s w = refl

sum_then : (site : Site) (cells : Cells) (s : Bool) (b : Expression) (q : Result Dual Cause) (f : Dual → Dual → Dual) → ((d e : Dual) → f d e ≡ step s d e)
    → next q (λ d. (value_of b site cells >>= (λ v. pure (f d (as_dual v)))).out) ≡ next q (λ d. next (value_of b site cells).out (λ v. Ok (step s d (as_dual v))))
sum_then site cells s b (Ok d) f h = out_then (value_of b site cells) _ ∙ inner (value_of b site cells).out
  where
    inner : (w : Result Value Cause) → next {B = Dual} w (λ v. Ok (f d (as_dual v))) ≡ next w (λ v. Ok (step s d (as_dual v)))
    inner (Ok v) = ap Ok (h d (as_dual v))
    inner (Err c) = refl
sum_then site cells s b (Err c) f h = refl

-- what the last term adds to a sum
joined_sum : (site : Site) (cells : Cells) (a b : Expression) (s : Bool) (f : Dual → Dual → Dual) → ((d e : Dual) → f d e ≡ step s d e)
    → (qs : List Signed) → (chain_sum a site cells).out ≡ sums_of (terms_of qs site cells).out
    → (chain_sum a site cells >>= (λ d. value_of b site cells >>= (λ v. pure (f d (as_dual v))))).out ≡ sums_of (terms_of (qs ++ (s, b) ∷ []) site cells).out
joined_sum site cells a b s f h qs e =
    let w = (value_of b site cells).out in
    out_then (chain_sum a site cells) _ ∙ sum_then site cells s b (chain_sum a site cells).out f h
    ∙ ap (λ o. next o (λ d. next w (λ v. Ok (step s d (as_dual v))))) e
    ∙ sym (ap sums_of (terms_more site cells qs (s, b)) ∙ last_sum (terms_of qs site cells).out s w)

longer_parts : (o : Option (List Signed)) (r : Signed) (rs : List Signed) → longer o r ≡ Some rs → (qs : List Signed) × (o ≡ Some qs) × (rs ≡ qs ++ r ∷ [])
longer_parts None r rs e = absurd (cc)
longer_parts (Some qs) r rs e = let f : rs ≡ qs ++ r ∷ [] = cc in (qs, refl, f)

sum_by : (site : Site) (cells : Cells) (x : List ℕ) (ss : Expressions) (a b : Expression) (s : Bool) (f : Dual → Dual → Dual) → ((d e : Dual) → f d e ≡ step s d e)
    → ((qs : List Signed) → chain (get x ss) a ≡ Some qs → (chain_sum a site cells).out ≡ sums_of (terms_of qs site cells).out)
    → (q : Bool) → same_expression (get x ss) a ≡ q → (rs : List Signed) → (if q then Some ((s, b) ∷ []) else longer (chain (get x ss) a) (s, b)) ≡ Some rs
    → (chain_sum a site cells >>= (λ d. value_of b site cells >>= (λ v. pure (f d (as_dual v))))).out ≡ sums_of (terms_of rs site cells).out
sum_by site cells x ss a b s f h more true e rs g =
    let r : (s, b) ∷ [] ≡ rs = cc in
    joined_sum site cells a b s f h [] (ap (λ (t : Traced Cause Dual). t.out) (starts x ss a site cells e)) ∙ ap (λ (qs : List Signed). sums_of (terms_of qs site cells).out) r
sum_by site cells x ss a b s f h more false e rs g =
    let p = longer_parts (chain (get x ss) a) (s, b) rs g in
    joined_sum site cells a b s f h p.0 (more p.0 p.1) ∙ ap (λ (qs : List Signed). sums_of (terms_of qs site cells).out) (sym p.2)

-- a chain's sum is that of its terms
sum_is : (site : Site) (cells : Cells) (x : List ℕ) (ss : Expressions) (e : Expression) (rs : List Signed) → chain (get x ss) e ≡ Some rs
    → (chain_sum e site cells).out ≡ sums_of (terms_of rs site cells).out
sum_is site cells x ss (binary Add a b) rs h = sum_by site cells x ss a b false (sum_with Add) (λ d e. refl) (λ qs g. sum_is site cells x ss a qs g) (same_expression (get x ss) a) refl rs h
sum_is site cells x ss (binary Sub a b) rs h = sum_by site cells x ss a b true (sum_with Sub) (λ d e. refl) (λ qs g. sum_is site cells x ss a qs g) (same_expression (get x ss) a) refl rs h
sum_is site cells x ss (binary Mul a b) rs h = absurd (cc)
sum_is site cells x ss (binary Div a b) rs h = absurd (cc)
sum_is site cells x ss (literal n k) rs h = absurd (cc)
sum_is site cells x ss (get y t) rs h = absurd (cc)
sum_is site cells x ss (minus a) rs h = absurd (cc)
sum_is site cells x ss (power a n) rs h = absurd (cc)
sum_is site cells x ss (call f t) rs h = absurd (cc)

abbrev IsMore : List Signed → Type 0
IsMore [] = ⊥
IsMore (r ∷ rs) = Unit {0}

more_end : (qs : List Signed) (r : Signed) → IsMore (qs ++ r ∷ [])
more_end [] r = tt
more_end (q ∷ qs) r = tt

more_by : (q : Bool) (r : Signed) (o : Option (List Signed)) (rs : List Signed) → (if q then Some (r ∷ []) else longer o r) ≡ Some rs → IsMore rs
more_by true r o rs h = let e : r ∷ [] ≡ rs = cc in subst IsMore e tt
more_by false r o rs h = let p = longer_parts o r rs h in subst IsMore (sym p.2) (more_end p.0 r)

-- a chain has terms
chain_more : (t e : Expression) (rs : List Signed) → chain t e ≡ Some rs → IsMore rs
chain_more t (binary Add a b) rs h = more_by (same_expression t a) (false, b) (chain t a) rs h
chain_more t (binary Sub a b) rs h = more_by (same_expression t a) (true, b) (chain t a) rs h
chain_more t (binary Mul a b) rs h = absurd (cc)
chain_more t (binary Div a b) rs h = absurd (cc)
chain_more t (literal n k) rs h = absurd (cc)
chain_more t (get y s) rs h = absurd (cc)
chain_more t (minus a) rs h = absurd (cc)
chain_more t (power a n) rs h = absurd (cc)
chain_more t (call f s) rs h = absurd (cc)

-- ---- places

next_next : {X A B C : Type 0} (r : Result A X) (g : A → B) (f : B → Result C X) → next (next r (λ a. Ok (g a))) f ≡ next r (λ a. f (g a))
next_next (Ok a) g f = refl
next_next (Err x) g f = refl

located_then : {A : Type 0} (site : Site) (cells : Cells) (p : Designator) (f : Option ℕ → Traced Cause A)
    → (location_of site cells p >>= f).out ≡ next (values_of p.subscripts site cells).out (λ vs. (f (place_of site p.name (whole_numbers vs))).out)
located_then site cells p f =
    out_then (location_of site cells p) f ∙ ap (λ o. next o (λ a. (f a).out)) (out_then (values_of p.subscripts site cells) _)
    ∙ next_next (values_of p.subscripts site cells).out (λ vs. place_of site p.name (whole_numbers vs)) (λ a. (f a).out)

abbrev IsSum : List (Bool × Dual) → Dual → Type 0
IsSum ds d = (z : Dual) → incremented_dual ds z ≡ dual_add z d

grow_cell_is : (site : Site) (cells : Cells) (x : List ℕ) (kind : AccessKind) (ds : List (Bool × Dual)) (d : Dual) (p : ℕ) (o : Option Value) → IsSum ds d
    → (increment_cell_by cells x d p o).out ≡ (increment_cell site cells x kind ds p o).out
grow_cell_is site cells x kind ds d p None h = refl
grow_cell_is site cells x kind ds d p (Some v) h =
    sym (touching_out site x p kind (store_at cells p (Ring (incremented_dual ds (as_dual v)))) ∙ ap (λ g. Ok (slice_set cells p (Some (Ring g)))) (h (as_dual v)))

grow_is : (site : Site) (cells : Cells) (x : List ℕ) (kind : AccessKind) (ds : List (Bool × Dual)) (d : Dual) (o : Option ℕ) → IsSum ds d
    → (increment_at cells x d o).out ≡ (increment_place site cells x kind ds o).out
grow_is site cells x kind ds d None h = refl
grow_is site cells x kind ds d (Some p) h = grow_cell_is site cells x kind ds d p (content cells p) h

next_same : {X A B : Type 0} (r : Result A X) (f g : A → Result B X) → ((a : A) → f a ≡ g a) → next r f ≡ next r g
next_same (Ok a) f g h = h a
next_same (Err x) f g h = refl

grown_at : (site : Site) (cells : Cells) (p : Designator) (kind : AccessKind) (ds : List (Bool × Dual)) (d : Dual) → IsSum ds d
    → (increment_by site cells p d).out ≡ (values_of p.subscripts site cells >>= (λ vs. increment_place site cells p.name kind ds (place_of site p.name (whole_numbers vs)))).out
grown_at site cells p kind ds d h =
    located_then site cells p (increment_at cells p.name d)
    ∙ next_same (values_of p.subscripts site cells).out _ _ (λ vs. grow_is site cells p.name kind ds d (place_of site p.name (whole_numbers vs)) h)
    ∙ sym (out_then (values_of p.subscripts site cells) (λ vs. increment_place site cells p.name kind ds (place_of site p.name (whole_numbers vs))))

-- ---- increments

one_more : (r : Bool) (q : Result Value Cause) (o : Result (List (Bool × Dual)) Cause) (ds : List (Bool × Dual)) → next q (λ v. next o (λ ds. Ok ((r, as_dual v) ∷ ds))) ≡ Ok ds
    → IsSum ds (incremented_dual ds no_sum)
one_more r (Ok v) (Ok es) ds e = let f : (r, as_dual v) ∷ es ≡ ds = cc in subst (λ ds. IsSum ds (incremented_dual ds no_sum)) f (λ z. grown_sum (r, as_dual v) es z)
one_more r (Ok v) (Err c) ds e = absurd (cc)
one_more r (Err c) o ds e = absurd (cc)

terms_sum : (site : Site) (cells : Cells) (rs : List Signed) (ds : List (Bool × Dual)) → IsMore rs → (terms_of rs site cells).out ≡ Ok ds → IsSum ds (incremented_dual ds no_sum)
terms_sum site cells [] ds m e = absurd m
terms_sum site cells (r ∷ rs) ds m e = one_more r.0 (value_of r.1 site cells).out (terms_of rs site cells).out ds (sym (terms_cons site cells r rs) ∙ e)

by_terms : (site : Site) (cells : Cells) (p : Designator) (kind : AccessKind) (o : Result (List (Bool × Dual)) Cause) → ((ds : List (Bool × Dual)) → o ≡ Ok ds → IsSum ds (incremented_dual ds no_sum))
    → next (sums_of o) (λ d. (increment_by site cells p d).out)
    ≡ next o (λ ds. (values_of p.subscripts site cells >>= (λ vs. increment_place site cells p.name kind ds (place_of site p.name (whole_numbers vs)))).out)
by_terms site cells p kind (Ok ds) h = grown_at site cells p kind ds (incremented_dual ds no_sum) (h ds refl)
by_terms site cells p kind (Err c) h = refl

chain_is : (site : Site) (cells : Cells) (p : Designator) (e : Expression) (rs : List Signed) (kind : AccessKind) → chain (target_of p) e ≡ Some rs
    → (chain_sum e site cells >>= (λ d. increment_by site cells p d)).out ≡ (increment site cells p rs kind).out
chain_is site cells p e rs kind h =
    out_then (chain_sum e site cells) _ ∙ ap (λ o. next o (λ d. (increment_by site cells p d).out)) (sum_is site cells p.name p.subscripts e rs h)
    ∙ by_terms site cells p kind (terms_of rs site cells).out (λ ds g. terms_sum site cells rs ds (chain_more (target_of p) e rs h) g)
    ∙ sym (out_then (inside (right_side p.name) (terms_of rs site cells)) _)

by_value : (site : Site) (cells : Cells) (p : Designator) (kind : AccessKind) (q : Result Value Cause)
    → next q (λ v. (increment_by site cells p (as_dual v)).out)
    ≡ next (added_to [] false q) (λ ds. (values_of p.subscripts site cells >>= (λ vs. increment_place site cells p.name kind ds (place_of site p.name (whole_numbers vs)))).out)
by_value site cells p kind (Ok v) = grown_at site cells p kind ((false, as_dual v) ∷ []) (as_dual v) (λ z. refl)
by_value site cells p kind (Err c) = refl

sum_form : (site : Site) (cells : Cells) (p : Designator) (e : Expression) (rs : List Signed) (kind : AccessKind) → first_of_sum (target_of p) e ≡ Some rs
    → (value_of (front e) site cells >>= (λ v. increment_by site cells p (as_dual v))).out ≡ (increment site cells p rs kind).out
sum_form site cells p (binary Add r b) rs kind h = by_test (same_expression (target_of p) b) h
  where
    by_test : (q : Bool) → (if q then Some ((false, r) ∷ []) else None) ≡ Some rs → (value_of r site cells >>= (λ v. increment_by site cells p (as_dual v))).out ≡ (increment site cells p rs kind).out
    by_test true g =
        let f : (false, r) ∷ [] ≡ rs = cc in
        out_then (value_of r site cells) _ ∙ by_value site cells p kind (value_of r site cells).out
        ∙ ap (λ o. next o (λ ds. (values_of p.subscripts site cells >>= (λ vs. increment_place site cells p.name kind ds (place_of site p.name (whole_numbers vs)))).out))
        (sym (terms_one site cells (false, r) (value_of r site cells).log (value_of r site cells).out))
        ∙ sym (out_then (inside (right_side p.name) (terms_of ((false, r) ∷ []) site cells)) _) ∙ ap (λ (qs : List Signed). (increment site cells p qs kind).out) f
    by_test false g = absurd (cc)
sum_form site cells p (binary Sub a b) rs kind h = absurd (cc)
sum_form site cells p (binary Mul a b) rs kind h = absurd (cc)
sum_form site cells p (binary Div a b) rs kind h = absurd (cc)
sum_form site cells p (literal n k) rs kind h = absurd (cc)
sum_form site cells p (get y s) rs kind h = absurd (cc)
sum_form site cells p (minus a) rs kind h = absurd (cc)
sum_form site cells p (power a n) rs kind h = absurd (cc)
sum_form site cells p (call f s) rs kind h = absurd (cc)

plain_is : (site : Site) (cells : Cells) (p : Designator) (e : Expression) → (value_of e site cells >>= (λ v. put_by site cells p v)).out ≡ (plain_assignment site cells p e).out
plain_is site cells p e =
    out_then (value_of e site cells) _
    ∙ next_same (value_of e site cells).out _ _ (λ v. located_then site cells p (put site cells p.name v) ∙ sym (out_then (values_of p.subscripts site cells) (λ vs. put site cells p.name v (place_of site p.name (whole_numbers vs)))))
    ∙ sym (out_then (inside (right_side p.name) (value_of e site cells)) _)

free_inner : (x : List ℕ) (o : Option (List Signed)) (rs : List Signed) → if_free x o ≡ Some rs → o ≡ Some rs
free_inner x None rs e = absurd (cc)
free_inner x (Some qs) rs e = by_test (are_free_of x qs) e
  where
    by_test : (b : Bool) → (if b then Some qs else None) ≡ Some rs → Some qs ≡ Some rs
    by_test true f = f
    by_test false f = absurd (cc)

same_form_is : (a b : Option IncrementForm) → same_form a b ≡ true → a ≡ b
same_form_is None None h = refl
same_form_is (Some Chain) (Some Chain) h = refl
same_form_is (Some Sum) (Some Sum) h = refl
same_form_is None (Some Chain) h = absurd (cc)
same_form_is None (Some Sum) h = absurd (cc)
same_form_is (Some Chain) None h = absurd (cc)
same_form_is (Some Sum) None h = absurd (cc)
same_form_is (Some Chain) (Some Sum) h = absurd (cc)
same_form_is (Some Sum) (Some Chain) h = absurd (cc)

by_rest : (site : Site) (cells : Cells) (atomic : Bool) (p : Designator) (e : Expression) (a b : Option (List Signed))
    → if_free p.name (chain (target_of p) e) ≡ a → if_free p.name (first_of_sum (target_of p) e) ≡ b
    → (by_form (if is_some a then Some Chain else if is_some b then Some Sum else None) site cells p e).out ≡ (assignment_by site cells atomic p e (either a b)).out
by_rest site cells atomic p e (Some rs) b h g = chain_is site cells p e rs (increment_kind atomic (site.pluses p.name)) (free_inner p.name (chain (target_of p) e) rs h)
by_rest site cells atomic p e None (Some rs) h g = sum_form site cells p e rs (increment_kind atomic (site.pluses p.name)) (free_inner p.name (first_of_sum (target_of p) e) rs g)
by_rest site cells atomic p e None None h g = plain_is site cells p e

by_ring : (site : Site) (cells : Cells) (atomic : Bool) (p : Designator) (e : Expression) (b : Bool)
    → (by_form (if b then increment_form p e else None) site cells p e).out ≡ (assignment_by site cells atomic p e (if b then rest_terms p e else None)).out
by_ring site cells atomic p e true = by_rest site cells atomic p e (if_free p.name (chain (target_of p) e)) (if_free p.name (first_of_sum (target_of p) e)) refl refl
by_ring site cells atomic p e false = plain_is site cells p e

-- the run by the form that fits is the run of the assignment
pub by_form_is : (names : Names) (cells : Cells) (atomic : Bool) (p : Designator) (e : Expression) (form : Option IncrementForm) → same_form form (form_in names p e) ≡ true
    → (by_form form (table_site names) cells p e).out ≡ (assignment_by (table_site names) cells atomic p e (increment_terms (is_ring_in names) p e)).out
by_form_is names cells atomic p e form h =
    ap (λ f. (by_form f (table_site names) cells p e).out) (same_form_is form (form_in names p e) h) ∙ by_ring (table_site names) cells atomic p e (is_ring_in names p.name)

pub same_form_again : (form : Option IncrementForm) → same_form form form ≡ true
same_form_again None = refl
same_form_again (Some Chain) = refl
same_form_again (Some Sum) = refl

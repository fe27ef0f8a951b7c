-- What is made of an increment by its form is what its rest terms make.
use Rattle.std.proofs.Common.{◌≡◌, ℕ, Bool, true, false, if◌then◌else◌, List, [], ◌∷◌, ◌++◌, Option, Some, None, is_some, refl, ap, sym, ◌∙◌, append_assoc, arith}
use Rattle.std.proofs.lemmas.List.{append-nil}
use Rattle.fl_ast.specs.declared.kind.BinOp.TheVariants as op
use Rattle.fl_ast.specs.declared.decl.Decl.{Decl}
use Rattle.fl_ast.specs.Tree.{Expression, literal, get, minus, binary, power, call, Designator}
use Rattle.fl_ast.specs.Same.{same_expression}
use Rattle.fl_types.specs.Increment.{Signed, longer, chain, first_of_sum, are_free_of, if_free, either, target_of, rest_terms, increment_form, increment_terms}
use Rattle.fl_types.specs.declared.increment.IncrementForm.TheVariants.{Chain, Sum}
use Rattle.reachability.specs.Named.{indexes_of}
use Rattle.adjoint_rules.specs.Occurrences.{occurrences, rest_occurrences, assignment_occurrences}
use Rattle.adjoint_rules.specs.Needed.{names_in, names_in_all, names_in_terms, rest_names, read_for, read_by_assignment, Kinds}
use Rattle.needed_names.specs.Terms.{over_chain, over_front, over_terms, form_of, reads_from, assignment_reads, indexes_in, nothing, restoring_reads}
use Rattle.needed_names.proofs.Joined.{of_occurrences, both, indexes_joined}
use Rattle.needed_names.proofs.Gathered.{reads_are}

abbrev over_all : (Expression → List ℕ) → List Signed → List ℕ
over_all of [] = []
over_all of (r ∷ rs) = of r.1 ++ over_all of rs

abbrev over_rest : (of whole : Expression → List ℕ) → Option (List Signed) → Expression → List ℕ
over_rest of whole None e = whole e
over_rest of whole (Some rs) e = over_all of rs

is_some_of : {X : Type 0} (a b : X) → Some a ≡ Some b → a ≡ b
is_some_of a b e = grind (arith, e)

longer_is : (o : Option (List Signed)) (r : Signed) (rs : List Signed) → longer o r ≡ Some rs → (qs : List Signed) × (o ≡ Some qs) × (rs ≡ qs ++ r ∷ [])
longer_is None r rs e = absurd (grind (arith, e))
longer_is (Some qs) r rs e = (qs, refl, sym (is_some_of _ _ e))

over_joined : (of : Expression → List ℕ) (qs : List Signed) (r : Signed) → over_all of (qs ++ r ∷ []) ≡ over_all of qs ++ of r.1
over_joined of [] r = append-nil (of r.1)
over_joined of (q ∷ qs) r = ap (λ x. of q.1 ++ x) (over_joined of qs r) ∙ sym (append_assoc (of q.1) (over_all of qs) (of r.1))

chain_step : (of : Expression → List ℕ) (t a b : Expression) (s : Bool) (rs : List Signed)
    → ((qs : List Signed) → chain t a ≡ Some qs → over_chain of t a ≡ over_all of qs)
    → (c : Bool) → (if c then Some ((s, b) ∷ []) else longer (chain t a) (s, b)) ≡ Some rs → (if c then [] else over_chain of t a) ++ of b ≡ over_all of rs
chain_step of t a b s rs f true h = sym (append-nil (of b)) ∙ ap (over_all of) (is_some_of _ _ h)
chain_step of t a b s rs f false h =
    let l = longer_is (chain t a) (s, b) rs h in
    ap (λ x. x ++ of b) (f l.0 l.1) ∙ (sym (over_joined of l.0 (s, b)) ∙ ap (over_all of) (sym l.2))

chain_is : (of : Expression → List ℕ) (t e : Expression) (rs : List Signed) → chain t e ≡ Some rs → over_chain of t e ≡ over_all of rs
chain_is of t (literal n k) rs h = absurd (grind (arith, h))
chain_is of t (get x s) rs h = absurd (grind (arith, h))
chain_is of t (minus a) rs h = absurd (grind (arith, h))
chain_is of t (binary op.Add a b) rs h = chain_step of t a b false rs (chain_is of t a) (same_expression t a) h
chain_is of t (binary op.Sub a b) rs h = chain_step of t a b true rs (chain_is of t a) (same_expression t a) h
chain_is of t (binary op.Mul a b) rs h = absurd (grind (arith, h))
chain_is of t (binary op.Div a b) rs h = absurd (grind (arith, h))
chain_is of t (power a n) rs h = absurd (grind (arith, h))
chain_is of t (call f s) rs h = absurd (grind (arith, h))

sum_step : (of : Expression → List ℕ) (a : Expression) (rs : List Signed) (c : Bool) → (if c then Some ((false, a) ∷ []) else None) ≡ Some rs → of a ≡ over_all of rs
sum_step of a rs true h = sym (append-nil (of a)) ∙ ap (over_all of) (is_some_of _ _ h)
sum_step of a rs false h = absurd (grind (arith, h))

sum_is : (of : Expression → List ℕ) (t e : Expression) (rs : List Signed) → first_of_sum t e ≡ Some rs → over_front of e ≡ over_all of rs
sum_is of t (literal n k) rs h = absurd (grind (arith, h))
sum_is of t (get x s) rs h = absurd (grind (arith, h))
sum_is of t (minus a) rs h = absurd (grind (arith, h))
sum_is of t (binary op.Add a b) rs h = sum_step of a rs (same_expression t b) h
sum_is of t (binary op.Sub a b) rs h = absurd (grind (arith, h))
sum_is of t (binary op.Mul a b) rs h = absurd (grind (arith, h))
sum_is of t (binary op.Div a b) rs h = absurd (grind (arith, h))
sum_is of t (power a n) rs h = absurd (grind (arith, h))
sum_is of t (call f s) rs h = absurd (grind (arith, h))

-- terms that are free are the terms
free_is : (x : List ℕ) (o : Option (List Signed)) (rs : List Signed) → if_free x o ≡ Some rs → o ≡ Some rs
free_is x None rs h = absurd (grind (arith, h))
free_is x (Some qs) rs h = by_test (are_free_of x qs) h
  where
    by_test : (b : Bool) → (if b then Some qs else None) ≡ Some rs → Some qs ≡ Some rs
    by_test true e = e
    by_test false e = absurd (grind (arith, e))

by_form : (of whole : Expression → List ℕ) (t e : Expression) (c d : Option (List Signed))
    → ((rs : List Signed) → c ≡ Some rs → over_chain of t e ≡ over_all of rs) → ((rs : List Signed) → d ≡ Some rs → over_front of e ≡ over_all of rs)
    → over_terms of whole (if is_some c then Some Chain else if is_some d then Some Sum else None) t e ≡ over_rest of whole (either c d) e
by_form of whole t e (Some rs) d f g = f rs refl
by_form of whole t e None (Some rs) f g = g rs refl
by_form of whole t e None None f g = refl

pub terms_are : (of whole : Expression → List ℕ) (ring : List ℕ → Bool) (p : Designator) (e : Expression)
    → over_terms of whole (form_of ring p e) (target_of p) e ≡ over_rest of whole (increment_terms ring p e) e
terms_are of whole ring p e = by_test (ring p.name)
  where
    by_test : (b : Bool) → over_terms of whole (if b then increment_form p e else None) (target_of p) e ≡ over_rest of whole (if b then rest_terms p e else None) e
    by_test true =
        by_form of whole (target_of p) e (if_free p.name (chain (target_of p) e)) (if_free p.name (first_of_sum (target_of p) e))
        (λ rs h. chain_is of (target_of p) e rs (free_is p.name (chain (target_of p) e) rs h))
        (λ rs h. sum_is of (target_of p) e rs (free_is p.name (first_of_sum (target_of p) e) rs h))
    by_test false = refl

-- ---- reads

rest_reads : (decls : List Decl) (on : List ℕ → Bool) (rs : List Signed) → over_all (reads_from decls on) rs ≡ indexes_of decls (of_occurrences (rest_occurrences on rs))
rest_reads decls on [] = refl
rest_reads decls on (r ∷ rs) = both decls (occurrences on r.1 r.0 []) (rest_occurrences on rs) _ _ (reads_are decls on r.1 r.0 [] [] refl) (rest_reads decls on rs)

all_reads : (decls : List Decl) (on : List ℕ → Bool) (o : Option (List Signed)) (e : Expression)
    → over_rest (reads_from decls on) (reads_from decls on) o e ≡ indexes_of decls (of_occurrences (assignment_occurrences on e o))
all_reads decls on None e = reads_are decls on e false [] [] refl
all_reads decls on (Some rs) e = rest_reads decls on rs

pub assignment_is : (decls : List Decl) (k : Kinds) (p : Designator) (e : Expression) → assignment_reads decls k.active k.ring p e ≡ indexes_of decls (read_by_assignment k p e)
assignment_is decls k p e = by_test (k.active p.name)
  where
    parts : List (List ℕ)
    parts = of_occurrences (assignment_occurrences k.active e (increment_terms k.ring p e))

    by_test : (b : Bool) → (if b then indexes_of decls (names_in_all p.subscripts) ++ over_terms (reads_from decls k.active) (reads_from decls k.active) (form_of k.ring p e) (target_of p) e else [])
        ≡ indexes_of decls (if b then names_in_all p.subscripts ++ parts else [])
    by_test true =
        ap (λ r. indexes_of decls (names_in_all p.subscripts) ++ r)
        (terms_are (reads_from decls k.active) (reads_from decls k.active) k.ring p e ∙ all_reads decls k.active (increment_terms k.ring p e) e)
        ∙ sym (indexes_joined decls (names_in_all p.subscripts) parts)
    by_test false = refl

-- ---- restoring

names_of_rest : (decls : List Decl) (rs : List Signed) → over_all (indexes_in decls) rs ≡ indexes_of decls (names_in_terms rs)
names_of_rest decls [] = refl
names_of_rest decls (r ∷ rs) = ap (λ x. indexes_in decls r.1 ++ x) (names_of_rest decls rs) ∙ sym (indexes_joined decls (names_in r.1) (names_in_terms rs))

restored : (decls : List Decl) (o : Option (List Signed)) (e : Expression) → over_rest (indexes_in decls) nothing o e ≡ indexes_of decls (rest_names o)
restored decls None e = refl
restored decls (Some rs) e = names_of_rest decls rs

pub restoring_is : (decls : List Decl) (k : Kinds) (p : Designator) (e : Expression) → restoring_reads decls k.ring p e ≡ indexes_of decls (read_for k p e)
restoring_is decls k p e =
    ap (λ r. indexes_of decls (names_in_all p.subscripts) ++ r) (terms_are (indexes_in decls) nothing k.ring p e ∙ restored decls (increment_terms k.ring p e) e)
    ∙ sym (indexes_joined decls (names_in_all p.subscripts) (rest_names (increment_terms k.ring p e)))

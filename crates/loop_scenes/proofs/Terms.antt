-- Marks of assignments.
use Rattle.std.proofs.Common.{◌≡◌, ℕ, Bool, true, false, if◌then◌else◌, List, [], ◌∷◌, ◌++◌, Option, Some, None, refl, sym, ap, ◌∙◌, subst, is_some, append_assoc}
use Rattle.std.proofs.lemmas.List.{append-nil}
use Rattle.fl_ast.specs.declared.kind.BinOp.{BinOp}
use Rattle.fl_ast.specs.declared.kind.BinOp.TheVariants.{Add, Sub, Mul, Div}
use Rattle.fl_ast.specs.Tree.{Expression, binary, Designator}
use Rattle.fl_ast.specs.Same.{same_expression}
use Rattle.fl_types.specs.declared.increment.IncrementForm.TheVariants.{Chain, Sum}
use Rattle.fl_types.specs.Accesses.{Scope}
use Rattle.index_forms.specs.Increments.{adds_terms}
use Rattle.loop_scenes.specs.Marks.{marks, term_marks, value_marks, WithTerms}
use Rattle.fl_types.specs.Increment.{Signed, target_of, chain, longer, first_of_sum, are_free_of, if_free, either, increment_form, increment_terms}

pub two_groups : (os ps fs gs hs : List Bool) → gs ≡ fs ++ os → hs ≡ gs ++ ps → hs ≡ fs ++ (os ++ ps)
two_groups os ps fs gs hs e d = d ∙ ap (λ (l : List Bool). l ++ ps) e ∙ (rw (append_assoc fs os ps) refl)

pub three : (os ps qs fs gs hs is : List Bool) → gs ≡ fs ++ os → hs ≡ gs ++ ps → is ≡ hs ++ qs → is ≡ fs ++ (os ++ (ps ++ qs))
three os ps qs fs gs hs is a b d = two_groups os (ps ++ qs) fs gs is a (two_groups ps qs gs hs is b d)

one_term : (c : Scope) (right : Bool) (s : Bool) (e : Expression) → term_marks c right ((s, e) ∷ []) ≡ marks c right e
one_term c right s e = append-nil (marks c right e)

terms_more : (c : Scope) (right : Bool) (rs : List Signed) (s : Bool) (e : Expression) → term_marks c right (rs ++ (s, e) ∷ []) ≡ term_marks c right rs ++ marks c right e
terms_more c right [] s e = one_term c right s e
terms_more c right (r ∷ rs) s e =
    ap (λ (l : List Bool). marks c right r.1 ++ l) (terms_more c right rs s e)
    ∙ sym (append_assoc (marks c right r.1) (term_marks c right rs) (marks c right e))

-- the first term behind the target
chain_first : (c : Scope) (right : Bool) (b : Bool) (o : Option (List Signed)) (e : Expression) (fs gs : List Bool) → b ≡ true → gs ≡ fs ++ marks c right e →
    (s : Bool) → WithTerms c right (if b then Some ((s, e) ∷ []) else longer o (s, e)) fs gs
chain_first c right b o e fs gs h d s = subst (λ (t : Bool). WithTerms c right (if t then Some ((s, e) ∷ []) else longer o (s, e)) fs gs) (sym h) (d ∙ ap (λ (l : List Bool). fs ++ l) (sym (one_term c right s e)))

chain_more : (c : Scope) (right : Bool) (b : Bool) (o : Option (List Signed)) (e : Expression) (fs gs hs : List Bool) → b ≡ false → WithTerms c right o fs gs → hs ≡ gs ++ marks c right e →
    (s : Bool) → WithTerms c right (if b then Some ((s, e) ∷ []) else longer o (s, e)) fs hs
chain_more c right b o e fs gs hs h w d s = subst (λ (t : Bool). WithTerms c right (if t then Some ((s, e) ∷ []) else longer o (s, e)) fs hs) (sym h) (by_terms o w)
  where
    by_terms : (p : Option (List Signed)) → WithTerms c right p fs gs → WithTerms c right (longer p (s, e)) fs hs
    by_terms None v = tt
    by_terms (Some rs) v = two_groups (term_marks c right rs) (marks c right e) fs gs hs v d ∙ ap (λ (l : List Bool). fs ++ l) (sym (terms_more c right rs s e))

pub op_first : (c : Scope) (right : Bool) (op : BinOp) (t a b : Expression) (fs gs : List Bool) → adds_terms op ≡ true → same_expression t a ≡ true → gs ≡ fs ++ marks c right b → WithTerms c right (chain t (binary op a b)) fs gs
op_first c right Add t a b fs gs h e d = chain_first c right (same_expression t a) (chain t a) b fs gs e d false
op_first c right Sub t a b fs gs h e d = chain_first c right (same_expression t a) (chain t a) b fs gs e d true
op_first c right Mul t a b fs gs h e d = cc
op_first c right Div t a b fs gs h e d = cc

pub op_more : (c : Scope) (right : Bool) (op : BinOp) (t a b : Expression) (fs gs hs : List Bool) → adds_terms op ≡ true → same_expression t a ≡ false → WithTerms c right (chain t a) fs gs → hs ≡ gs ++ marks c right b → WithTerms c right (chain t (binary op a b)) fs hs
op_more c right Add t a b fs gs hs h e w d = chain_more c right (same_expression t a) (chain t a) b fs gs hs e w d false
op_more c right Sub t a b fs gs hs h e w d = chain_more c right (same_expression t a) (chain t a) b fs gs hs e w d true
op_more c right Mul t a b fs gs hs h e w d = cc
op_more c right Div t a b fs gs hs h e w d = cc

pub op_none : (c : Scope) (right : Bool) (op : BinOp) (t a b : Expression) (fs gs : List Bool) → adds_terms op ≡ false → WithTerms c right (chain t (binary op a b)) fs gs
op_none c right Add t a b fs gs h = cc
op_none c right Sub t a b fs gs h = cc
op_none c right Mul t a b fs gs h = tt
op_none c right Div t a b fs gs h = tt

pub sum_first : (c : Scope) (right : Bool) (t r b : Expression) (fs gs : List Bool) → gs ≡ fs ++ marks c right r → WithTerms c right (first_of_sum t (binary Add r b)) fs gs
sum_first c right t r b fs gs d = by_test (same_expression t b)
  where
    by_test : (q : Bool) → WithTerms c right (if q then Some ((false, r) ∷ []) else None) fs gs
    by_test true = d ∙ ap (λ (l : List Bool). fs ++ l) (sym (one_term c right false r))
    by_test false = tt

-- ---- which terms an assignment has

free_some : (x : List ℕ) (o : Option (List Signed)) → is_some (if_free x o) ≡ true → if_free x o ≡ o
free_some x None h = refl
free_some x (Some rs) h = by_test (are_free_of x rs) h
  where
    by_test : (q : Bool) → is_some (if q then Some rs else None) ≡ true → (if q then Some rs else None) ≡ Some rs
    by_test true h = refl
    by_test false h = cc

terms_by : (c : Scope) (right : Bool) (e : Expression) (o : Option (List Signed)) (fs gs : List Bool) → is_some o ≡ true → WithTerms c right o fs gs → gs ≡ fs ++ value_marks c right e o
terms_by c right e None fs gs h w = cc
terms_by c right e (Some rs) fs gs h w = w

either_left : (o p : Option (List Signed)) → is_some o ≡ true → either o p ≡ o
either_left None p h = cc
either_left (Some rs) p h = refl

either_right : (o p : Option (List Signed)) → is_some o ≡ false → either o p ≡ p
either_right None p h = refl
either_right (Some rs) p h = cc

none_is : (o : Option (List Signed)) → is_some o ≡ false → o ≡ None
none_is None h = refl
none_is (Some rs) h = cc

-- which form an increment has tells its terms
form_by : (a b : Bool) → (if a then Some Chain else if b then Some Sum else None) ≡ Some Chain → a ≡ true
form_by true b h = refl
form_by false true h = cc
form_by false false h = cc

sum_by : (a b : Bool) → (if a then Some Chain else if b then Some Sum else None) ≡ Some Sum → (a ≡ false) × (b ≡ true)
sum_by true b h = cc
sum_by false true h = (refl, refl)
sum_by false false h = cc

none_by : (a b : Bool) → (if a then Some Chain else if b then Some Sum else None) ≡ None → (a ≡ false) × (b ≡ false)
none_by true b h = cc
none_by false true h = cc
none_by false false h = (refl, refl)

chain_terms : (ring : List ℕ → Bool) (p : Designator) (e : Expression) → ring p.name ≡ true → increment_form p e ≡ Some Chain → (increment_terms ring p e ≡ chain (target_of p) e) × (is_some (chain (target_of p) e) ≡ true)
chain_terms ring p e r h =
    let a = is_some (if_free p.name (chain (target_of p) e)) in
    let b = is_some (if_free p.name (first_of_sum (target_of p) e)) in
    let s : is_some (if_free p.name (chain (target_of p) e)) ≡ true = form_by a b h in
    let f : if_free p.name (chain (target_of p) e) ≡ chain (target_of p) e = free_some p.name (chain (target_of p) e) s in
    (rw r (either_left (if_free p.name (chain (target_of p) e)) (if_free p.name (first_of_sum (target_of p) e)) s ∙ f), ap is_some (sym f) ∙ s)

sum_terms : (ring : List ℕ → Bool) (p : Designator) (e : Expression) → ring p.name ≡ true → increment_form p e ≡ Some Sum → (increment_terms ring p e ≡ first_of_sum (target_of p) e) × (is_some (first_of_sum (target_of p) e) ≡ true)
sum_terms ring p e r h =
    let a = is_some (if_free p.name (chain (target_of p) e)) in
    let b = is_some (if_free p.name (first_of_sum (target_of p) e)) in
    let t = sum_by a b h in
    let s : is_some (if_free p.name (first_of_sum (target_of p) e)) ≡ true = t.1 in
    let f : if_free p.name (first_of_sum (target_of p) e) ≡ first_of_sum (target_of p) e = free_some p.name (first_of_sum (target_of p) e) s in
    (rw r (either_right (if_free p.name (chain (target_of p) e)) (if_free p.name (first_of_sum (target_of p) e)) t.0 ∙ f), ap is_some (sym f) ∙ s)

no_terms : (ring : List ℕ → Bool) (p : Designator) (e : Expression) → ring p.name ≡ true → increment_form p e ≡ None → increment_terms ring p e ≡ None
no_terms ring p e r h =
    let a = is_some (if_free p.name (chain (target_of p) e)) in
    let b = is_some (if_free p.name (first_of_sum (target_of p) e)) in
    let t = none_by a b h in
    rw r (either_right (if_free p.name (chain (target_of p) e)) (if_free p.name (first_of_sum (target_of p) e)) t.0 ∙ none_is (if_free p.name (first_of_sum (target_of p) e)) t.1)

pub chain_value : (c : Scope) (right : Bool) (p : Designator) (e : Expression) (fs gs : List Bool) → c.ring p.name ≡ true → increment_form p e ≡ Some Chain → WithTerms c right (chain (target_of p) e) fs gs →
    gs ≡ fs ++ value_marks c right e (increment_terms c.ring p e)
chain_value c right p e fs gs r h w =
    let t = chain_terms c.ring p e r h in
    terms_by c right e (chain (target_of p) e) fs gs t.1 w ∙ ap (λ (o : Option (List Signed)). fs ++ value_marks c right e o) (sym t.0)

pub sum_value : (c : Scope) (right : Bool) (p : Designator) (e : Expression) (fs gs : List Bool) → c.ring p.name ≡ true → increment_form p e ≡ Some Sum → WithTerms c right (first_of_sum (target_of p) e) fs gs →
    gs ≡ fs ++ value_marks c right e (increment_terms c.ring p e)
sum_value c right p e fs gs r h w =
    let t = sum_terms c.ring p e r h in
    terms_by c right e (first_of_sum (target_of p) e) fs gs t.1 w ∙ ap (λ (o : Option (List Signed)). fs ++ value_marks c right e o) (sym t.0)

pub other_value : (c : Scope) (right : Bool) (p : Designator) (e : Expression) (fs gs : List Bool) → c.ring p.name ≡ true → increment_form p e ≡ None → gs ≡ fs ++ marks c right e →
    gs ≡ fs ++ value_marks c right e (increment_terms c.ring p e)
other_value c right p e fs gs r h w = w ∙ ap (λ (o : Option (List Signed)). fs ++ value_marks c right e o) (sym (no_terms c.ring p e r h))

pub plain_value : (c : Scope) (right : Bool) (p : Designator) (e : Expression) (fs gs : List Bool) → c.ring p.name ≡ false → gs ≡ fs ++ marks c right e →
    gs ≡ fs ++ value_marks c right e (increment_terms c.ring p e)
plain_value c right p e fs gs r w = rw r w

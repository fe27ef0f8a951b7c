-- The groups of assignments.
use Rattle.std.proofs.Common.{◌≡◌, ℕ, Bool, true, false, if◌then◌else◌, List, [], ◌∷◌, ◌++◌, Option, Some, None, refl, sym, ap, ◌∙◌, subst, is_some}
use Rattle.fl_ast.specs.declared.kind.BinOp.{BinOp}
use Rattle.fl_ast.specs.declared.kind.BinOp.TheVariants.{Add, Sub, Mul, Div}
use Rattle.fl_ast.specs.Tree.{Expression, binary, Expressions, Designator}
use Rattle.fl_ast.specs.Same.{same_expression}
use Rattle.fl_types.specs.declared.access.AccessKind.{AccessKind}
use Rattle.fl_types.specs.declared.access.AccessKind.TheVariants.{Read, Write}
use Rattle.fl_types.specs.declared.increment.IncrementForm.TheVariants.{Chain, Sum}
use Rattle.fl_types.specs.Increment.{Signed, target_of, chain, longer, first_of_sum, are_free_of, if_free, either, increment_form, increment_terms}
use Rattle.fl_types.specs.Accesses.{Occurrence, access, reads, reads_all, term_reads, increment_kind, assignment_accesses}
use Rattle.index_forms.specs.Form.{Forms}
use Rattle.index_forms.specs.Formed.{Known}
use Rattle.index_forms.specs.Walk.{Setting, with_group}
use Rattle.index_forms.specs.Increments.{value_reads, WithTerms, adds_terms}
use Rattle.index_forms.proofs.Groups.{with_both, two_groups}

one_term : (c : Setting) (k : Known) (s : Bool) (e : Expression) (fs : List Forms) → with_group c k (term_reads c.scope 0 [] ((s, e) ∷ [])) fs ≡ with_group c k (reads c.scope 0 [] e) fs
one_term c k s e fs = with_both c k (reads c.scope 0 [] e) [] fs

terms_more : (c : Setting) (k : Known) (rs : List Signed) (s : Bool) (e : Expression) (fs : List Forms) →
    with_group c k (term_reads c.scope 0 [] (rs ++ (s, e) ∷ [])) fs ≡ with_group c k (reads c.scope 0 [] e) (with_group c k (term_reads c.scope 0 [] rs) fs)
terms_more c k [] s e fs = one_term c k s e fs
terms_more c k (r ∷ rs) s e fs =
    with_both c k (reads c.scope 0 [] r.1) (term_reads c.scope 0 [] (rs ++ (s, e) ∷ [])) fs
    ∙ terms_more c k rs s e (with_group c k (reads c.scope 0 [] r.1) fs)
    ∙ ap (with_group c k (reads c.scope 0 [] e)) (sym (with_both c k (reads c.scope 0 [] r.1) (term_reads c.scope 0 [] rs) fs))

-- the first term behind the target
chain_first : (c : Setting) (k : Known) (b : Bool) (o : Option (List Signed)) (e : Expression) (fs gs : List Forms) → b ≡ true → gs ≡ with_group c k (reads c.scope 0 [] e) fs →
    (s : Bool) → WithTerms c k (if b then Some ((s, e) ∷ []) else longer o (s, e)) fs gs
chain_first c k b o e fs gs h d s = subst (λ (t : Bool). WithTerms c k (if t then Some ((s, e) ∷ []) else longer o (s, e)) fs gs) (sym h) (d ∙ sym (one_term c k s e fs))

chain_more : (c : Setting) (k : Known) (b : Bool) (o : Option (List Signed)) (e : Expression) (fs gs hs : List Forms) → b ≡ false → WithTerms c k o fs gs → hs ≡ with_group c k (reads c.scope 0 [] e) gs →
    (s : Bool) → WithTerms c k (if b then Some ((s, e) ∷ []) else longer o (s, e)) fs hs
chain_more c k b o e fs gs hs h w d s = subst (λ (t : Bool). WithTerms c k (if t then Some ((s, e) ∷ []) else longer o (s, e)) fs hs) (sym h) (by_terms o w)
  where
    by_terms : (p : Option (List Signed)) → WithTerms c k p fs gs → WithTerms c k (longer p (s, e)) fs hs
    by_terms None v = tt
    by_terms (Some rs) v = d ∙ ap (with_group c k (reads c.scope 0 [] e)) v ∙ sym (terms_more c k rs s e fs)

pub op_first : (c : Setting) (k : Known) (op : BinOp) (t a b : Expression) (fs gs : List Forms) → adds_terms op ≡ true → same_expression t a ≡ true → gs ≡ with_group c k (reads c.scope 0 [] b) fs → WithTerms c k (chain t (binary op a b)) fs gs
op_first c k Add t a b fs gs h e d = chain_first c k (same_expression t a) (chain t a) b fs gs e d false
op_first c k Sub t a b fs gs h e d = chain_first c k (same_expression t a) (chain t a) b fs gs e d true
op_first c k Mul t a b fs gs h e d = cc
op_first c k Div t a b fs gs h e d = cc

pub op_more : (c : Setting) (k : Known) (op : BinOp) (t a b : Expression) (fs gs hs : List Forms) → adds_terms op ≡ true → same_expression t a ≡ false → WithTerms c k (chain t a) fs gs → hs ≡ with_group c k (reads c.scope 0 [] b) gs → WithTerms c k (chain t (binary op a b)) fs hs
op_more c k Add t a b fs gs hs h e w d = chain_more c k (same_expression t a) (chain t a) b fs gs hs e w d false
op_more c k Sub t a b fs gs hs h e w d = chain_more c k (same_expression t a) (chain t a) b fs gs hs e w d true
op_more c k Mul t a b fs gs hs h e w d = cc
op_more c k Div t a b fs gs hs h e w d = cc

pub op_none : (c : Setting) (k : Known) (op : BinOp) (t a b : Expression) (fs gs : List Forms) → adds_terms op ≡ false → WithTerms c k (chain t (binary op a b)) fs gs
op_none c k Add t a b fs gs h = cc
op_none c k Sub t a b fs gs h = cc
op_none c k Mul t a b fs gs h = tt
op_none c k Div t a b fs gs h = tt

pub sum_first : (c : Setting) (k : Known) (t r b : Expression) (fs gs : List Forms) → gs ≡ with_group c k (reads c.scope 0 [] r) fs → WithTerms c k (first_of_sum t (binary Add r b)) fs gs
sum_first c k t r b fs gs d = by_test (same_expression t b)
  where
    by_test : (q : Bool) → WithTerms c k (if q then Some ((false, r) ∷ []) else None) fs gs
    by_test true = d ∙ sym (one_term c k false r fs)
    by_test false = tt

-- ---- which terms an assignment has

free_some : (x : List ℕ) (o : Option (List Signed)) → is_some (if_free x o) ≡ true → if_free x o ≡ o
free_some x None h = refl
free_some x (Some rs) h = by_test (are_free_of x rs) h
  where
    by_test : (q : Bool) → is_some (if q then Some rs else None) ≡ true → (if q then Some rs else None) ≡ Some rs
    by_test true h = refl
    by_test false h = cc

terms_by : (c : Setting) (k : Known) (e : Expression) (o : Option (List Signed)) (fs gs : List Forms) → is_some o ≡ true → WithTerms c k o fs gs → gs ≡ with_group c k (value_reads c.scope e o) fs
terms_by c k e None fs gs h w = cc
terms_by c k e (Some rs) fs gs h w = w

either_left : (o p : Option (List Signed)) → is_some o ≡ true → either o p ≡ o
either_left None p h = cc
either_left (Some rs) p h = refl

either_right : (o p : Option (List Signed)) → is_some o ≡ false → either o p ≡ p
either_right None p h = refl
either_right (Some rs) p h = cc

none_is : (o : Option (List Signed)) → is_some o ≡ false → o ≡ None
none_is None h = refl
none_is (Some rs) h = cc

-- which form an increment has tells its terms
form_by : (a b : Bool) → (if a then Some Chain else if b then Some Sum else None) ≡ Some Chain → a ≡ true
form_by true b h = refl
form_by false true h = cc
form_by false false h = cc

sum_by : (a b : Bool) → (if a then Some Chain else if b then Some Sum else None) ≡ Some Sum → (a ≡ false) × (b ≡ true)
sum_by true b h = cc
sum_by false true h = (refl, refl)
sum_by false false h = cc

none_by : (a b : Bool) → (if a then Some Chain else if b then Some Sum else None) ≡ None → (a ≡ false) × (b ≡ false)
none_by true b h = cc
none_by false true h = cc
none_by false false h = (refl, refl)

pub chain_value : (c : Setting) (k : Known) (p : Designator) (e : Expression) (fs gs : List Forms) → c.scope.ring p.name ≡ true → increment_form p e ≡ Some Chain → WithTerms c k (chain (target_of p) e) fs gs →
    gs ≡ with_group c k (value_reads c.scope e (increment_terms c.scope.ring p e)) fs
chain_value c k p e fs gs r h w =
    let a = is_some (if_free p.name (chain (target_of p) e)) in
    let b = is_some (if_free p.name (first_of_sum (target_of p) e)) in
    let s : is_some (if_free p.name (chain (target_of p) e)) ≡ true = form_by a b h in
    let f : if_free p.name (chain (target_of p) e) ≡ chain (target_of p) e = free_some p.name (chain (target_of p) e) s in
    let i : increment_terms c.scope.ring p e ≡ chain (target_of p) e = rw r (either_left (if_free p.name (chain (target_of p) e)) (if_free p.name (first_of_sum (target_of p) e)) s ∙ f) in
    terms_by c k e (chain (target_of p) e) fs gs (ap is_some (sym f) ∙ s) w ∙ ap (λ (o : Option (List Signed)). with_group c k (value_reads c.scope e o) fs) (sym i)

pub sum_value : (c : Setting) (k : Known) (p : Designator) (e : Expression) (fs gs : List Forms) → c.scope.ring p.name ≡ true → increment_form p e ≡ Some Sum → WithTerms c k (first_of_sum (target_of p) e) fs gs →
    gs ≡ with_group c k (value_reads c.scope e (increment_terms c.scope.ring p e)) fs
sum_value c k p e fs gs r h w =
    let a = is_some (if_free p.name (chain (target_of p) e)) in
    let b = is_some (if_free p.name (first_of_sum (target_of p) e)) in
    let t = sum_by a b h in
    let s : is_some (if_free p.name (first_of_sum (target_of p) e)) ≡ true = t.1 in
    let f : if_free p.name (first_of_sum (target_of p) e) ≡ first_of_sum (target_of p) e = free_some p.name (first_of_sum (target_of p) e) s in
    let i : increment_terms c.scope.ring p e ≡ first_of_sum (target_of p) e = rw r (either_right (if_free p.name (chain (target_of p) e)) (if_free p.name (first_of_sum (target_of p) e)) t.0 ∙ f) in
    terms_by c k e (first_of_sum (target_of p) e) fs gs (ap is_some (sym f) ∙ s) w ∙ ap (λ (o : Option (List Signed)). with_group c k (value_reads c.scope e o) fs) (sym i)

pub other_value : (c : Setting) (k : Known) (p : Designator) (e : Expression) (fs gs : List Forms) → c.scope.ring p.name ≡ true → increment_form p e ≡ None → gs ≡ with_group c k (reads c.scope 0 [] e) fs →
    gs ≡ with_group c k (value_reads c.scope e (increment_terms c.scope.ring p e)) fs
other_value c k p e fs gs r h w =
    let a = is_some (if_free p.name (chain (target_of p) e)) in
    let b = is_some (if_free p.name (first_of_sum (target_of p) e)) in
    let t = none_by a b h in
    let i : increment_terms c.scope.ring p e ≡ None = rw r (either_right (if_free p.name (chain (target_of p) e)) (if_free p.name (first_of_sum (target_of p) e)) t.0 ∙ none_is (if_free p.name (first_of_sum (target_of p) e)) t.1) in
    w ∙ ap (λ (o : Option (List Signed)). with_group c k (value_reads c.scope e o) fs) (sym i)

pub plain_value : (c : Setting) (k : Known) (p : Designator) (e : Expression) (fs gs : List Forms) → c.scope.ring p.name ≡ false → gs ≡ with_group c k (reads c.scope 0 [] e) fs →
    gs ≡ with_group c k (value_reads c.scope e (increment_terms c.scope.ring p e)) fs
plain_value c k p e fs gs r w = rw r w

-- ---- whole assignments: the kind of an access plays no part

any_kind : (c : Setting) (k : Known) (kind : AccessKind) (p : Designator) (fs : List Forms) → with_group c k (access c.scope 0 [] Read p) fs ≡ with_group c k (access c.scope 0 [] kind p) fs
any_kind c k kind p fs = by_test (c.scope.accessed p.name)
  where
    by_test : (q : Bool) → with_group c k (if q then (let o : Occurrence = record { line = 0; place = p; path = []; kind = Read } in o ∷ []) else []) fs
        ≡ with_group c k (if q then (let o : Occurrence = record { line = 0; place = p; path = []; kind = kind } in o ∷ []) else []) fs
    by_test true = refl
    by_test false = refl

parts_of : (c : Setting) (k : Known) (atomic : Bool) (p : Designator) (e : Expression) (o : Option (List Signed)) (fs : List Forms) →
    with_group c k (access c.scope 0 [] Read p) (with_group c k (reads_all c.scope 0 [] p.subscripts) (with_group c k (value_reads c.scope e o) fs)) ≡ with_group c k (assignment_accesses c.scope 0 [] atomic p e o) fs
parts_of c k atomic p e None fs =
    any_kind c k Write p (with_group c k (reads_all c.scope 0 [] p.subscripts) (with_group c k (reads c.scope 0 [] e) fs))
    ∙ sym (with_both c k (reads_all c.scope 0 [] p.subscripts) (access c.scope 0 [] Write p) (with_group c k (reads c.scope 0 [] e) fs))
    ∙ sym (with_both c k (reads c.scope 0 [] e) (reads_all c.scope 0 [] p.subscripts ++ access c.scope 0 [] Write p) fs)
parts_of c k atomic p e (Some rs) fs =
    let kind = increment_kind atomic (c.scope.pluses p.name) in
    any_kind c k kind p (with_group c k (reads_all c.scope 0 [] p.subscripts) (with_group c k (term_reads c.scope 0 [] rs) fs))
    ∙ sym (with_both c k (reads_all c.scope 0 [] p.subscripts) (access c.scope 0 [] kind p) (with_group c k (term_reads c.scope 0 [] rs) fs))
    ∙ sym (with_both c k (term_reads c.scope 0 [] rs) (reads_all c.scope 0 [] p.subscripts ++ access c.scope 0 [] kind p) fs)

pub assignment_made : (c : Setting) (k : Known) (atomic : Bool) (p : Designator) (e : Expression) (ss : Expressions) (o : Option (List Signed)) (fs gs hs is : List Forms) → ss ≡ p.subscripts →
    gs ≡ with_group c k (value_reads c.scope e o) fs → hs ≡ with_group c k (reads_all c.scope 0 [] ss) gs → is ≡ with_group c k (access c.scope 0 [] Read p) hs →
    is ≡ with_group c k (assignment_accesses c.scope 0 [] atomic p e o) fs
assignment_made c k atomic p e ss o fs gs hs is q a b d =
    d ∙ ap (with_group c k (access c.scope 0 [] Read p)) (b ∙ ap (λ (us : Expressions). with_group c k (reads_all c.scope 0 [] us) gs) q ∙ ap (with_group c k (reads_all c.scope 0 [] p.subscripts)) a)
    ∙ parts_of c k atomic p e o fs

pub three_groups : (c : Setting) (k : Known) (os ps qs : List Occurrence) (fs gs hs is : List Forms) → gs ≡ with_group c k os fs → hs ≡ with_group c k ps gs → is ≡ with_group c k qs hs → is ≡ with_group c k (os ++ (ps ++ qs)) fs
three_groups c k os ps qs fs gs hs is a b d = two_groups c k os (ps ++ qs) fs gs is a (two_groups c k ps qs gs hs is b d)

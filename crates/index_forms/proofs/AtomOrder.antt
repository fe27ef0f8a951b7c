-- Equal by the order is equal.
use Rattle.std.proofs.Common.{◌≡◌, ℕ, ℤ, List, [], ◌∷◌, refl, ap, arith}
use Rattle.std.proofs.lemmas.Int.{ints}
use Rattle.std.proofs.lemmas.Bool.Decides.{nat_tests}
use Rattle.std.specs.declared.cmp.Ordering.{Ordering}
use Rattle.std.specs.declared.cmp.Ordering.TheVariants.{Less, Equal, Greater}
use Rattle.index_forms.specs.declared.form.Side.{Side}
use Rattle.index_forms.specs.declared.form.Side.TheVariants.{One, Two}
use Rattle.index_forms.specs.Form.{start2, iter2, against_iter2, Atom, start, iter, inner, inv, version, read, opaque, Form, form, Terms, no_terms, term, Forms, no_forms, and_form, atom_order, form_order, terms_order, forms_order, then_by, nat_order, int_order, name_order, side_order, rank, against_iter, against_inner, against_inv, against_version, against_read, against_opaque, against_form, against_term, against_no_terms, against_and_form, against_no_forms}

pub then-first : (p q : Ordering) → then_by p q ≡ Equal → p ≡ Equal
then-first Less q e = e
then-first Equal q e = refl
then-first Greater q e = e

pub then-second : (p q : Ordering) → then_by p q ≡ Equal → q ≡ Equal
then-second Less q e = cc
then-second Equal q e = e
then-second Greater q e = cc

pub nat-same : (m n : ℕ) → nat_order m n ≡ Equal → m ≡ n
nat-same m n e = grind (arith, nat_tests)

pub int-same : (m n : ℤ) → int_order m n ≡ Equal → m ≡ n
int-same m n e = grind (arith, ints)

pub name-same : (m n : List ℕ) → name_order m n ≡ Equal → m ≡ n
name-same [] [] e = refl
name-same [] (y ∷ ys) e = cc
name-same (x ∷ xs) [] e = cc
name-same (x ∷ xs) (y ∷ ys) e =
    let p : x ≡ y = nat-same x y (then-first (nat_order x y) (name_order xs ys) e) in
    let q : xs ≡ ys = name-same xs ys (then-second (nat_order x y) (name_order xs ys) e) in cc

pub side-same : (s t : Side) → side_order s t ≡ Equal → s ≡ t
side-same One One e = refl
side-same One Two e = cc
side-same Two One e = cc
side-same Two Two e = refl

start-same : (b : Atom) → nat_order 0 (rank b) ≡ Equal → start ≡ b
start-same start e = refl
start-same b e = cc

iter-same : (s : Side) (b : Atom) → against_iter s b ≡ Equal → iter s ≡ b
iter-same s (iter t) e = ap iter (side-same s t e)
iter-same s b e = cc

inner-same : (s : Side) (l : ℕ) (b : Atom) → against_inner s l b ≡ Equal → inner s l ≡ b
inner-same s l (inner t m) e =
    let p : s ≡ t = side-same s t (then-first (side_order s t) (nat_order l m) e) in
    let q : l ≡ m = nat-same l m (then-second (side_order s t) (nat_order l m) e) in cc
inner-same s l b e = cc

inv-same : (n : List ℕ) (b : Atom) → against_inv n b ≡ Equal → inv n ≡ b
inv-same n (inv m) e = ap inv (name-same n m e)
inv-same n b e = cc

version-same : (s : Side) (l : ℕ) (n : List ℕ) (b : Atom) → against_version s l n b ≡ Equal → version s l n ≡ b
version-same s l n (version t m k) e =
    let rest : then_by (nat_order l m) (name_order n k) ≡ Equal = then-second (side_order s t) (then_by (nat_order l m) (name_order n k)) e in
    let p : s ≡ t = side-same s t (then-first (side_order s t) (then_by (nat_order l m) (name_order n k)) e) in
    let q : l ≡ m = nat-same l m (then-first (nat_order l m) (name_order n k) rest) in
    let r : n ≡ k = name-same n k (then-second (nat_order l m) (name_order n k) rest) in cc
version-same s l n b e = cc

opaque-same : (s : Side) (a n : ℕ) (b : Atom) → against_opaque s a n b ≡ Equal → opaque s a n ≡ b
opaque-same s a n (opaque t c k) e =
    let rest : then_by (nat_order a c) (nat_order n k) ≡ Equal = then-second (side_order s t) (then_by (nat_order a c) (nat_order n k)) e in
    let p : s ≡ t = side-same s t (then-first (side_order s t) (then_by (nat_order a c) (nat_order n k)) e) in
    let q : a ≡ c = nat-same a c (then-first (nat_order a c) (nat_order n k) rest) in
    let r : n ≡ k = nat-same n k (then-second (nat_order a c) (nat_order n k) rest) in cc
opaque-same s a n b e = cc

start2-same : (b : Atom) → nat_order 7 (rank b) ≡ Equal → start2 ≡ b
start2-same start2 e = refl
start2-same b e = cc

iter2-same : (s : Side) (b : Atom) → against_iter2 s b ≡ Equal → iter2 s ≡ b
iter2-same s (iter2 t) e = ap iter2 (side-same s t e)
iter2-same s b e = cc

read-same : (n : List ℕ) (fs : Forms) (o : Forms → Ordering) (b : Atom) → ((gs : Forms) → o gs ≡ Equal → fs ≡ gs) → against_read n o b ≡ Equal → read n fs ≡ b
read-same n fs o (read m gs) inside e =
    let p : n ≡ m = name-same n m (then-first (name_order n m) (o gs) e) in
    let q : fs ≡ gs = inside gs (then-second (name_order n m) (o gs) e) in cc
read-same n fs o b inside e = cc

form-same : (c : ℤ) (ts : Terms) (o : Terms → Ordering) (g : Form) → ((us : Terms) → o us ≡ Equal → ts ≡ us) → against_form c o g ≡ Equal → form c ts ≡ g
form-same c ts o (form d us) inside e =
    let p : c ≡ d = int-same c d (then-first (int_order c d) (o us) e) in
    let q : ts ≡ us = inside us (then-second (int_order c d) (o us) e) in cc

term-same : (a : Atom) (oa : Atom → Ordering) (k : ℤ) (ts : Terms) (ot : Terms → Ordering) (us : Terms) → ((b : Atom) → oa b ≡ Equal → a ≡ b) → ((vs : Terms) → ot vs ≡ Equal → ts ≡ vs) → against_term oa k ot us ≡ Equal → term a k ts ≡ us
term-same a oa k ts ot no_terms ha ht e = cc
term-same a oa k ts ot (term b m us) ha ht e =
    let rest : then_by (int_order k m) (ot us) ≡ Equal = then-second (oa b) (then_by (int_order k m) (ot us)) e in
    let p : a ≡ b = ha b (then-first (oa b) (then_by (int_order k m) (ot us)) e) in
    let q : k ≡ m = int-same k m (then-first (int_order k m) (ot us) rest) in
    let r : ts ≡ us = ht us (then-second (int_order k m) (ot us) rest) in cc

and_form-same : (f : Form) (of : Form → Ordering) (fs : Forms) (os : Forms → Ordering) (gs : Forms) → ((g : Form) → of g ≡ Equal → f ≡ g) → ((hs : Forms) → os hs ≡ Equal → fs ≡ hs) → against_and_form of os gs ≡ Equal → and_form f fs ≡ gs
and_form-same f of fs os no_forms hf hs e = cc
and_form-same f of fs os (and_form g gs) hf hs e =
    let p : f ≡ g = hf g (then-first (of g) (os gs) e) in
    let q : fs ≡ gs = hs gs (then-second (of g) (os gs) e) in cc

no_terms-same : (us : Terms) → against_no_terms us ≡ Equal → no_terms ≡ us
no_terms-same no_terms e = refl
no_terms-same (term b m us) e = cc

no_forms-same : (gs : Forms) → against_no_forms gs ≡ Equal → no_forms ≡ gs
no_forms-same no_forms e = refl
no_forms-same (and_form g gs) e = cc

mutual
  pub atom-same : (a b : Atom) → atom_order a b ≡ Equal → a ≡ b
  atom-same start b e = start-same b e
  atom-same (iter s) b e = iter-same s b e
  atom-same (inner s l) b e = inner-same s l b e
  atom-same (inv n) b e = inv-same n b e
  atom-same (version s l n) b e = version-same s l n b e
  atom-same (read n fs) b e = read-same n fs (forms_order fs) b (forms-equal fs) e
  atom-same (opaque s a n) b e = opaque-same s a n b e
  atom-same start2 b e = start2-same b e
  atom-same (iter2 s) b e = iter2-same s b e

  pub form-equal : (f g : Form) → form_order f g ≡ Equal → f ≡ g
  form-equal (form c ts) g e = form-same c ts (terms_order ts) g (terms-equal ts) e

  pub terms-equal : (ts us : Terms) → terms_order ts us ≡ Equal → ts ≡ us
  terms-equal no_terms us e = no_terms-same us e
  terms-equal (term a k ts) us e = term-same a (atom_order a) k ts (terms_order ts) us (atom-same a) (terms-equal ts) e

  pub forms-equal : (fs gs : Forms) → forms_order fs gs ≡ Equal → fs ≡ gs
  forms-equal no_forms gs e = no_forms-same gs e
  forms-equal (and_form f fs) gs e = and_form-same f (form_order f) fs (forms_order fs) gs (form-equal f) (forms-equal fs) e

-- Forms as plain data: a constant and terms, each an atom with its coefficient.
use Rattle.std.specs.Prelude.{ℕ, cond, ltb, ℤ, int_lt, List, [], ◌∷◌}
use Rattle.index_forms.specs.declared.form.Side.{Side}
use Rattle.index_forms.specs.declared.form.Side.TheVariants.{One, Two}
use Rattle.std.specs.declared.cmp.Ordering.{Ordering}
use Rattle.std.specs.declared.cmp.Ordering.TheVariants.{Less, Equal, Greater}

mutual
  pub data Atom : Type 0 where
    start : Atom
    iter : Side → Atom
    inner : Side → (loop : ℕ) → Atom
    inv : (name : List ℕ) → Atom
    version : Side → (statement : ℕ) → (name : List ℕ) → Atom
    read : (name : List ℕ) → Forms → Atom
    opaque : Side → (access : ℕ) → (n : ℕ) → Atom
    -- of the inner one of two collapsed loops
    start2 : Atom
    iter2 : Side → Atom

  pub data Form : Type 0 where
    form : (constant : ℤ) → Terms → Form

  pub data Terms : Type 0 where
    no_terms : Terms
    term : Atom → (coefficient : ℤ) → Terms → Terms

  pub data Forms : Type 0 where
    no_forms : Forms
    and_form : Form → Forms → Forms

-- ---- the order of atoms: by variant, then by the fields from the left
abbrev pub then_by : Ordering → Ordering → Ordering
then_by Less o = Less
then_by Equal o = o
then_by Greater o = Greater

abbrev pub nat_order : ℕ → ℕ → Ordering
nat_order m n = cond (ltb m n) Less (cond (ltb n m) Greater Equal)

abbrev pub int_order : ℤ → ℤ → Ordering
int_order m n = cond (int_lt m n) Less (cond (int_lt n m) Greater Equal)

abbrev pub name_order : List ℕ → List ℕ → Ordering
name_order [] [] = Equal
name_order [] (y ∷ ys) = Less
name_order (x ∷ xs) [] = Greater
name_order (x ∷ xs) (y ∷ ys) = then_by (nat_order x y) (name_order xs ys)

abbrev pub side_order : Side → Side → Ordering
side_order One One = Equal
side_order One Two = Less
side_order Two One = Greater
side_order Two Two = Equal

abbrev pub rank : Atom → ℕ
rank start = 0
rank (iter s) = 1
rank (inner s l) = 2
rank (inv n) = 3
rank (version s l n) = 4
rank (read n fs) = 5
rank (opaque s a n) = 6
rank start2 = 7
rank (iter2 s) = 8

abbrev pub against_iter : Side → Atom → Ordering
against_iter s (iter t) = side_order s t
against_iter s b = nat_order 1 (rank b)

abbrev pub against_inner : Side → ℕ → Atom → Ordering
against_inner s l (inner t m) = then_by (side_order s t) (nat_order l m)
against_inner s l b = nat_order 2 (rank b)

abbrev pub against_inv : List ℕ → Atom → Ordering
against_inv n (inv m) = name_order n m
against_inv n b = nat_order 3 (rank b)

abbrev pub against_version : Side → ℕ → List ℕ → Atom → Ordering
against_version s l n (version t m k) = then_by (side_order s t) (then_by (nat_order l m) (name_order n k))
against_version s l n b = nat_order 4 (rank b)

abbrev pub against_iter2 : Side → Atom → Ordering
against_iter2 s (iter2 t) = side_order s t
against_iter2 s b = nat_order 8 (rank b)

-- o compares the forms inside
abbrev pub against_read : List ℕ → (Forms → Ordering) → Atom → Ordering
against_read n o (read m gs) = then_by (name_order n m) (o gs)
against_read n o b = nat_order 5 (rank b)

abbrev pub against_opaque : Side → ℕ → ℕ → Atom → Ordering
against_opaque s a n (opaque t b m) = then_by (side_order s t) (then_by (nat_order a b) (nat_order n m))
against_opaque s a n b = nat_order 6 (rank b)

abbrev pub against_form : ℤ → (Terms → Ordering) → Form → Ordering
against_form c o (form d ts) = then_by (int_order c d) (o ts)

abbrev pub against_term : (Atom → Ordering) → ℤ → (Terms → Ordering) → Terms → Ordering
against_term oa k ot no_terms = Greater
against_term oa k ot (term b m us) = then_by (oa b) (then_by (int_order k m) (ot us))

abbrev pub against_no_terms : Terms → Ordering
against_no_terms no_terms = Equal
against_no_terms (term b m us) = Less

abbrev pub against_and_form : (Form → Ordering) → (Forms → Ordering) → Forms → Ordering
against_and_form o os no_forms = Greater
against_and_form o os (and_form g gs) = then_by (o g) (os gs)

abbrev pub against_no_forms : Forms → Ordering
against_no_forms no_forms = Equal
against_no_forms (and_form g gs) = Less

abbrev mutual
  pub atom_order : Atom → Atom → Ordering
  atom_order start b = nat_order 0 (rank b)
  atom_order (iter s) b = against_iter s b
  atom_order (inner s l) b = against_inner s l b
  atom_order (inv n) b = against_inv n b
  atom_order (version s l n) b = against_version s l n b
  atom_order (read n fs) b = against_read n (forms_order fs) b
  atom_order (opaque s a n) b = against_opaque s a n b
  atom_order start2 b = nat_order 7 (rank b)
  atom_order (iter2 s) b = against_iter2 s b

  pub form_order : Form → Form → Ordering
  form_order (form c ts) g = against_form c (terms_order ts) g

  pub terms_order : Terms → Terms → Ordering
  terms_order no_terms us = against_no_terms us
  terms_order (term a k ts) us = against_term (atom_order a) k (terms_order ts) us

  pub forms_order : Forms → Forms → Ordering
  forms_order no_forms gs = against_no_forms gs
  forms_order (and_form f fs) gs = against_and_form (form_order f) (forms_order fs) gs

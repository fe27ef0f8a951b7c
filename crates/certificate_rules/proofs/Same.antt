-- A form is equal to itself in the order of forms, and the tests on atoms.
use Rattle.std.proofs.Common.{◌≡◌, ℕ, Bool, true, false, ◌&&◌, ℤ, List, [], ◌∷◌, Option, Some, None, refl, ap, ◌∙◌, arith}
use Rattle.std.proofs.lemmas.Int.{ints}
use Rattle.std.proofs.lemmas.Bool.Decides.{nat_tests}
use Rattle.std.specs.declared.cmp.Ordering.{Ordering}
use Rattle.std.specs.declared.cmp.Ordering.TheVariants.{Less, Equal, Greater}
use Rattle.index_forms.specs.declared.form.Side.{Side}
use Rattle.index_forms.specs.declared.form.Side.TheVariants.{One, Two}
use Rattle.index_forms.specs.Form.{Atom, start, iter, inner, inv, version, read, opaque, start2, iter2, Form, form, Terms, no_terms, term, Forms, no_forms, and_form, atom_order, form_order, terms_order, forms_order, then_by, nat_order, int_order, name_order, side_order}
use Rattle.index_forms.proofs.AtomOrder.{form-equal}
use Rattle.certificate_rules.specs.Tests.{is_equal, same_form, matches, same_side, is_iter, is_iter2}

then-refl : (o p : Ordering) → o ≡ Equal → p ≡ Equal → then_by o p ≡ Equal
then-refl Less p e f = e
then-refl Equal p e f = f
then-refl Greater p e f = e

nat-refl : (n : ℕ) → nat_order n n ≡ Equal
nat-refl n = grind (arith, nat_tests)

int-refl : (z : ℤ) → int_order z z ≡ Equal
int-refl z = grind (arith, ints)

side-refl : (s : Side) → side_order s s ≡ Equal
side-refl One = refl
side-refl Two = refl

name-refl : (n : List ℕ) → name_order n n ≡ Equal
name-refl [] = refl
name-refl (x ∷ xs) = then-refl (nat_order x x) (name_order xs xs) (nat-refl x) (name-refl xs)

mutual
  atom-refl : (a : Atom) → atom_order a a ≡ Equal
  atom-refl start = refl
  atom-refl (iter s) = side-refl s
  atom-refl (inner s l) = then-refl (side_order s s) (nat_order l l) (side-refl s) (nat-refl l)
  atom-refl (inv n) = name-refl n
  atom-refl (version s l n) = then-refl (side_order s s) (then_by (nat_order l l) (name_order n n)) (side-refl s) (then-refl (nat_order l l) (name_order n n) (nat-refl l) (name-refl n))
  atom-refl (read n fs) = then-refl (name_order n n) (forms_order fs fs) (name-refl n) (forms-refl fs)
  atom-refl (opaque s a n) = then-refl (side_order s s) (then_by (nat_order a a) (nat_order n n)) (side-refl s) (then-refl (nat_order a a) (nat_order n n) (nat-refl a) (nat-refl n))
  atom-refl start2 = refl
  atom-refl (iter2 s) = side-refl s

  pub form-refl : (f : Form) → form_order f f ≡ Equal
  form-refl (form c ts) = then-refl (int_order c c) (terms_order ts ts) (int-refl c) (terms-refl ts)

  terms-refl : (ts : Terms) → terms_order ts ts ≡ Equal
  terms-refl no_terms = refl
  terms-refl (term a k ts) = then-refl (atom_order a a) (then_by (int_order k k) (terms_order ts ts)) (atom-refl a) (then-refl (int_order k k) (terms_order ts ts) (int-refl k) (terms-refl ts))

  forms-refl : (fs : Forms) → forms_order fs fs ≡ Equal
  forms-refl no_forms = refl
  forms-refl (and_form f fs) = then-refl (form_order f f) (forms_order fs fs) (form-refl f) (forms-refl fs)

pub equal-true : (o : Ordering) → is_equal o ≡ true → o ≡ Equal
equal-true Less e = cc
equal-true Equal e = refl
equal-true Greater e = cc

pub same-to : (f g : Form) → same_form f g ≡ true → f ≡ g
same-to f g e = form-equal f g (equal-true (form_order f g) e)

pub matches-from : (o : Option Form) (f : Form) → o ≡ Some f → matches o f ≡ true
matches-from None f e = cc
matches-from (Some g) f e = let p : g ≡ f = cc in ap is_equal (ap (λ (h : Form). form_order h f) p ∙ form-refl f)

pub matches-to : (o : Option Form) (f : Form) → matches o f ≡ true → o ≡ Some f
matches-to None f e = cc
matches-to (Some g) f e = ap Some (same-to g f e)

-- ---- conjunctions

pub and-left : (a b : Bool) → (a && b) ≡ true → a ≡ true
and-left true b e = refl
and-left false b e = e

pub and-right : (a b : Bool) → (a && b) ≡ true → b ≡ true
and-right true b e = e
and-right false b e = cc

pub and-both : (a b : Bool) → a ≡ true → b ≡ true → (a && b) ≡ true
and-both true b e f = f
and-both false b e f = e

-- ---- atoms

side-to : (s t : Side) → same_side s t ≡ true → t ≡ s
side-to One One e = refl
side-to One Two e = cc
side-to Two One e = cc
side-to Two Two e = refl

pub side-from : (s : Side) → same_side s s ≡ true
side-from One = refl
side-from Two = refl

pub iter-to : (s : Side) (a : Atom) → is_iter s a ≡ true → a ≡ iter s
iter-to s (iter t) e = ap iter (side-to s t e)
iter-to s a e = cc

pub iter2-to : (s : Side) (a : Atom) → is_iter2 s a ≡ true → a ≡ iter2 s
iter2-to s (iter2 t) e = ap iter2 (side-to s t e)
iter2-to s a e = cc

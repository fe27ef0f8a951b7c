-- Products with a constant form.
use Rattle.std.proofs.Common.{◌≡◌, ◌<◌, true, false, ℤ, List, [], ◌∷◌, length, Option, Some, None, map, refl, ap, ◌∙◌, arith}
use Rattle.index_forms.specs.declared.difference.Extent.TheVariants.{Narrow}
use Rattle.fl_ast.specs.declared.kind.BinOp.TheVariants.{Mul}
use Rattle.index_forms.specs.declared.form.Atom as program
use Rattle.index_forms.specs.declared.form.Form as program_form
use Rattle.index_forms.specs.Form.{Form, form, Terms, no_terms, term}
use Rattle.index_forms.specs.Seen.{form_tree, term_tree, terms_of}
use Rattle.index_forms.specs.Sums.{if_fitting, plus_scaled}
use Rattle.index_forms.specs.Formed.{zero_form, if_narrow, scaled_if, linear}
use Rattle.index_forms.specs.Linear.{scaled_by, has_terms}
use Rattle.index_forms.proofs.Seens.{form-seen}

no_terms_by : (f : Form) (c : ℤ) (ts : Terms) → f ≡ form c ts → has_terms f ≡ has_terms (form c ts)
no_terms_by f c ts e = ap has_terms e

pub terms_none : (f : program_form.Form) → f.terms ≡ [] → has_terms (form_tree f) ≡ false
terms_none f e = ap has_terms (form-seen f) ∙ ap (λ (l : List (program.Atom × ℤ)). has_terms (form f.constant (terms_of (map term_tree l)))) e

pub terms_some : (f : program_form.Form) → 0 < length f.terms → has_terms (form_tree f) ≡ true
terms_some f h = ap has_terms (form-seen f) ∙ some_by f.constant f.terms h
  where
    some_by : (c : ℤ) (l : List (program.Atom × ℤ)) → 0 < length l → has_terms (form c (terms_of (map term_tree l))) ≡ true
    some_by c [] h = absurd (omega arith)
    some_by c (x ∷ xs) h = refl

scaled_some : (f g : Form) → has_terms f ≡ false → scaled_if f g ≡ Some (scaled_by f g)
scaled_some (form k no_terms) g e = refl
scaled_some (form k (term a m ts)) g e = cc

scaled_none : (f g : Form) → has_terms f ≡ true → scaled_if f g ≡ None
scaled_none (form k no_terms) g e = cc
scaled_none (form k (term a m ts)) g e = refl

pub product_left : (f g : Form) (o : Option Form) → has_terms f ≡ false → o ≡ if_fitting Narrow (scaled_by f g) → o ≡ if_narrow (linear Mul f g)
product_left f g o e h = h ∙ rw (scaled_some f g e) refl

pub product_right : (f g : Form) (o : Option Form) → has_terms f ≡ true → has_terms g ≡ false → o ≡ if_fitting Narrow (scaled_by g f) → o ≡ if_narrow (linear Mul f g)
product_right f g o e d h = h ∙ rw (scaled_none f g e, scaled_some g f d) refl

pub product_none : (f g : Form) → has_terms f ≡ true → has_terms g ≡ true → None ≡ if_narrow (linear Mul f g)
product_none f g e d = rw (scaled_none f g e, scaled_none g f d) refl

-- the sum that a product makes
pub scaled_is : (f : program_form.Form) (g : Form) (z : Form) → z ≡ zero_form → plus_scaled f.constant g z ≡ scaled_by (form_tree f) g
scaled_is f g z e = ap (plus_scaled f.constant g) e ∙ by_seen (form_tree f) (form-seen f)
  where
    by_seen : (h : Form) → h ≡ form f.constant (terms_of (map term_tree f.terms)) → plus_scaled f.constant g zero_form ≡ scaled_by h g
    by_seen h p = rw p refl

-- A multiple of a form, added to a sum.
use Rattle.std.proofs.Common.{◌≡◌, ℤ, ◌+ℤ◌, ◌*ℤ◌, map, refl}
use Rattle.index_forms.specs.declared.form.Form as program_form
use Rattle.index_forms.specs.Form.{Form, form, Terms}
use Rattle.index_forms.specs.Seen.{form_tree, term_tree, terms_of}
use Rattle.index_forms.specs.Sums.{add_scaled, plus_scaled}
use Rattle.index_forms.proofs.Seens.{form-seen}

by_form : (m : ℤ) (g : Form) (c d n : ℤ) (ts us vs : Terms) → g ≡ form c ts → n ≡ (m *ℤ c) +ℤ d → vs ≡ add_scaled m ts us → form n vs ≡ plus_scaled m g (form d us)
by_form m g c d n ts us vs p e h = rw (p, e, h) refl

pub sum-more : (m : ℤ) (f : program_form.Form) (d n : ℤ) (us vs : Terms) → n ≡ (m *ℤ f.constant) +ℤ d → vs ≡ add_scaled m (terms_of (map term_tree f.terms)) us → form n vs ≡ plus_scaled m (form_tree f) (form d us)
sum-more m f d n us vs e h = by_form m (form_tree f) f.constant d n (terms_of (map term_tree f.terms)) us vs (form-seen f) e h

-- A form, seen.
use Rattle.std.proofs.Common.{◌≡◌, map}
use Rattle.index_forms.specs.declared.form.Form as program_form
use Rattle.index_forms.specs.declared.form.Form.{fold_out-Form}
use Rattle.index_forms.specs.Form.{Atom, Form, form}
use Rattle.index_forms.specs.Seen.{terms_of, term_tree, form_tree, atom_level, form_level}

pub form-seen : (f : program_form.Form) → form_tree f ≡ form f.constant (terms_of (map term_tree f.terms))
form-seen f = fold_out-Form Atom Form atom_level form_level f

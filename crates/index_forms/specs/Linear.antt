-- Parts of linear nodes.
use Rattle.std.specs.Prelude.{Bool, true, false}
use Rattle.index_forms.specs.Form.{Form, form, no_terms, term}
use Rattle.index_forms.specs.Sums.{plus_scaled}
use Rattle.index_forms.specs.Formed.{zero_form}

-- a form times the constant of another
abbrev pub scaled_by : Form → Form → Form
scaled_by (form k ts) g = plus_scaled k g zero_form

abbrev pub has_terms : Form → Bool
has_terms (form k no_terms) = false
has_terms (form k (term a m ts)) = true

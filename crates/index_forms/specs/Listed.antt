-- Lists of forms, as the program has them.
use Rattle.std.specs.Prelude.{List, map}
use Rattle.index_forms.specs.declared.form.Form as program_form
use Rattle.index_forms.specs.Form.{Forms}
use Rattle.index_forms.specs.Seen.{form_tree, forms_of}

abbrev pub forms_seen : List program_form.Form → Forms
forms_seen fs = forms_of (map form_tree fs)

abbrev pub all_forms_seen : List (List program_form.Form) → List Forms
all_forms_seen fss = map forms_seen fss

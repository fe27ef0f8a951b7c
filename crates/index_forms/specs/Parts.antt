-- A form from its parts.
use Rattle.std.specs.Prelude.{ℤ, List, map, if◌then◌else◌, Option, Some, None}
use Rattle.index_forms.specs.declared.form.Atom.{Atom}
use Rattle.index_forms.specs.declared.form.Form.{Form}
use Rattle.index_forms.specs.declared.difference.Extent.{Extent}
use Rattle.index_forms.specs.declared.difference.FormSum.{FormSum}
use Rattle.index_forms.specs.Form as plain
use Rattle.index_forms.specs.Seen.{term_tree, terms_of}
use Rattle.index_forms.specs.Sums.{lies_in, all_lie_in}

abbrev pub if_lying : Extent → ℤ → Option ℤ
if_lying extent n = if lies_in extent n then Some n else None

abbrev pub if_all_lying : Extent → List (Atom × ℤ) → Option (List (Atom × ℤ))
if_all_lying extent ts = if all_lie_in extent (terms_of (map term_tree ts)) then Some ts else None

abbrev pub both_parts : Option ℤ → Option (List (Atom × ℤ)) → Option Form
both_parts None o = None
both_parts (Some c) None = None
both_parts (Some c) (Some ts) = Some (record { constant = c; terms = ts })

-- the form that a sum is
abbrev pub sum_seen : FormSum → plain.Form
sum_seen s = plain.form s.constant (terms_of (map term_tree s.terms))

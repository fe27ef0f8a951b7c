-- What is known of scalars, as a list of what was said of them last.
use Rattle.std.specs.Prelude.{ℕ, if◌then◌else◌, bytes_eq, List, [], ◌∷◌, Option, Some, None}
use Rattle.fl_ast.specs.Tree.{Expressions, no_expressions, expression}
use Rattle.index_forms.specs.declared.form.Side.{Side}
use Rattle.index_forms.specs.declared.origin.Origin.{Origin}
use Rattle.index_forms.specs.declared.origin.Origin.TheVariants.{Unknown, Turn, Assigned}
use Rattle.index_forms.specs.declared.origin.Entry.{Entry}
use Rattle.index_forms.specs.Form.{Form, inner, version}
use Rattle.index_forms.specs.Formed.{Known, atom_form}

-- the variable of a sequential loop in one of its turns, or what a statement assigned
abbrev pub origin_form : Side → List ℕ → Origin → Option Form
origin_form side x Unknown = None
origin_form side x (Turn l) = Some (atom_form (inner side l))
origin_form side x (Assigned n) = Some (atom_form (version side n x))

abbrev pub later_of : Option Origin → Option Origin → Option Origin
later_of None o = o
later_of (Some p) o = Some p

-- the last entry of a name
abbrev pub origin_in : List Entry → List ℕ → Option Origin
origin_in [] x = None
origin_in (e ∷ es) x = later_of (origin_in es x) (if bytes_eq x e.name then Some e.origin else None)

abbrev pub form_by : Side → List ℕ → Option Origin → Option Form → Option Form
form_by side x None known = known
form_by side x (Some o) known = origin_form side x o

-- what is known with these entries, `first` being what was known before them
abbrev pub known_with : Side → List Entry → Known → Known
known_with side es first = λ x. form_by side x (origin_in es x) (first x)

-- nothing is known of these names
abbrev pub unknown_of : List (List ℕ) → List Entry
unknown_of [] = []
unknown_of (x ∷ xs) = record { name = x; origin = Unknown } ∷ unknown_of xs

-- an assignment says something of a scalar alone
abbrev pub assigned_origin : ℕ → Expressions → Origin
assigned_origin n no_expressions = Assigned n
assigned_origin n (expression e es) = Unknown

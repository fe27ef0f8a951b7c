-- What calls that make forms find.
use Rattle.std.specs.Prelude.{◌≡◌, ℕ, suc, map, [], Option, None, Some}
use Rattle.index_forms.specs.declared.nodes.FormedNode.{FormedNode}
use Rattle.index_forms.specs.declared.nodes.FormedNodes.{FormedNodes}
use Rattle.index_forms.specs.Seen.{form_tree, forms_of}
use Rattle.index_forms.specs.declared.form.Side.{Side}
use Rattle.index_forms.specs.Form.{Form, opaque}
use Rattle.index_forms.specs.Formed.{Formed, FormedAll, atom_form}

-- the form and the number of opaque nodes
abbrev pub IsFormed : Formed → FormedNode → Type 0
IsFormed w r = (form_tree r.form ≡ w.form) × (r.next ≡ w.next)

abbrev pub AreFormed : FormedAll → FormedNodes → Type 0
AreFormed w r = (forms_of (map form_tree r.forms) ≡ w.forms) × (r.next ≡ w.next)

-- a node with a form or without, its leaves aside
abbrev pub node_by : Side → (access n : ℕ) → Option Form → Formed
node_by side access n None = record { form = atom_form (opaque side access (suc n)); next = suc n; leaves = [] }
node_by side access n (Some f) = record { form = f; next = n; leaves = [] }

-- A walk's scene as lists of names.
use Rattle.std.specs.Prelude.{ℕ, Bool, not, ◌&&◌, ◌||◌, false, if◌then◌else◌, bytes_eq, List, Option, Some, None}
use Rattle.fl_types.specs.Sharing.{has_name}
use Rattle.index_forms.specs.declared.form.Side.{Side}
use Rattle.index_forms.specs.declared.scene.Counter.{Counter}
use Rattle.index_forms.specs.declared.scene.Scene.{Scene}
use Rattle.index_forms.specs.declared.origin.Entry.{Entry}
use Rattle.index_forms.specs.Form.{Form, start, iter, inv, start2, iter2}
use Rattle.index_forms.specs.Formed.{Known, Viewed, atom_form}
use Rattle.index_forms.specs.Loops.{variable_by}
use Rattle.index_forms.specs.Origins.{known_with}
use Rattle.index_forms.specs.Walk.{Setting}

-- all names but those that are private, or variables of loops
abbrev pub is_shared : Scene → List ℕ → Bool
is_shared c x = not (has_name x c.unshared)

abbrev pub is_fixed_there : Scene → List ℕ → Bool
is_fixed_there c x = is_shared c x && not (has_name x c.written || has_name x c.ring)

abbrev pub counter_form : Side → Counter → Form
counter_form side h = variable_by start (iter side) h.first h.step

abbrev pub second_counter_form : Side → Counter → Form
second_counter_form side h = variable_by start2 (iter2 side) h.first h.step

abbrev pub further_form : Side → List ℕ → Option Counter → Option Form
further_form side x None = Some (atom_form (inv x))
further_form side x (Some h) = if bytes_eq x h.name then Some (second_counter_form side h) else Some (atom_form (inv x))

abbrev pub known_first : Scene → Known
known_first c = λ x.
    if has_name x c.written then None
    else if bytes_eq x c.counter.name then Some (counter_form c.side c.counter)
    else further_form c.side x c.further

-- the names as the definitions ask for them; which are reductions plays no part in forms
abbrev pub setting_there : Scene → Setting
setting_there c = record { side = c.side; scope = record { accessed = is_shared c; pluses = λ x. false; ring = λ x. has_name x c.ring }; fixed = is_fixed_there c }

abbrev pub known_there : Scene → List Entry → Known
known_there c es = known_with c.side es (known_first c)

-- an access with these entries
abbrev pub viewed_with : Scene → List Entry → ℕ → Viewed
viewed_with c es a = record { side = c.side; access = a; known = known_with c.side es (known_first c); fixed = is_fixed_there c }

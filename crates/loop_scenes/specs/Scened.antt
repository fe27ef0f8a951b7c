-- The scene of a parallel loop: names as the walk over its accesses asks for them.
use Rattle.std.specs.Prelude.{ℕ, false, if◌then◌else◌, List, [], ◌∷◌, ◌++◌, option_map}
use Rattle.fl_ast.specs.declared.decl.Decl.{Decl}
use Rattle.fl_types.specs.Nests.{Head}
use Rattle.fl_types.specs.Sharing.{is_ring_kind, ParallelLoop}
use Rattle.fl_types.specs.Accesses.{Scope}
use Rattle.index_forms.specs.declared.form.Side.{Side}
use Rattle.index_forms.specs.declared.scene.Counter.{Counter}
use Rattle.index_forms.specs.declared.scene.Scene.{Scene}
use Rattle.index_forms.specs.Loops.{HeadedLoop, inside, further, signed_number, step_number, names_in, written_in}
use Rattle.index_forms.specs.Scenes.{setting_there}

-- names that make no accesses: variables of the loops around, of the loop and of those in it, and private names
abbrev pub unshared_names : ParallelLoop → List (List ℕ)
unshared_names l = l.outer ++ (l.var ∷ (names_in false l.body ++ l.directive.privates))

abbrev pub ring_names : List Decl → List (List ℕ)
ring_names [] = []
ring_names (d ∷ ds) = if is_ring_kind d.kind then d.name ∷ ring_names ds else ring_names ds

abbrev pub counter_of : Head → Counter
counter_of h = record { name = h.var; first = signed_number h.first; step = step_number h.step }

abbrev pub scene_by : Side → List Decl → HeadedLoop → Scene
scene_by side decls l = record {
  side = side;
  unshared = unshared_names l.loop;
  written = written_in (inside l);
  ring = ring_names decls;
  counter = counter_of l.head;
  further = option_map counter_of (further l);
}

abbrev pub scope_there : Scene → Scope
scope_there c = (setting_there c).scope

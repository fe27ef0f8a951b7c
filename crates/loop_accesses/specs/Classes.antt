-- The classes of names as the code finds them, by sets of names.
use Rattle.std.specs.Prelude.{ℕ, not, ◌&&◌, if◌then◌else◌, List}
use Rattle.fl_types.specs.declared.sharing.Sharing.{Sharing}
use Rattle.fl_types.specs.declared.sharing.Sharing.TheVariants.{Shared, Private, First, Plus, LoopVar}
use Rattle.fl_types.specs.Sharing.{has_name, is_accessed, is_plus, is_ring_name}
use Rattle.fl_types.specs.Accesses.{Scope}
use Rattle.loop_accesses.specs.declared.classes.LoopNames.{LoopNames}

abbrev pub class_by : LoopNames → List ℕ → Sharing
class_by n x =
    if has_name x n.variables then LoopVar
    else if has_name x n.privates then Private
    else if has_name x n.firsts then First
    else if has_name x n.pluses then Plus
    else Shared

abbrev pub scope_by : LoopNames → Scope
scope_by n = record {
  accessed = λ x. not (has_name x n.outer) && is_accessed (class_by n x);
  pluses = λ x. is_plus (class_by n x);
  ring = is_ring_name n.indexed.now.decls;
}

use Rattle.std.proofs.Common.{◌≡◌, take, drop, flat_map}
use Rattle.serde_json.specs.View.{view}
use Rattle.data_io.specs.DataFaults.{name_faults, name_entries}
use Rattle.data_io.proofs.read.entries.Given as goal

abbrev pub invariant-loop-name : goal.invariant-loop-name
invariant-loop-name l =
    (flat_map (name_faults l.values l.decls (view l.value)) l.names ≡ flat_map (name_faults l.values l.decls (view l.value)) (drop l.name-index l.names))
    × (l.entries ≡ flat_map (name_entries l.decls (view l.value)) (take l.name-index l.names))

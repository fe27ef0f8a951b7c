use Rattle.std.proofs.Common.{◌≡◌, take, drop, flat_map}
use Rattle.serde_json.specs.View.{view}
use Rattle.data_io.specs.DataFaults.{scalar_faults, scalars_named}
use Rattle.data_io.proofs.read.scalars.Given as goal

abbrev pub invariant-loop-name : goal.invariant-loop-name
invariant-loop-name l =
    (flat_map (scalar_faults l.decls (view l.value)) l.names ≡ flat_map (scalar_faults l.decls (view l.value)) (drop l.name-index l.names))
    × (l.entries ≡ flat_map (scalars_named l.decls (view l.value)) (take l.name-index l.names))

use Rattle.std.proofs.Common.{◌≡◌, ◌++◌, drop}
use Rattle.std.specs.Prelude.{flat_map}
use Rattle.serde_json.specs.View.{view}
use Rattle.data_io.specs.Directions.{given_name}
use Rattle.data_io.proofs.direction.given_names.Given as goal

abbrev pub invariant-loop-name : goal.invariant-loop-name
invariant-loop-name l = flat_map (given_name l.typed (view l.value)) l.typed.args ≡ l.names ++ flat_map (given_name l.typed (view l.value)) (drop l.name-index l.typed.args)

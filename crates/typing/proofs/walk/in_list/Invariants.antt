use Rattle.std.proofs.Common.{◌≡◌, drop}
use Rattle.typing.specs.Firsts.{first_in_list}
use Rattle.typing.specs.Views.{region_of}
use Rattle.typing.proofs.walk.in_list.Given as goal

-- those that are left answer as all do
abbrev pub invariant-loop-name : goal.invariant-loop-name
invariant-loop-name l = first_in_list l.program (region_of l.region) (drop l.name-index l.names) ≡ first_in_list l.program (region_of l.region) l.names

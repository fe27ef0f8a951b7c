use Rattle.std.proofs.Common.{◌≡◌, ◌++◌, drop}
use Rattle.std.specs.List.{flat_map}
use Rattle.adjoint_rules.specs.Clauses.{bound_names}
use Rattle.loop_names.proofs.numbers.push_all_bound_names.Given as goal

-- those so far and those of the rest are all
abbrev pub invariant-loop-number : goal.invariant-loop-number
invariant-loop-number l = l.names ++ flat_map bound_names (drop l.number-index l.numbers) ≡ l.fn.names ++ flat_map bound_names l.numbers

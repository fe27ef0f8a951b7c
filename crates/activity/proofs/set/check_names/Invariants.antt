use Rattle.std.proofs.Common.{◌≡◌, drop}
use Rattle.activity.specs.Active.{misfit_among}
use Rattle.activity.proofs.set.check_names.Given as goal

-- no name so far is one
abbrev pub invariant-loop-name : goal.invariant-loop-name
invariant-loop-name l = misfit_among l.typed l.names ≡ misfit_among l.typed (drop l.name-index l.names)

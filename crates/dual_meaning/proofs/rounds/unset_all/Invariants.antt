use Rattle.std.proofs.Common.{◌≡◌, drop}
use Rattle.dual_meaning.specs.Running.{unset_places}
use Rattle.dual_meaning.proofs.rounds.unset_all.Given as goal

abbrev pub invariant-loop-place : goal.invariant-loop-place
invariant-loop-place l = unset_places (drop l.place-index l.places) l.cells.items ≡ unset_places l.places l.initial.cells.items

use Rattle.std.proofs.Common.{◌≡◌}
use Rattle.footprint_tests.proofs.tests.tell.Given as goal

abbrev pub invariant-loop-place : goal.invariant-loop-place
invariant-loop-place g l = g.W.Watch.places l.watch ≡ l.places

use Rattle.std.proofs.Common.{◌≡◌, length}
use Rattle.footprint_tests.proofs.tests.the_least_clash_is_told_of_one_loop_after_the_other.Given as goal

abbrev pub invariant-loop-row : goal.invariant-loop-row
invariant-loop-row g l = length l.footprint.touchers ≡ l.places

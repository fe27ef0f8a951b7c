use Rattle.std.proofs.Common.{◌≡◌, ◌≤◌, take}
use Rattle.omp_clauses.specs.Refused as spec
use Rattle.omp_clauses.proofs.error.count_of.Given as goal

abbrev pub invariant-loop-token : goal.invariant-loop-token
invariant-loop-token l = record {
  count : l.count ≡ spec.count_of l.text l.symbol (take l.token-index l.tokens);
  few : l.count ≤ l.token-index;
}

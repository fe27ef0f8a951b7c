use Rattle.std.proofs.Common.{◌≡◌, ◌+◌, drop}
use Rattle.acceptance.specs.Runs.{run}
use Rattle.acceptance.proofs.InnerRuns.{seen}
use Rattle.acceptance.proofs.range.inner_run.Given as goal

abbrev pub invariant-loop-i : goal.invariant-loop-i
invariant-loop-i l = run (seen l.terms) ≡ l.i + run (seen (drop l.i l.terms))

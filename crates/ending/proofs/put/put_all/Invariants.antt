use Rattle.std.proofs.Common.{◌≡◌, ◌≤◌, ◌-◌, List, ℕ, ◌++◌, take, length, Some}
use Rattle.ending.proofs.put.put_all.Given as goal

-- so much of the text has been taken
abbrev pub invariant-loop-at : goal.invariant-loop-at
invariant-loop-at g l = record {
  within : l.at ≤ length l.text;
  later : (g.O.Sink.state l.fn.out).faults ≤ (g.O.Sink.state l.out).faults;
  taken : (sink : List ℕ) → (g.O.Sink.state l.fn.out).taken ≡ Some sink → (g.O.Sink.state l.out).taken ≡ Some (sink ++ take l.at l.text);
}

abbrev pub decreases-loop-at : goal.decreases-loop-at
decreases-loop-at g l = length l.text - l.at

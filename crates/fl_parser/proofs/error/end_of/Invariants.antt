use Rattle.std.proofs.Common.{◌≡◌, ◌+◌, ◌≤◌, ◌==◌, not, take, reverse}
use Rattle.std.specs.List.{count_by, prefix_len}
use Rattle.fl_parser.proofs.error.end_of.Given as goal

abbrev pub invariant-loop-b : goal.invariant-loop-b
invariant-loop-b l = record {
  line : l.line ≡ count_by (λ b. b == 10) (take l.b-index l.text) + 1;
  col : l.col ≡ prefix_len (λ b. not (b == 10)) (reverse (take l.b-index l.text)) + 1;
  few : l.line ≤ l.b-index + 1;
  short : l.col ≤ l.b-index + 1;
}

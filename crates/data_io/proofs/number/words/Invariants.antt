use Rattle.std.proofs.Common.{◌≡◌, ◌+◌, take, drop, map}
use Rattle.serde_json.specs.View.{view}
use Rattle.data_io.specs.DataFaults.{element_faults, word_of}
use Rattle.data_io.proofs.number.words.Given as goal

-- the faults are those of the elements from i on
abbrev pub invariant-loop-i : goal.invariant-loop-i
invariant-loop-i l =
    (element_faults l.decl 1 (map view l.items) ≡ element_faults l.decl (l.i + 1) (map view (drop l.i l.items)))
    × (l.words ≡ map word_of (map view (take l.i l.items)))

use Rattle.std.proofs.Common.{◌≡◌, string_cmp}
use Rattle.std.specs.List.Sorted.{IsStrictlySortedBy}
use Rattle.std.specs.Map.{keys_of}
use Rattle.serde_json.specs.View.{members_view}
use Rattle.data_io.specs.DataFaults.{extra_faults}
use Rattle.data_io.proofs.read.no_extra.Given as goal

-- the fault is that of the members that are left
abbrev pub invariant-loop-key : goal.invariant-loop-key
invariant-loop-key l =
    (extra_faults l.names (members_view l.fn.members.entries) ≡ extra_faults l.names (members_view l.key-iterator))
    × (IsStrictlySortedBy string_cmp (keys_of l.key-iterator))

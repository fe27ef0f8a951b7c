use Rattle.std.proofs.Common.{◌≡◌, ◌++◌, drop, filter}
use Rattle.fl_types.specs.Sharing.{has_name}
use Rattle.activity.proofs.set.in_both.Given as goal

-- the names so far and those of the rest are all
abbrev pub invariant-loop-name : goal.invariant-loop-name
invariant-loop-name l = l.both ++ filter (λ x. has_name x l.others) (drop l.name-index l.names) ≡ filter (λ x. has_name x l.others) l.names

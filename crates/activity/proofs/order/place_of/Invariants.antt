use Rattle.std.proofs.Common.{◌≡◌, ◌++◌, drop, take}
use Rattle.activity.specs.Order.{put_in}
use Rattle.activity.proofs.order.place_of.Given as goal

-- the name stands behind those so far
abbrev pub invariant-loop-i : goal.invariant-loop-i
invariant-loop-i l = take l.i l.names ++ put_in l.name (drop l.i l.names) ≡ put_in l.name l.names

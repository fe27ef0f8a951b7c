use Rattle.std.proofs.Common.{◌≡◌, length, []}
use Rattle.activity.specs.Order.{put_all}
use Rattle.activity.proofs.order.put_each.Given as goal

-- what is left is put in later
abbrev pub invariant-loop-name : goal.invariant-loop-name
invariant-loop-name l = put_all l.names l.all.items ≡ put_all l.fn.names []

abbrev pub decreases-loop-name : goal.decreases-loop-name
decreases-loop-name l = length l.names

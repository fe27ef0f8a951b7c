use Rattle.std.proofs.Common.{◌≡◌, map, take}
use Rattle.activity.specs.Active.{turned_link}
use Rattle.activity.proofs.set.turned.Given as goal

abbrev pub invariant-loop-link : goal.invariant-loop-link
invariant-loop-link l = l.all ≡ map turned_link (take l.link-index l.links)

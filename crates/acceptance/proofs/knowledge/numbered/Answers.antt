use Rattle.std.proofs.Common.{arith}
use Rattle.acceptance.proofs.NumberedItems.{numbered-got}
use Rattle.acceptance.proofs.knowledge.numbered.Goals as goal

pub returns-in-Some : goal.returns-in-Some
returns-in-Some g c = numbered-got c.args.items.now c.in-Some.at c.args.number c.get.result (omega (arith, c.in-Some.ensures)) c.get.ensures.lookup.0 c.get.ensures.lookup.1

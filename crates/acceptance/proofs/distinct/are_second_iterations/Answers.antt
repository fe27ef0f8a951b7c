use Rattle.std.proofs.Common.{sym}
use Rattle.acceptance.proofs.Pairs.{second-not}
use Rattle.acceptance.proofs.distinct.are_second_iterations.Goals as goal

pub returns-then-terms-ne2 : goal.returns-then-terms-ne2
returns-then-terms-ne2 c = sym (second-not c.args.terms.now c.if-terms-ne2.true)

use Rattle.std.proofs.Common.{rules}
use Rattle.reverse_state.proofs.Summing.{added_by}
use Rattle.reverse_state.proofs.sums.add_at.Goals as goal

pub returns : goal.returns
returns c = added_by c.args.sums.now.items c.args.at c.args.amount c.index-sum.result.now c.index-sum.result.now c.requires (search (rules))

use Rattle.reverse_state.proofs.Summing.{cell_by}
use Rattle.reverse_state.proofs.sums.cell_at.Goals as goal

pub returns : goal.returns
returns c = cell_by c.args.sums.now c.args.at _ c.requires

use Rattle.std.proofs.Common.{◌≡◌, ◌++◌, ◌∷◌, [], rules}
use Rattle.dual_meaning.proofs.Entering.{push_one}
use Rattle.forward_run.proofs.entry.push_cells.Goals as goal

pub loop-k-preserved : goal.loop-k-preserved
loop-k-preserved c =
    let pushed : c.push.new.self.items ≡ c.loop-k.cells.items ++ c.cell_at.result ∷ [] = search rules in
    push_one c.loop-k.cells.items c.push.new.self.items _ c.args.kind c.args.words.now [] c.loop-k.k c.args.next c.cell_at.result c.loop-k-test.true c.cell_at.ensures pushed c.loop-k.invariant

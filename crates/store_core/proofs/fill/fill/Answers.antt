use Rattle.std.proofs.Common.{◌+◌, ◌∙◌, arith}
use Rattle.store_core.proofs.Filling.{write_one, write_done, length-set}
use Rattle.store_core.proofs.fill.fill.Goals as goal

pub loop-k-preserved : goal.loop-k-preserved
loop-k-preserved c = (
  write_one c.loop-k.store c.set.new.self _ c.args.at c.args.count c.loop-k.k c.word_at.result c.args.words.now (omega arith) c.word_at.ensures c.set.ensures c.loop-k.invariant.0,
  rw c.set.ensures (length-set c.loop-k.store (c.args.at + c.loop-k.k) c.word_at.result ∙ c.loop-k.invariant.1),
)

pub returns : goal.returns
returns c = write_done c.loop-k.store _ c.args.at c.args.count c.loop-k.k c.args.words.now (omega arith) c.loop-k.invariant.0

use Rattle.std.proofs.Common.{◌∙◌, sym, arith}
use Rattle.index_knowledge.proofs.Paths.{longer}
use Rattle.index_knowledge.proofs.path.is_prefix.Goals as goal

pub returns-then-i-other : goal.returns-then-i-other
returns-then-i-other c = sym (c.loop-i.invariant ∙ longer c.args.path.now c.args.other.now c.loop-i.i (omega arith) (omega arith))

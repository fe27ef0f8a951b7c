use Rattle.std.proofs.Common.{◌∙◌, sym, arith}
use Rattle.index_forms.proofs.Ends.{name-longer, name-shorter}
use Rattle.index_forms.proofs.comparison.bytes_order.Goals as goal

pub returns-then-i-n : goal.returns-then-i-n
returns-then-i-n c = name-longer c.args.m.now c.args.n.now c.loop-i.i (omega arith) (omega arith) ∙ sym c.loop-i.invariant

pub returns-then-m-n : goal.returns-then-m-n
returns-then-m-n c = name-shorter c.args.m.now c.args.n.now c.loop-i.i (omega arith) (omega arith) ∙ sym c.loop-i.invariant

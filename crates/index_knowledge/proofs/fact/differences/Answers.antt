use Rattle.std.proofs.Common.{arith}
use Rattle.index_forms.specs.Sums.{differences}
use Rattle.index_forms.specs.Listed.{forms_seen}
use Rattle.index_knowledge.proofs.FactLists.{right_done}
use Rattle.index_knowledge.proofs.fact.differences.Goals as goal

pub returns-then-i-twos : goal.returns-then-i-twos
returns-then-i-twos c =
    right_done c.args.ones.now c.args.twos.now c.loop-i.all c.loop-i.i (differences (forms_seen c.args.ones.now) (forms_seen c.args.twos.now)) (omega arith) c.loop-i.invariant

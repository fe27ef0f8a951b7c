use Rattle.std.proofs.Common.{◌≡◌, suc, ◌+◌, arith}
use Rattle.disjoint_prover.proofs.GrownLines.{numbers-step}
use Rattle.disjoint_prover.proofs.lines.numbers.Goals as goal

pub loop-i-preserved : goal.loop-i-preserved
loop-i-preserved c =
    let n : c.loop-i.i + 1 ≡ suc c.loop-i.i = omega arith in
    rw n (numbers-step c.args.from c.args.count c.loop-i.i c.in_ok-number_from.field-0 c.loop-i.all c.push.new.self (omega arith) c.in_ok-number_from.ensures c.in_ok-push.ensures.ok c.loop-i.invariant)

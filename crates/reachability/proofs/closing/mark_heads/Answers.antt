use Rattle.std.proofs.Common.{◌∙◌}
use Rattle.reachability.proofs.Marks.{passed, followed}
use Rattle.reachability.proofs.closing.mark_heads.Goals.{then-link-at, else-link-at}
use Rattle.reachability.proofs.closing.mark_heads.Goals as goal

pub loop-link-preserved : goal.loop-link-preserved
loop-link-preserved c = elim c.if-link-at.branch [
  | then-link-at w ↦ followed c.args.links.now c.args.at c.loop-link.link-index c.args.marks.now c.loop-link.marks c.if-link-at.marks _ (w.marks-is ∙ w.set.ensures) c.loop-link-test.true w.if-link-at.true c.requires c.loop-link.invariant
  | else-link-at w ↦ passed c.args.links.now c.args.at c.loop-link.link-index c.args.marks.now c.loop-link.marks c.if-link-at.marks _ w.marks-is c.loop-link-test.true w.if-link-at.false c.loop-link.invariant
]

use Rattle.std.proofs.Common.{rules, arith}
use Rattle.ending.proofs.Follow.{rose_from}
use Rattle.ending.proofs.Pieces.{put_more, put_some}
use Rattle.ending.proofs.put.put_all.Goals as goal

pub loop-at-preserved : goal.loop-at-preserved
loop-at-preserved g c = record {
  within = omega (arith, c.min-size.ensures);
  later = omega (arith, c.loop-at.invariant.later, c.in-Ok.ensures.cause.later);
  taken = put_more _ _ _ _ _ _ c.loop-at.invariant.taken c.in-Ok.ensures.told;
}

pub returns-in-Err : goal.returns-in-Err
returns-in-Err g c = (
  rose_from _ _ _ c.loop-at.invariant.later (c.in-Err.ensures.cause.rose (search rules)),
  put_some _ _ _ _ _ _ c.loop-at.invariant.taken c.in-Err.ensures.told,
)

use Rattle.std.proofs.Common.{Some, rules}
use Rattle.fl_expressions.proofs.Levels.{level_of, below_of}
use Rattle.fl_expressions.proofs.expression.+expr.Goals as goal

pub returns-clause-reads : goal.returns-clause-reads
returns-clause-reads t c = rw level_of c.sum.ensures.reads

pub sum-requires-clause-nests : goal.sum-requires-clause-nests
sum-requires-clause-nests t c = record {
  callable = λ alloc old d room few. search rules;
  reads = λ alloc old new d r room post. rw (below_of c.args.brackets (Some d) old.now room) (post.1.0);
  depth = λ alloc old new d r room post. post.1.1;
}

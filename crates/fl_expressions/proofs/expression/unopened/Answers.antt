use Rattle.std.proofs.Common.{Some, rules}
use Rattle.fl_expressions.proofs.Levels.{below_of}
use Rattle.fl_expressions.proofs.expression.unopened.Goals as goal

pub unopened-requires-clause-nests : goal.unopened-requires-clause-nests
unopened-requires-clause-nests c = record {
  callable = λ alloc old d room few. search rules;
  reads = λ alloc old new d r room post. rw (below_of c.args.brackets (Some d) old.now room) (post.1.0);
  depth = λ alloc old new d r room post. post.1.1;
}

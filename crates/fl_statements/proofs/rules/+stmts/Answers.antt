use Rattle.std.proofs.Common.{rules}
use Rattle.fl_statements.specs.Limits.{limits_of}
use Rattle.fl_statements.proofs.Levels.{level_of, nested_of}
use Rattle.fl_statements.proofs.rules.+stmts.Goals as goal

pub returns-clause-reads : goal.returns-clause-reads
returns-clause-reads t c = rw level_of c.block.ensures.reads

pub block-requires-clause-inner : goal.block-requires-clause-inner
block-requires-clause-inner t c = record {
  callable = λ alloc old inside d room few. search rules;
  reads = λ alloc old new inside d r room post. rw (nested_of (limits_of c.args.limits) c.args.blocks inside d old.now room) (post.3.0);
  few = λ alloc old new inside d r room post. post.3.1;
}

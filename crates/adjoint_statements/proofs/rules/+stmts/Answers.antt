use Rattle.std.proofs.Common.{rules}
use Rattle.adjoint_statements.specs.Rooms.{limits_of}
use Rattle.adjoint_statements.proofs.Levels.{level_of, nested_of}
use Rattle.adjoint_statements.proofs.rules.+stmts.Goals as goal

pub returns : goal.returns
returns t c = rw level_of c.block.ensures

pub block-requires-clause-inner : goal.block-requires-clause-inner
block-requires-clause-inner t c = record {
  callable = λ alloc old inside d room. search rules;
  reads = λ alloc old new inside d r room post. rw (nested_of (limits_of c.args.room) c.args.blocks inside d old.now room) post.3;
}

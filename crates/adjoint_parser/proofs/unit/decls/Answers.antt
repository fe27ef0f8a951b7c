-- No number of statements is looked at by what reads declarations.
use Rattle.std.proofs.Common.{subst}
use Rattle.parsing.specs.Code.{Reads}
use Rattle.fl_statements.specs.declared.limit.Limits as code
use Rattle.fl_statements.specs.Limits.{limits_of}
use Rattle.fl_parser.specs.UnitReading as plain
use Rattle.adjoint_parser.proofs.unit.decls.Goals as goal

pub returns : goal.returns
unfolding plain.decls plain.decl plain.items plain.another_item
returns c = subst (λ (l : code.Limits). Reads (plain.decls (limits_of l) c.args.tokens.now) c.decls.result c.decls.new.tokens) c.limits.ensures c.decls.ensures

-- Limits, and what they are where some are taken away.
use Rattle.std.specs.Prelude.{◌≡◌, true, nat_lt}
use Rattle.parsing.specs.declared.fault.Cause.TheVariants.{Deep, Many}
use Rattle.parsing.specs.Freed.{Freed, Frees}
use Rattle.omp_clauses.specs.Once.{Onces}
use Rattle.fl_expressions.specs.Wide.{More}
use Rattle.fl_statements.specs.Limits.{Limits}

pub record Widens (l : Freed) (limits wide : Limits) : Type 0 where
  pub some : nat_lt 0 limits.brackets ≡ true
  pub brackets : More l limits.brackets wide.brackets
  pub depth : Frees l Deep limits.depth wide.depth
  pub blocks : More l limits.blocks wide.blocks
  pub statements : Frees l Many limits.statements wide.statements
  pub names : Frees l Many limits.names wide.names
  pub once : Onces l limits.once wide.once

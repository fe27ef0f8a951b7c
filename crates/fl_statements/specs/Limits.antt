-- How much is read.
use Rattle.std.specs.Prelude.{ℕ, Bool, true, Some}
use Rattle.parsing.specs.Limit.{Limit}
use Rattle.fl_statements.specs.declared.limit.Limits as code

-- brackets that may be open at once, the depth of a tree, blocks that stand in each other, statements, names that are declared; and
-- whether names and clauses of a directive stand once
pub record Limits : Type 0 where
  pub brackets : ℕ
  pub depth : Limit
  pub blocks : ℕ
  pub statements : Limit
  pub names : Limit
  pub once : Bool

-- the code's limits; its depth and its number of statements have one always
abbrev pub limits_of : code.Limits → Limits
limits_of l = record { brackets = l.brackets; depth = Some l.depth; blocks = l.blocks; statements = Some l.statements; names = l.names; once = true }

-- of a program's text
abbrev pub the_limits : Limits
the_limits = record { brackets = 256; depth = Some 64; blocks = 64; statements = Some 4096; names = Some 512; once = true }

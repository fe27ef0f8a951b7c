-- How much of an adjoint's text is read.
use Rattle.std.specs.Prelude.{◌-◌, true, Some, None}
use Rattle.fl_statements.specs.Limits.{Limits}
use Rattle.adjoint_statements.specs.declared.room.Room as code

-- the code's limits; statements and names have none
abbrev pub limits_of : code.Room → Limits
limits_of r = record { brackets = r.brackets; depth = Some r.depth; blocks = r.blocks; statements = None; names = None; once = true }

-- of an adjoint's text
abbrev pub the_limits : Limits
the_limits = record { brackets = 256; depth = Some 256; blocks = 256; statements = None; names = None; once = true }

-- what is left of them behind one more bracket
abbrev pub narrower : Limits → Limits
narrower l = record { brackets = l.brackets - 1; depth = l.depth; blocks = l.blocks; statements = l.statements; names = l.names; once = l.once }

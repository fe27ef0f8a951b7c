use Rattle.std.proofs.Common.{◌≡◌, ◌++◌, false, drop}
use Rattle.fl_printer.specs.Words.{names_from}
use Rattle.fl_printer.proofs.spaced.names.Given as goal

-- what is added and what the rest adds is all
abbrev pub invariant-loop-name : goal.invariant-loop-name
invariant-loop-name l = l.line ++ names_from l.later l.blank (drop l.name-index l.names) ≡ l.fn.line ++ names_from false l.fn.blank l.names

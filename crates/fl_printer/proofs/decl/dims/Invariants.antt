use Rattle.std.proofs.Common.{◌≡◌, ◌++◌, false, drop}
use Rattle.fl_printer.specs.Words.{dims_from}
use Rattle.fl_printer.proofs.decl.dims.Given as goal

-- what is added and what the rest adds is all
abbrev pub invariant-loop-dim : goal.invariant-loop-dim
invariant-loop-dim l = l.line ++ dims_from l.later (drop l.dim-index l.all) ≡ l.fn.line ++ dims_from false l.all

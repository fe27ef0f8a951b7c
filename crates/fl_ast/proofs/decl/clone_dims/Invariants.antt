use Rattle.std.proofs.Common.{◌≡◌, take}
use Rattle.fl_ast.proofs.decl.clone_dims.Given as goal

abbrev pub invariant-loop-i : goal.invariant-loop-i
invariant-loop-i l = l.all ≡ take l.i l.dims

use Rattle.std.proofs.Common.{◌≡◌, drop}
use Rattle.fl_types.specs.WellTyped.{bytes_of_data}
use Rattle.fl_types.proofs.surface.bytes_of_data.Given as goal

-- those that are left answer as all do
abbrev pub invariant-loop-decl : goal.invariant-loop-decl
invariant-loop-decl l = bytes_of_data (drop l.decl-index l.decls) ≡ bytes_of_data l.decls

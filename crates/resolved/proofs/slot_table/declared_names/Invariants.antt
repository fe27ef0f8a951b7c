use Rattle.std.proofs.Common.{◌≡◌, ◌++◌, drop}
use Rattle.std.specs.Prelude.{map}
use Rattle.fl_ast.specs.declared.decl.Decl.{Decl}
use Rattle.resolved.proofs.slot_table.declared_names.Given as goal

abbrev pub invariant-loop-decl : goal.invariant-loop-decl
invariant-loop-decl l = map (λ (d : Decl). d.name) l.decls ≡ l.names ++ map (λ (d : Decl). d.name) (drop l.decl-index l.decls)

use Rattle.std.proofs.Common.{◌≡◌, drop}
use Rattle.store_core.specs.Places.{declaration_of}
use Rattle.store_core.proofs.declared.declaration.Given as goal

-- the declaration is among those that are left
abbrev pub invariant-loop-decl : goal.invariant-loop-decl
invariant-loop-decl l = declaration_of l.decls l.name ≡ declaration_of (drop l.decl-index l.decls) l.name

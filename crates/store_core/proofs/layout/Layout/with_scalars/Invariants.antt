use Rattle.std.proofs.Common.{◌≡◌, ◌≤◌, ◌^◌, length, drop}
use Rattle.store_core.specs.Keys.{keys_of, with_scalars}
use Rattle.store_core.proofs.layout.Layout.with_scalars.Given as goal

-- what is left goes onto what is laid out
abbrev pub invariant-loop-decl : goal.invariant-loop-decl
invariant-loop-decl l = (with_scalars l.layout (drop l.decl-index l.decls) ≡ with_scalars l.self l.decls) × (length (keys_of l.layout) ≤ 2 ^ 21)

use Rattle.std.proofs.Common.{◌≡◌, ◌≤◌, ◌^◌, length, drop, map}
use Rattle.std.specs.List.{filter_map}
use Rattle.store_core.specs.Values.{value_in}
use Rattle.store_core.specs.Bounds.{shape_of}
use Rattle.store_core.specs.Keys.{keys_of, laid_all}
use Rattle.store_core.specs.Places.{local_of}
use Rattle.store_core.proofs.declared.lay_locals.Given as goal

-- what is left goes onto what is laid out
abbrev pub invariant-loop-decl : goal.invariant-loop-decl
invariant-loop-decl l =
    (laid_all l.layout (map (shape_of (value_in l.values)) (filter_map (local_of l.program) (drop l.decl-index l.program.decls)))
    ≡ laid_all l.initial.layout (map (shape_of (value_in l.values)) (filter_map (local_of l.program) l.program.decls)))
    × (length (keys_of l.layout) ≤ 2 ^ 20)

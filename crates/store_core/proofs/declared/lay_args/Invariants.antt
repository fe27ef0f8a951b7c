use Rattle.std.proofs.Common.{◌≡◌, ◌≤◌, ◌^◌, length, drop, map}
use Rattle.std.specs.List.{filter_map}
use Rattle.store_core.specs.Values.{value_in}
use Rattle.store_core.specs.Bounds.{shape_of}
use Rattle.store_core.specs.Keys.{keys_of, laid_all}
use Rattle.store_core.specs.Places.{declaration_of}
use Rattle.store_core.proofs.declared.lay_args.Given as goal

-- what is left goes onto what is laid out
abbrev pub invariant-loop-name : goal.invariant-loop-name
invariant-loop-name l =
    (laid_all l.layout (map (shape_of (value_in l.values)) (filter_map (declaration_of l.program.decls) (drop l.name-index l.program.args)))
    ≡ laid_all l.initial.layout (map (shape_of (value_in l.values)) (filter_map (declaration_of l.program.decls) l.program.args)))
    × (length (keys_of l.layout) ≤ 2 ^ 20)

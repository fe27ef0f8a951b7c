-- The places of a program.
use Rattle.std.specs.Prelude.{ℕ, nat_le, ◌^◌, if◌then◌else◌, List, length, codes, Some, None, Result, Ok, Err}
use Rattle.ending.specs.declared.verdict.Verdict.TheVariants.{OverLimit}
use Rattle.ending.specs.Plan.{Plan, Saying, or_say}
use Rattle.fl_ast.specs.declared.stmt.Program.{Program}
use Rattle.store_core.specs.declared.layout.Shape.{Shape}
use Rattle.store_core.specs.declared.layout.LayoutError.{LayoutError}
use Rattle.store_core.specs.declared.layout.LayoutError.TheVariants.{TooManyPlaces, Memory}
use Rattle.store_core.specs.declared.values.Args.{Args}
use Rattle.store_core.specs.Keys.{keys_of}
use Rattle.store_core.specs.Places.{shapes_of}

abbrev pub say_layout : LayoutError → Saying
say_layout TooManyPlaces = Some (OverLimit, codes "limit places 1048576\n")
say_layout Memory = None

-- the shapes, where they have at most 2^20 places
abbrev pub laid_out : List Shape → Result (List Shape) LayoutError
laid_out shapes = if nat_le (length (keys_of shapes)) (2 ^ 20) then Ok shapes else Err TooManyPlaces

unfoldable pub layout_stage : Program → Args → (List Shape → Plan) → Plan
layout_stage program args rest = or_say say_layout (laid_out (shapes_of program args.entries)) rest

-- The schedule of a run.
use Rattle.std.specs.Prelude.{ℕ, ◌+◌, ◌==◌, List, take, drop, codes, Option, Some, None, bytes_eq, if◌then◌else◌}
use Rattle.std.specs.List.{position}
use Rattle.fl_ast.specs.declared.directive.Schedule.{Schedule}
use Rattle.fl_ast.specs.declared.directive.Schedule.TheVariants.{Static, StaticBy, DynamicBy, GuidedBy}
use Rattle.formad_words.specs.Numbers.{number_up_to}

abbrev pub schedule_by : List ℕ → Option ℕ → Option Schedule
schedule_by kind None = None
schedule_by kind (Some size) =
    if bytes_eq kind (codes "static") then Some (StaticBy size)
    else (if bytes_eq kind (codes "dynamic") then Some (DynamicBy size)
    else (if bytes_eq kind (codes "guided") then Some (GuidedBy size) else None))

abbrev pub schedule_at : List ℕ → Option ℕ → Option Schedule
schedule_at text None = None
schedule_at text (Some at) = schedule_by (take at text) (number_up_to 1048576 (drop (at + 1) text))

-- `static`, or a kind, a colon and a chunk's size from 1 to 2^20
unfoldable pub schedule_in : List ℕ → Option Schedule
schedule_in text = if bytes_eq text (codes "static") then Some Static else schedule_at text (position (λ b. b == 58) text)

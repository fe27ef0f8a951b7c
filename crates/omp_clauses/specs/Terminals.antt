-- What some tokens of a directive are read as.
use Rattle.std.specs.Prelude.{ℕ, ◌==◌, Bool, true, false, ◌&&◌, ◌||◌, if◌then◌else◌, Option, Some, None}
use Rattle.tokens.specs.Lexeme.{Lexeme}
use Rattle.fl_ast.specs.declared.directive.ScheduleKind.{ScheduleKind}
use Rattle.fl_ast.specs.declared.directive.ScheduleKind.TheVariants as schedule
use Rattle.parsing.specs.declared.symbol.Symbol.{Symbol}
use Rattle.parsing.specs.declared.symbol.Symbol.TheVariants as s
use Rattle.parsing.specs.declared.cursor.Word.{Word}
use Rattle.parsing.specs.declared.cursor.Number.{Number}
use Rattle.parsing.specs.Terminal.{on, names, name, number}
use Rattle.omp_clauses.specs.declared.state.Sharing.{Sharing}
use Rattle.omp_clauses.specs.declared.state.Sharing.TheVariants.{Private, First, Shared}
use Rattle.omp_clauses.specs.Said.{Said, lists}

-- "private" | "firstprivate" | "shared"
abbrev pub sharing_by : Symbol → Option Sharing
sharing_by s.Private = Some Private
sharing_by s.FirstPrivate = Some First
sharing_by s.Shared = Some Shared
sharing_by _ = None

-- whether `none` stands
abbrev pub none_by : Symbol → Option Bool
none_by s.NoneWord = Some true
none_by s.Shared = Some false
none_by _ = None

-- schedules that may have a size of chunks
abbrev pub chunked_by : Symbol → Option ScheduleKind
chunked_by s.Static = Some schedule.Static
chunked_by s.Dynamic = Some schedule.Dynamic
chunked_by s.Guided = Some schedule.Guided
chunked_by _ = None

-- and those that don't
abbrev pub unchunked_by : Symbol → Option ScheduleKind
unchunked_by s.Auto = Some schedule.Auto
unchunked_by s.Runtime = Some schedule.Runtime
unchunked_by _ = None

-- ---- numbers

abbrev pub value_where : (Number → Bool) → Option Number → Option ℕ
value_where test None = None
value_where test (Some n) = if test n then Some n.value else None

-- 1 or 2
abbrev pub is_loop_count : Number → Bool
is_loop_count n = (n.value == 1) || (n.value == 2)

abbrev pub loop_count : Lexeme → Option ℕ
loop_count t = value_where is_loop_count (number t)

-- ---- names

-- a name that a clause lists already, where each stands once
abbrev pub repeats : Bool → Said → Lexeme → Bool
repeats once c t = on names t && (once && lists c t.bytes)

-- a name that may stand in one more place
abbrev pub new_name : Bool → Said → Lexeme → Option Word
new_name once c t = if once && lists c t.bytes then None else name t

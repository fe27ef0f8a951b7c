-- What a run answers of which statement instances and traps alone are looked at.
use Rattle.std.specs.Prelude.{◌≡◌, ℕ, ◌+◌, Result, Ok, Err}
use Rattle.meaning.specs.declared.value.TrapAt.{TrapAt}
use Rattle.meaning.specs.Logs.{events, Traced}
use Rattle.meaning.specs.Sites.{Cells}
use Rattle.meaning.specs.Stops.{Stop, at_end, trapped, over_statements, by_conflict, the_limits, first_stop, ticks, statements_and_traps}
use Rattle.dual_meaning.specs.declared.statements.RunStop.{RunStop}
use Rattle.dual_meaning.specs.declared.statements.RunStop.TheVariants.{Trap, Statements, Memory}

-- the first stop of a run, where touches, words and conflicts aren't looked at
abbrev pub stop_of : Traced TrapAt Cells → Stop
stop_of t = first_stop by_conflict the_limits (statements_and_traps (events t.log))

abbrev pub ticks_of : Traced TrapAt Cells → ℕ
ticks_of t = ticks by_conflict the_limits (statements_and_traps (events t.log))

-- the first stop, with one tick for each statement instance up to it; or memory is wanting
abbrev pub Stops : Traced TrapAt Cells → RunStop → (before after : ℕ) → Type 0
Stops t (Trap x) before after = (stop_of t ≡ trapped x) × (after ≡ before + ticks_of t)
Stops t Statements before after = (stop_of t ≡ over_statements) × (after ≡ before + ticks_of t)
Stops t Memory before after = Unit {0}

-- the cells at the end, which `view` shows, with one tick for each statement instance; or a stop
abbrev pub Ends : {T : Type 0} → (T → Cells) → Traced TrapAt Cells → Result T RunStop → (before after : ℕ) → Type 0
Ends view t (Ok end) before after = (t.out ≡ Ok (view end)) × (stop_of t ≡ at_end) × (after ≡ before + ticks_of t)
Ends view t (Err e) before after = Stops t e before after

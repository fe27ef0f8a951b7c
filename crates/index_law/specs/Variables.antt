-- What the form of a loop's variable is worth.
use Rattle.std.specs.Prelude.{◌≡◌, ℕ, ℤ, pos, Option, None, Some, Ok}
use Rattle.fl_types.specs.Nests.{Head}
use Rattle.meaning.specs.declared.value.IterationCount.{IterationCount}
use Rattle.meaning.specs.Sites.{Cells, Site}
use Rattle.meaning.specs.Statements.{turns_of, value_at}
use Rattle.index_forms.specs.Form.{Atom}
use Rattle.index_forms.specs.Sums.{value}
use Rattle.index_forms.specs.Loops.{step_number, variable_form}

-- an iteration's number where the step is a literal or absent, else the variable's value
abbrev pub counter_value : (step : Option ℤ) → IterationCount → ℕ → ℤ
counter_value None t k = value_at t k
counter_value (Some c) t k = pos k

-- in iteration k, where one atom has the first bound's value and another that of the counter
abbrev pub VariablesHold : Type 0
VariablesHold =
    (v : Atom → ℤ) (base counter : Atom) (h : Head) (site : Site) (cells : Cells) (t : IterationCount) (k : ℕ) → (turns_of h.first h.last h.step site cells).out ≡ Ok t →
    v base ≡ t.first → v counter ≡ counter_value (step_number h.step) t k → value v (variable_form base counter h) ≡ value_at t k

-- What a call answers of an evaluation.
use Rattle.std.specs.Prelude.{◌≡◌, ℕ, ℤ, Bool, true, false, List, ◌++◌, Option, Result, Ok, Err}
use Rattle.fl_ast.specs.Tree.{Designator}
use Rattle.store_core.specs.declared.layout.Shape.{Shape}
use Rattle.meaning.specs.declared.value.Value.{Value}
use Rattle.meaning.specs.declared.value.Cause.{Cause}
use Rattle.meaning.specs.declared.value.Cause.TheVariants as cause
use Rattle.meaning.specs.Values.{whole_numbers}
use Rattle.meaning.specs.Logs.{Traced, pure, ◌>>=◌}
use Rattle.meaning.specs.Sites.{Cells, Site, place_of}
use Rattle.meaning.specs.Expressions.{values_of, read}
use Rattle.resolved.specs.ResolvedExprs.{slot_name}
use Rattle.dual_evaluation.specs.declared.stop.Halt.{Halt}
use Rattle.dual_evaluation.specs.declared.stop.Halt.TheVariants.{Range, ZeroDivisor, Bounds, Unset}
use Rattle.dual_evaluation.specs.declared.stop.EvalStop.{EvalStop}
use Rattle.dual_evaluation.specs.declared.stop.EvalStop.TheVariants.{Trap, Memory}

-- the cause that a stop stands for, with the names of a layout for its slots
abbrev pub halt_cause : List Shape → Halt → Cause
halt_cause shapes Range = cause.Range
halt_cause shapes ZeroDivisor = cause.ZeroDivisor
halt_cause shapes (Bounds slot) = cause.Bounds (slot_name shapes slot)
halt_cause shapes (Unset slot) = cause.Unset (slot_name shapes slot)

-- the evaluation's value or its cause, unless memory is wanting
abbrev pub Answers : {A : Type 0} → List Shape → Result A EvalStop → Result A Cause → Type 0
Answers shapes (Ok a) r = r ≡ Ok a
Answers shapes (Err (Trap h)) r = r ≡ Err (halt_cause shapes h)
Answers shapes (Err Memory) r = Unit {0}

-- the same, `view` giving what the answer stands for
abbrev pub AnswersBy : {T A : Type 0} → (T → A) → List Shape → Result T EvalStop → Result A Cause → Type 0
AnswersBy view shapes (Ok t) r = r ≡ Ok (view t)
AnswersBy view shapes (Err (Trap h)) r = r ≡ Err (halt_cause shapes h)
AnswersBy view shapes (Err Memory) r = Unit {0}

-- the cells after a change or its cause, unless memory is wanting
abbrev pub Sets : {A : Type 0} → List Shape → Result A EvalStop → Cells → Result Cells Cause → Type 0
Sets shapes (Ok _) cells r = r ≡ Ok cells
Sets shapes (Err (Trap h)) cells r = r ≡ Err (halt_cause shapes h)
Sets shapes (Err Memory) cells r = Unit {0}

-- ---- what operations on values give

-- a cause that tells no name
abbrev pub is_numeric : Cause → Bool
is_numeric cause.Range = true
is_numeric cause.ZeroDivisor = true
is_numeric (cause.Bounds x) = false
is_numeric (cause.Unset x) = false

-- a value, or a cause that tells no name
abbrev pub is_numeric_result : {A : Type 0} → Result A Cause → Bool
is_numeric_result (Ok v) = true
is_numeric_result (Err c) = is_numeric c

-- ---- occurrences of names

-- the whole numbers of values
abbrev pub numbers_of : Result (List Value) Cause → Result (List ℤ) Cause
numbers_of (Ok vs) = Ok (whole_numbers vs)
numbers_of (Err c) = Err c

-- the place of an occurrence, None outside the bounds
abbrev pub location_of : Site → Cells → Designator → Traced Cause (Option ℕ)
location_of site cells p = values_of p.subscripts site cells >>= (λ subscripts. pure (place_of site p.name (whole_numbers subscripts)))

-- the value of an occurrence
abbrev pub read_occurrence : Site → Cells → Designator → Traced Cause Value
read_occurrence site cells p = values_of p.subscripts site cells >>= read site cells p.name

-- values that stand before others
abbrev pub with_front : {A : Type 0} → List A → Result (List A) Cause → Result (List A) Cause
with_front vs (Ok ws) = Ok (vs ++ ws)
with_front vs (Err c) = Err c

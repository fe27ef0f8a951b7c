-- How assignments are run: an increment's terms are summed first, and the sum is added to the target.
use Rattle.std.specs.Prelude.{◌≡◌, ℕ, Option, Some, None, Err, slice_set, ◌+ℤ◌, ◌-ℤ◌, int_div, List}
use Rattle.ring_core.specs.Index.{IsIndex}
use Rattle.store_core.specs.Bounds.{clipped}
use Rattle.fl_ast.specs.declared.kind.BinOp.{BinOp}
use Rattle.fl_ast.specs.declared.kind.BinOp.TheVariants.{Add, Sub, Mul, Div}
use Rattle.fl_ast.specs.Tree.{Expression, literal, get, minus, binary, power, call, Designator}
use Rattle.fl_types.specs.declared.increment.IncrementForm.{IncrementForm}
use Rattle.fl_types.specs.declared.increment.IncrementForm.TheVariants.{Chain, Sum}
use Rattle.meaning.specs.declared.value.Dual.{Dual}
use Rattle.meaning.specs.declared.value.Value.{Value}
use Rattle.meaning.specs.declared.value.Value.TheVariants.{Ring}
use Rattle.meaning.specs.declared.value.Cause.{Cause}
use Rattle.meaning.specs.declared.value.Cause.TheVariants.{Bounds, Unset}
use Rattle.meaning.specs.declared.value.IterationCount.{IterationCount}
use Rattle.meaning.specs.Values.{dual_add, dual_sub, as_dual}
use Rattle.meaning.specs.Logs.{Traced, pure, lift, ◌>>=◌}
use Rattle.meaning.specs.Sites.{Cells, Site}
use Rattle.meaning.specs.Expressions.{content, value_of}
use Rattle.meaning.specs.Statements.{put}
use Rattle.dual_evaluation.specs.Answers.{location_of}

-- the subscripts, the check of bounds, and the store
abbrev pub put_by : Site → Cells → Designator → Value → Traced Cause Cells
put_by site cells p v = location_of site cells p >>= put site cells p.name v

abbrev pub increment_cell_by : Cells → List ℕ → Dual → ℕ → Option Value → Traced Cause Cells
increment_cell_by cells x d p None = lift (Err (Unset x))
increment_cell_by cells x d p (Some v) = pure (slice_set cells p (Some (Ring (dual_add (as_dual v) d))))

abbrev pub increment_at : Cells → List ℕ → Dual → Option ℕ → Traced Cause Cells
increment_at cells x d None = lift (Err (Bounds x))
increment_at cells x d (Some p) = increment_cell_by cells x d p (content cells p)

-- the subscripts, the checks of bounds and of being set, and the update
abbrev pub increment_by : Site → Cells → Designator → Dual → Traced Cause Cells
increment_by site cells p d = location_of site cells p >>= increment_at cells p.name d

abbrev pub sum_with : BinOp → Dual → Dual → Dual
sum_with Add d e = dual_add d e
sum_with Sub d e = dual_sub d e
sum_with Mul d e = dual_add d e
sum_with Div d e = dual_add d e

abbrev pub no_sum : Dual
no_sum = record { value = 0; tangent = 0 }

-- the sum of a chain's terms after the first
abbrev pub chain_sum : Expression → Site → Cells → Traced Cause Dual
chain_sum (binary op a b) site cells = chain_sum a site cells >>= (λ d. value_of b site cells >>= (λ v. pure (sum_with op d (as_dual v))))
chain_sum (literal n k) site cells = pure no_sum
chain_sum (get x s) site cells = pure no_sum
chain_sum (minus a) site cells = pure no_sum
chain_sum (power a n) site cells = pure no_sum
chain_sum (call f s) site cells = pure no_sum

-- the first operand
abbrev pub front : Expression → Expression
front (binary op a b) = a
front (literal n k) = literal n k
front (get x s) = get x s
front (minus a) = minus a
front (power a n) = power a n
front (call f s) = call f s

abbrev pub by_form : Option IncrementForm → Site → Cells → Designator → Expression → Traced Cause Cells
by_form None site cells p e = value_of e site cells >>= (λ v. put_by site cells p v)
by_form (Some Chain) site cells p e = chain_sum e site cells >>= (λ d. increment_by site cells p d)
by_form (Some Sum) site cells p e = value_of (front e) site cells >>= (λ v. increment_by site cells p (as_dual v))

-- bounds of the index kind, with the number of turns between them
pub record IsCounted (t : IterationCount) : Type 0 where
  pub first : IsIndex t.first
  pub last : IsIndex t.last
  pub step : IsIndex t.step
  pub count : t.count ≡ clipped (int_div ((t.last -ℤ t.first) +ℤ t.step) t.step)

-- The further terms of an increment's chain as the code goes over them, t being the target. `chain` tells what the terms are.
use Rattle.std.specs.Prelude.{ℕ, Bool, true, false, not, ◌&&◌, ◌||◌, if◌then◌else◌, List, [], ◌∷◌, ◌++◌, Option, None}
use Rattle.fl_ast.specs.declared.kind.BinOp.{BinOp}
use Rattle.fl_ast.specs.declared.kind.BinOp.TheVariants as op
use Rattle.fl_ast.specs.Tree.{Expression, literal, get, minus, binary, power, call, Designator}
use Rattle.fl_ast.specs.AdjointTree.{AdjointExpression, adjoint_get, AdjointStatement, adjoint_assignment}
use Rattle.fl_ast.specs.Same.{same_expression}
use Rattle.fl_types.specs.declared.increment.IncrementForm.{IncrementForm}
use Rattle.fl_types.specs.declared.increment.IncrementForm.TheVariants.{Chain, Sum}
use Rattle.fl_types.specs.Increment.{target_of, increment_form}
use Rattle.adjoint_rules.specs.Expressions.{in_adjoint, temporary, taken}
use Rattle.adjoint_rules.specs.Scopes.{Scope}
use Rattle.reversal.specs.Growth.{growths}

-- a sum or a difference
abbrev pub is_link : BinOp → Bool
is_link op.Add = true
is_link op.Sub = true
is_link op.Mul = false
is_link op.Div = false

abbrev pub is_difference : BinOp → Bool
is_difference op.Sub = true
is_difference op.Add = false
is_difference op.Mul = false
is_difference op.Div = false

-- what the terms' operands grow by
abbrev pub chain_growths : (on atomic : List ℕ → Bool) → ℕ → Expression → Expression → AdjointExpression → List AdjointStatement
chain_growths on atomic line t (literal n k) m = []
chain_growths on atomic line t (get x s) m = []
chain_growths on atomic line t (minus a) m = []
chain_growths on atomic line t (binary o a b) m =
    if is_link o then (if same_expression t a then [] else chain_growths on atomic line t a m) ++ growths on atomic line b (is_difference o) m else []
chain_growths on atomic line t (power a n) m = []
chain_growths on atomic line t (call f s) m = []

abbrev pub turned_op : BinOp → BinOp
turned_op op.Add = op.Sub
turned_op op.Sub = op.Add
turned_op op.Mul = op.Mul
turned_op op.Div = op.Div

-- the chain with the signs of its terms turned
abbrev pub chain_turned : Expression → Expression → Expression
chain_turned t (literal n k) = t
chain_turned t (get x s) = t
chain_turned t (minus a) = t
chain_turned t (binary o a b) = binary (turned_op o) (if same_expression t a then t else chain_turned t a) b
chain_turned t (power a n) = t
chain_turned t (call f s) = t

abbrev pub first_with : BinOp → Expression → Expression
first_with op.Sub b = minus b
first_with op.Add b = b
first_with op.Mul b = b
first_with op.Div b = b

-- the chain without the target
abbrev pub chain_sum : Expression → Expression → Expression
chain_sum t (literal n k) = t
chain_sum t (get x s) = t
chain_sum t (minus a) = t
chain_sum t (binary o a b) = if same_expression t a then first_with o b else binary o (chain_sum t a) b
chain_sum t (power a n) = t
chain_sum t (call f s) = t

-- ---- by the form of an increment

-- the chain has a term after the first
abbrev pub is_long : Expression → Expression → Bool
is_long t (literal n k) = false
is_long t (get x s) = false
is_long t (minus a) = false
is_long t (binary o a b) = not (same_expression t a)
is_long t (power a n) = false
is_long t (call f s) = false

-- the first term of a sum
abbrev pub front_of : Expression → Expression
front_of (literal n k) = literal n k
front_of (get x s) = get x s
front_of (minus a) = minus a
front_of (binary o a b) = a
front_of (power a n) = power a n
front_of (call f s) = call f s

-- the target without the terms, which are taken away as one where they go together
abbrev pub without_by : IncrementForm → Bool → Expression → Expression → Expression
without_by Chain together t e = if together && is_long t e then binary op.Sub t (chain_sum t e) else chain_turned t e
without_by Sum together t e = binary op.Sub t (front_of e)

abbrev pub growths_by : (on atomic : List ℕ → Bool) → ℕ → IncrementForm → Expression → Expression → AdjointExpression → List AdjointStatement
growths_by on atomic line Chain t e m = chain_growths on atomic line t e m
growths_by on atomic line Sum t e m = growths on atomic line (front_of e) false m

-- the form of an assignment, where it is an increment of data
abbrev pub form_of : (List ℕ → Bool) → Designator → Expression → Option IncrementForm
form_of ring p e = if ring p.name then increment_form p e else None

-- ---- the reverse of an increment with a form

abbrev pub undone_by : Scope → ℕ → Bool → IncrementForm → Designator → Expression → List AdjointStatement
undone_by scope line atomic f p e =
    let together = atomic || scope.pluses p.name in
    if scope.needed p.name then adjoint_assignment line together p (in_adjoint (without_by f together (target_of p) e)) ∷ [] else []

abbrev pub spread_by : Scope → ℕ → IncrementForm → Designator → Expression → List AdjointStatement
spread_by scope line f p e = growths_by scope.active scope.atomic line f (target_of p) e (adjoint_get temporary)

abbrev pub backward_by : Scope → ℕ → Bool → IncrementForm → Designator → Expression → List AdjointStatement
backward_by scope line atomic f p e = undone_by scope line atomic f p e ++ (if scope.active p.name then taken line p ∷ spread_by scope line f p e else [])

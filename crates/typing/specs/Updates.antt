-- Chains that an atomic update can't do at once, told from the value alone.
use Rattle.std.specs.Prelude.{Bool, true, false, not, if◌then◌else◌}
use Rattle.fl_ast.specs.declared.kind.BinOp.TheVariants.{Add, Sub}
use Rattle.fl_ast.specs.Same.{same_expression}
use Rattle.fl_ast.specs.Tree.{Expression, binary}

-- a minus sign between the first operand t and the end of the chain
abbrev pub chain_minus : Expression → Expression → Bool
chain_minus t (binary Add a b) = if same_expression t a then false else chain_minus t a
chain_minus t (binary Sub a b) = true
chain_minus t _ = false

-- more than one further term
abbrev pub is_long_chain : Expression → Expression → Bool
is_long_chain t (binary op a b) = not (same_expression t a)
is_long_chain t _ = false

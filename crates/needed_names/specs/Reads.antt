-- What the increments of an expression's occurrences read, as it is gathered: the names of the factors from the root down to here are known as
-- positions of declarations, `at`. `reads_are` says that they are the names of the occurrences.
use Rattle.std.specs.Prelude.{ℕ, Bool, true, false, ◌==◌, nat_le, if◌then◌else◌, List, [], ◌++◌}
use Rattle.fl_ast.specs.declared.kind.BinOp.{BinOp}
use Rattle.fl_ast.specs.declared.kind.BinOp.TheVariants as op
use Rattle.fl_ast.specs.declared.kind.Fun.{Fun}
use Rattle.fl_ast.specs.declared.kind.Fun.TheVariants as fun
use Rattle.fl_ast.specs.declared.decl.Decl.{Decl}
use Rattle.fl_ast.specs.Tree.{Expression, literal, get, minus, binary, power, call, Expressions, no_expressions, expression}
use Rattle.fl_ast.specs.Readable.{number_of}
use Rattle.reachability.specs.Named.{indexes_of}
use Rattle.adjoint_rules.specs.Needed.{names_in, names_in_all}

abbrev pub is_division : BinOp → Bool
is_division op.Div = true
is_division op.Add = false
is_division op.Sub = false
is_division op.Mul = false

-- the names in an operand that is a factor of the other one
abbrev pub beside : BinOp → Expression → List (List ℕ)
beside op.Mul e = names_in e
beside op.Add e = []
beside op.Sub e = []
beside op.Div e = []

-- those that the derivative of a power has
abbrev pub raised : ℕ → Expression → List (List ℕ)
raised n e = if nat_le n 1 then [] else names_in e

-- a call of that many operands follows the one that is taken
abbrev pub is_taken : Fun → ℕ → Bool
is_taken fun.Max n = n == 2
is_taken fun.Min n = n == 2
is_taken fun.Abs n = n == 1
is_taken fun.Mod n = false

abbrev mutual
  pub reads : List Decl → (List ℕ → Bool) → Expression → List ℕ → List ℕ
  reads decls on (literal n k) at = []
  reads decls on (get x s) at = if on x then at ++ indexes_of decls (names_in_all s) else []
  reads decls on (minus a) at = reads decls on a at
  reads decls on (binary o a b) at =
      if is_division o then []
      else reads decls on a (at ++ indexes_of decls (beside o b)) ++ reads decls on b (at ++ indexes_of decls (beside o a))
  reads decls on (power a n) at = reads decls on a (at ++ indexes_of decls (raised n a))
  reads decls on (call f s) at = if is_taken f (number_of s) then all_read decls on s (at ++ indexes_of decls (names_in_all s)) else []

  pub all_read : List Decl → (List ℕ → Bool) → Expressions → List ℕ → List ℕ
  all_read decls on no_expressions at = []
  all_read decls on (expression a s) at = reads decls on a at ++ all_read decls on s at

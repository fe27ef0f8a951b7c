-- The statements of an iteration before the body's and after them.
use Rattle.std.specs.Prelude.{ℕ, List, ◌∷◌, ◌++◌, filter, map, reverse}
use Rattle.fl_ast.specs.declared.directive.Directive.{Directive}
use Rattle.fl_ast.specs.Tree.{Statements}
use Rattle.fl_ast.specs.AdjointTree.{AdjointStatement, push, pop}
use Rattle.adjoint_rules.specs.OwnNames.{scalar, value, k_name}
use Rattle.adjoint_rules.specs.Expressions.{cleared}
use Rattle.adjoint_rules.specs.Scopes.{Scope}
use Rattle.adjoint_rules.specs.Bounds.{LoopHead, further_loops, numbering}
use Rattle.adjoint_rules.specs.Forward.{zeroed, private_scalars, pushed_scalars}

abbrev pub forward_start : Scope → List ℕ → Directive → LoopHead → Statements → List AdjointStatement
forward_start scope var directive h body = numbering h (further_loops directive body) ∷ map (zeroed scope h.line) (private_scalars scope var directive body)

abbrev pub forward_end : Scope → List ℕ → Directive → ℕ → Statements → List AdjointStatement
forward_end scope var directive line body = map (λ x. push line (value k_name) (value x)) (pushed_scalars scope var directive body)

abbrev pub backward_start : Scope → List ℕ → Directive → LoopHead → Statements → List AdjointStatement
backward_start scope var directive h body =
    numbering h (further_loops directive body)
    ∷ map (λ x. pop h.line (value k_name) (scalar x)) (reverse (pushed_scalars scope var directive body))
    ++ map (λ x. cleared h.line (scalar x)) (filter scope.active (private_scalars scope var directive body))

-- an iteration around the statements that the body became, var being the loop's variable
abbrev pub forward_around : Scope → List ℕ → Directive → LoopHead → Statements → List AdjointStatement → List AdjointStatement
forward_around scope var directive h body statements = forward_start scope var directive h body ++ (statements ++ forward_end scope var directive h.line body)

abbrev pub backward_around : Scope → List ℕ → Directive → LoopHead → Statements → List AdjointStatement → List AdjointStatement
backward_around scope var directive h body statements = backward_start scope var directive h body ++ statements

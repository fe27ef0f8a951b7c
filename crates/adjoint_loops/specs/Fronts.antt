-- What stands before a loop's body, and the statements within the outer of two loops.
use Rattle.std.specs.Prelude.{List, [], ◌∷◌, Option, Some, None}
use Rattle.fl_ast.specs.declared.directive.Directive.{Directive}
use Rattle.fl_ast.specs.Tree.{expr_tree}
use Rattle.fl_ast.specs.AdjointTree.{AdjointStatement, adjoint_loop, adjoint_statements_of}
use Rattle.adjoint_rules.specs.Bounds.{LoopHead, loops_around}
use Rattle.adjoint_loops.specs.declared.around.Front.{Front}

abbrev pub looped : Option Directive → LoopHead → Front → List AdjointStatement → AdjointStatement
looped directive h f body = adjoint_loop h.line h.number directive f.var (expr_tree f.first) (expr_tree f.last) (Some (expr_tree f.step)) (adjoint_statements_of body)

abbrev pub within : List LoopHead → List AdjointStatement → List AdjointStatement
within [] body = body
within (g ∷ hs) body = loops_around None g hs body ∷ []

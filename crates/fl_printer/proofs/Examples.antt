-- Two texts: a program, and the adjoint of a parallel loop.
use Rattle.std.proofs.Common.{◌≡◌, ℕ, false, List, [], ◌∷◌, ◌++◌, Some, None, refl}
use Rattle.std.specs.Prelude.{codes}
use Rattle.std.specs.Fmt.{digits}
use Rattle.fl_ast.specs.declared.kind.Kind.{Kind}
use Rattle.fl_ast.specs.declared.kind.Kind.TheVariants as kind
use Rattle.fl_ast.specs.declared.kind.Intent.TheVariants as intent
use Rattle.fl_ast.specs.declared.kind.BinOp.TheVariants as op
use Rattle.fl_ast.specs.declared.kind.Fun.TheVariants as fun
use Rattle.fl_ast.specs.declared.decl.Factor.TheVariants as factor
use Rattle.fl_ast.specs.declared.decl.Dim.{Dim}
use Rattle.fl_ast.specs.declared.decl.Decl.{Decl}
use Rattle.fl_ast.specs.declared.directive.Directive.{Directive}
use Rattle.fl_ast.specs.Tree.{Expression, literal, get, minus, binary, call, Expressions, no_expressions, expression, Designator, assignment, no_statements, statement, Subroutine}
use Rattle.fl_ast.specs.AdjointTree.{AdjointExpression, adjoint_literal, adjoint_get, adjoint_binary, AdjointStatement, adjoint_assignment, adjoint_loop, push, pop, begin_tapes, end_tapes, AdjointStatements, adjoint_statements_of, AdjointSubroutine}
use Rattle.fl_printer.specs.Layout.{rows_text}
use Rattle.fl_printer.specs.Text.{program_text, adjoint_text}

abbrev scalar : List ℕ → Expression
scalar x = get x no_expressions

abbrev declared : List ℕ → Kind → ℕ → List Dim → Decl
declared x k bytes dims = record { line = 0; name = x; kind = k; bytes = bytes; intent = intent.Unsaid; dims = dims }

abbrev poly : Subroutine
poly = record {
  name = codes "poly";
  args = codes "x" ∷ codes "y" ∷ [];
  decls = declared (codes "x") kind.Ring 8 [] ∷ declared (codes "y") kind.Ring 8 [] ∷ [];
  body = statement (assignment 0 false (record { name = codes "y"; subscripts = no_expressions })
      (binary op.Add (binary op.Mul (scalar (codes "x")) (scalar (codes "x"))) (binary op.Mul (literal 3 kind.Index) (scalar (codes "x"))))) no_statements;
}

poly_text : program_text poly ≡
    codes "subroutine poly(x, y)\n  implicit none\n  integer(kind=8) :: x\n  integer(kind=8) :: y\n  y = (x*x)+(3*x)\nend subroutine poly\n"
unfolding rows_text digits
poly_text = refl

-- ---- the adjoint of a loop of squares

abbrev n_dim : Dim
n_dim = record { lower = None; upper = record { first = record { first = factor.Scalar (codes "n"); second = None }; rest = None } }

abbrev index : List ℕ → Decl
index x = declared x kind.Index 4 []

abbrev by_i : Expressions
by_i = expression (scalar (codes "i")) no_expressions

abbrev place : List ℕ → Expressions → Designator
place x s = record { name = x; subscripts = s }

abbrev var : List ℕ → Designator
var x = place x no_expressions

abbrev set : Designator → AdjointExpression → AdjointStatement
set p e = adjoint_assignment 0 false p e

abbrev read : List ℕ → AdjointExpression
read x = adjoint_get (var x)

abbrev main : Expression
main = minus (literal 1 kind.Index)

abbrev private : Directive
private = record {
  line = 0;
  privates = codes "formad_k" ∷ codes "formad_w" ∷ codes "formad_t" ∷ [];
  firsts = [];
  shareds = [];
  pluses = [];
  none = false;
  schedule = None;
  collapse = 0;
}

abbrev over : AdjointStatements → AdjointStatement
over body =
    adjoint_loop 0 1 (Some private) (codes "i") (scalar (codes "formad_lo1")) (scalar (codes "formad_hi1")) (Some (scalar (codes "formad_by1"))) body

abbrev quotient : AdjointExpression
quotient = adjoint_binary op.Div (adjoint_binary op.Sub (read (codes "i")) (read (codes "formad_lo1"))) (read (codes "formad_by1"))

abbrev count : Expression
count =
    call fun.Max (expression (binary op.Div (binary op.Add (binary op.Sub (scalar (codes "formad_hi1")) (scalar (codes "formad_lo1"))) (scalar (codes "formad_by1")))
    (scalar (codes "formad_by1"))) (expression (literal 0 kind.Index) no_expressions))

abbrev x_i : AdjointExpression
x_i = adjoint_get (place (codes "x") by_i)

abbrev b_i : Designator
b_i = place (codes "x_b") by_i

abbrev growing : AdjointStatement
growing = set b_i (adjoint_binary op.Add (adjoint_get b_i) (adjoint_binary op.Mul (read (codes "formad_t")) x_i))

abbrev key : Expression
key = scalar (codes "formad_k")

abbrev squares : AdjointSubroutine
squares = record {
  name = codes "sq_b";
  args = codes "n" ∷ codes "x" ∷ codes "x_b" ∷ [];
  decls = index (codes "n") ∷ index (codes "i") ∷ declared (codes "x") kind.Ring 8 (n_dim ∷ []) ∷ declared (codes "x_b") kind.Ring 8 (n_dim ∷ [])
      ∷ index (codes "formad_lo1") ∷ index (codes "formad_hi1") ∷ index (codes "formad_by1") ∷ index (codes "formad_k") ∷ index (codes "formad_w")
      ∷ declared (codes "formad_t") kind.Ring 8 [] ∷ [];
  forward = adjoint_statements_of (set (var (codes "formad_lo1")) (adjoint_literal 1 kind.Index) ∷ set (var (codes "formad_hi1")) (read (codes "n"))
      ∷ set (var (codes "formad_by1")) (adjoint_literal 1 kind.Index) ∷ begin_tapes 0 count
      ∷ over (adjoint_statements_of (set (var (codes "formad_k")) quotient ∷ push 0 key (get (codes "x") by_i) ∷ set (place (codes "x") by_i) (adjoint_binary op.Mul x_i x_i) ∷ []))
      ∷ end_tapes 0 ∷ push 0 main (scalar (codes "formad_lo1")) ∷ push 0 main (scalar (codes "formad_hi1")) ∷ push 0 main (scalar (codes "formad_by1")) ∷ []);
  reverse = adjoint_statements_of (pop 0 main (var (codes "formad_by1")) ∷ pop 0 main (var (codes "formad_hi1")) ∷ pop 0 main (var (codes "formad_lo1")) ∷ begin_tapes 0 main
      ∷ over (adjoint_statements_of (set (var (codes "formad_k")) quotient ∷ set (var (codes "formad_t")) (adjoint_get b_i) ∷ set b_i (adjoint_literal 0 kind.Ring)
      ∷ pop 0 key (place (codes "x") by_i) ∷ growing ∷ growing ∷ []))
      ∷ end_tapes 0 ∷ []);
  primal = poly;
}

abbrev squares_head : List ℕ
squares_head = codes "subroutine sq_b(n, x, x_b)\n  implicit none\n  integer(kind=4) :: n\n  integer(kind=4) :: i\n  integer(kind=8) :: x(n)\n  integer(kind=8) :: x_b(n)\n  integer(kind=4) :: formad_lo1\n  integer(kind=4) :: formad_hi1\n  integer(kind=4) :: formad_by1\n  integer(kind=4) :: formad_k\n  integer(kind=4) :: formad_w\n  integer(kind=8) :: formad_t\n"

abbrev squares_forward : List ℕ
squares_forward = codes "  formad_lo1 = 1\n  formad_hi1 = n\n  formad_by1 = 1\n  call formad_open(max(((formad_hi1-formad_lo1)+formad_by1)/formad_by1, 0))\n  !$omp parallel do private(formad_k, formad_w, formad_t)\n  do i = formad_lo1, formad_hi1, formad_by1\n    formad_k = (i-formad_lo1)/formad_by1\n    call formad_push(formad_k, x(i))\n    x(i) = x(i)*x(i)\n  end do\n  call formad_close()\n  call formad_push(-1, formad_lo1)\n  call formad_push(-1, formad_hi1)\n  call formad_push(-1, formad_by1)\n"

abbrev squares_reverse : List ℕ
squares_reverse = codes "  call formad_pop(-1, formad_by1)\n  call formad_pop(-1, formad_hi1)\n  call formad_pop(-1, formad_lo1)\n  call formad_open(-1)\n  !$omp parallel do private(formad_k, formad_w, formad_t)\n  do i = formad_lo1, formad_hi1, formad_by1\n    formad_k = (i-formad_lo1)/formad_by1\n    formad_t = x_b(i)\n    x_b(i) = 0_8\n    call formad_pop(formad_k, x(i))\n    x_b(i) = x_b(i)+(formad_t*x(i))\n    x_b(i) = x_b(i)+(formad_t*x(i))\n  end do\n  call formad_close()\nend subroutine sq_b\n"

squares_text : adjoint_text squares ≡ squares_head ++ (squares_forward ++ squares_reverse)
unfolding rows_text digits
squares_text = refl

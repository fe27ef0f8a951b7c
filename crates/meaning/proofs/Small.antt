-- Short words for small programs and their cells.
use Rattle.std.specs.Prelude.{ℕ, pos, Bool, true, false, List, [], ◌∷◌, Option, Some, None}
use Rattle.fl_ast.specs.declared.kind.Kind.{Kind}
use Rattle.fl_ast.specs.declared.kind.Kind.TheVariants as kind
use Rattle.fl_ast.specs.declared.kind.BinOp.TheVariants.{Add, Sub, Mul}
use Rattle.fl_ast.specs.declared.kind.Intent.TheVariants.{Unsaid}
use Rattle.fl_ast.specs.declared.decl.Decl.{Decl}
use Rattle.fl_ast.specs.declared.directive.Directive.{Directive}
use Rattle.fl_ast.specs.Tree.{Expression, literal, get, binary, no_expressions, expression, Designator, Statement, assignment, loop, Statements, no_statements, statement}
use Rattle.store_core.specs.declared.layout.Shape.{Shape}
use Rattle.meaning.specs.declared.value.Value.{Value}
use Rattle.meaning.specs.declared.value.Value.TheVariants.{Index, Ring}

abbrev pub declared : Kind → List ℕ → Decl
declared k x = record { line = 2; name = x; kind = k; bytes = 8; intent = Unsaid; dims = [] }

abbrev pub scalar : List ℕ → Shape
scalar x = record { name = x; axes = [] }

-- x(n)
abbrev pub array : List ℕ → ℕ → Shape
array x n = record { name = x; axes = record { lower = pos 1; extent = n } ∷ [] }

abbrev pub word : ℕ → Option Value
word n = Some (Ring (record { value = n; tangent = 0 }))

abbrev pub number : ℕ → Option Value
number n = Some (Index (pos n))

abbrev pub one : ℕ → Expression
one n = literal n kind.Index

abbrev pub name : List ℕ → Expression
name x = get x no_expressions

abbrev pub at : List ℕ → Expression → Expression
at x e = get x (expression e no_expressions)

abbrev pub to : List ℕ → Designator
to x = record { name = x; subscripts = no_expressions }

abbrev pub into : List ℕ → Expression → Designator
into x e = record { name = x; subscripts = expression e no_expressions }

infixl 20 ◌plus◌
abbrev pub ◌plus◌ : Expression → Expression → Expression
a plus b = binary Add a b

infixl 20 ◌less◌
abbrev pub ◌less◌ : Expression → Expression → Expression
a less b = binary Sub a b

infixl 30 ◌times◌
abbrev pub ◌times◌ : Expression → Expression → Expression
a times b = binary Mul a b

abbrev pub only : Statement → Statements
only s = statement s no_statements

abbrev pub set : ℕ → Designator → Expression → Statement
set line p e = assignment line false p e

abbrev pub clauses : Directive
clauses = record { line = 4; privates = []; firsts = []; shareds = []; pluses = []; none = false; schedule = None; collapse = 0 }

-- a parallel loop in line 5 with the variable i
abbrev pub parallel : Directive → List ℕ → Expression → Expression → Statements → Statements
parallel d i a b body = only (loop 5 1 (Some d) i a b None body)

abbrev pub all_pushed : List ℕ → Bool
all_pushed x = true

-- The trees that are read.
use Rattle.std.specs.Prelude.{ℕ, List, [], ◌∷◌, ◌++◌, Option}
use Rattle.fl_ast.specs.declared.kind.Kind.{Kind}
use Rattle.fl_ast.specs.declared.kind.Intent.{Intent}
use Rattle.fl_ast.specs.declared.decl.Sign.{Sign}
use Rattle.fl_ast.specs.declared.decl.Factor.{Factor}
use Rattle.fl_ast.specs.declared.decl.Term.{Term}
use Rattle.fl_ast.specs.declared.decl.Bound.{Bound}
use Rattle.fl_ast.specs.declared.decl.Dim.{Dim}
use Rattle.fl_ast.specs.declared.decl.Decl.{Decl}
use Rattle.fl_ast.specs.declared.stmt.Program.{Program}
use Rattle.parsing.specs.declared.cursor.Word.{Word}
use Rattle.fl_statements.specs.declared.block.Block.{Block}
use Rattle.fl_parser.specs.declared.unit.UnitHead.{UnitHead}

abbrev pub term_of : Factor → Option Factor → Term
term_of f r = record { first = f; second = r }

abbrev pub bound_of : Term → Option (Sign × Term) → Bound
bound_of t r = record { first = t; rest = r }

abbrev pub dim_of : Option Bound → Bound → Dim
dim_of l u = record { lower = l; upper = u }

-- one more name
abbrev pub declared : List Decl → ℕ → Kind × ℕ → Intent → Word → List Dim → List Decl
declared ds line k i x dims = ds ++ (record { line = line; name = x.name; kind = k.0; bytes = k.1; intent = i; dims = dims }) ∷ []

abbrev pub head_of : ℕ → Word → List (List ℕ) → UnitHead
head_of line x args = record { line = line; name = x.name; args = args }

abbrev pub program : UnitHead → List Decl → Block → Program
program head ds body = record { line = head.line; name = head.name; args = head.args; decls = ds; body = body.stmts }

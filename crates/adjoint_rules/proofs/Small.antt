-- Short words for small programs and their adjoints.
use Rattle.std.specs.Prelude.{ℕ, true, false, List, [], None, codes}
use Rattle.fl_ast.specs.declared.kind.Kind.{Kind}
use Rattle.fl_ast.specs.declared.kind.Kind.TheVariants as kind
use Rattle.fl_ast.specs.declared.kind.BinOp.TheVariants as op
use Rattle.fl_ast.specs.declared.kind.Intent.TheVariants as intent
use Rattle.fl_ast.specs.declared.decl.Decl.{Decl}
use Rattle.fl_ast.specs.declared.directive.Directive.{Directive}
use Rattle.fl_ast.specs.Tree.{Expression, literal, get, binary, no_expressions, expression, Designator, Statement, assignment, Statements, no_statements, statement}
use Rattle.fl_ast.specs.AdjointTree.{AdjointStatement, adjoint_assignment}
use Rattle.fl_types.specs.declared.choice.Chosen.{Chosen}
use Rattle.fl_types.specs.Sharing.{has_name}
use Rattle.adjoint_rules.specs.OwnNames.{main_tape}
use Rattle.adjoint_rules.specs.Expressions.{in_adjoint}
use Rattle.adjoint_rules.specs.Scopes.{Scope}

abbrev pub x : List ℕ
x = codes "x"

abbrev pub y : List ℕ
y = codes "y"

abbrev pub z : List ℕ
z = codes "z"

abbrev pub i : List ℕ
i = codes "i"

abbrev pub j : List ℕ
j = codes "j"

abbrev pub n : List ℕ
n = codes "n"

abbrev pub index : ℕ → Expression
index v = literal v kind.Index

abbrev pub data_of : ℕ → Expression
data_of v = literal v kind.Ring

abbrev pub name : List ℕ → Expression
name v = get v no_expressions

abbrev pub at : List ℕ → Expression → Expression
at v e = get v (expression e no_expressions)

abbrev pub to : List ℕ → Designator
to v = record { name = v; subscripts = no_expressions }

abbrev pub into : List ℕ → Expression → Designator
into v e = record { name = v; subscripts = expression e no_expressions }

infixl 20 ◌plus◌
abbrev pub ◌plus◌ : Expression → Expression → Expression
a plus b = binary op.Add a b

infixl 20 ◌less◌
abbrev pub ◌less◌ : Expression → Expression → Expression
a less b = binary op.Sub a b

infixl 30 ◌times◌
abbrev pub ◌times◌ : Expression → Expression → Expression
a times b = binary op.Mul a b

infixl 30 ◌over◌
abbrev pub ◌over◌ : Expression → Expression → Expression
a over b = binary op.Div a b

abbrev pub only : Statement → Statements
only s = statement s no_statements

abbrev pub set : ℕ → Designator → Expression → Statement
set line p e = assignment line false p e

-- the same in an adjoint
abbrev pub does : ℕ → Designator → Expression → AdjointStatement
does line p e = adjoint_assignment line false p (in_adjoint e)

abbrev pub atomically : ℕ → Designator → Expression → AdjointStatement
atomically line p e = adjoint_assignment line true p (in_adjoint e)

abbrev pub declared : Kind → ℕ → List ℕ → Decl
declared k bytes v = record { line = 2; name = v; kind = k; bytes = bytes; intent = intent.Unsaid; dims = [] }

abbrev pub clauses : Directive
clauses = record { line = 4; privates = []; firsts = []; shareds = []; pluses = []; none = false; schedule = None; collapse = 0 }

abbrev pub t : Expression
t = name (codes "formad_t")

abbrev pub to_t : Designator
to_t = to (codes "formad_t")

-- outside loops, with these names declared, of the ring kind, active and needed
abbrev pub scope_of : (declared ring active needed : List (List ℕ)) → List Chosen → Scope
scope_of declared ring active needed choices = record {
  declared = declared;
  ring = λ v. has_name v ring;
  active = λ v. has_name v active;
  needed = λ v. has_name v needed;
  choices = choices;
  atomic = λ v. false;
  pluses = λ v. false;
  key = main_tape;
}

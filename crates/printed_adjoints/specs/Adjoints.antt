-- What the text of a printed adjoint is read as, line and loop numbers aside.
use Rattle.std.specs.Prelude.{◌≡◌, ℕ, List, map, Ok}
use Rattle.tokens.specs.declared.Token.{Token}
use Rattle.tokens.specs.Lexeme.{lexeme}
use Rattle.fl_ast.specs.declared.adjoint.AdjointText.{AdjointText}
use Rattle.fl_ast.specs.AdjointTree.{AdjointSubroutine, AdjointUnit, AdjointStatements, no_adjoint_statements, adjoint_statement, adjoint_text_tree}
use Rattle.fl_lexer.specs.Reading.{lexed}
use Rattle.adjoint_statements.specs.Rooms.{the_limits}
use Rattle.adjoint_parser.specs.AdjointGrammar.{unit}
use Rattle.printed_adjoint_blocks.specs.AdjointUnlined.{unlined_all}
use Rattle.printed_declarations.specs.Declared.{unlined_decl}

-- statements one behind the other
abbrev pub followed_by : AdjointStatements → AdjointStatements → AdjointStatements
followed_by no_adjoint_statements more = more
followed_by (adjoint_statement s rest) more = adjoint_statement s (followed_by rest more)

-- the text that an adjoint is to be read as: its primal aside, with both parts as one
abbrev pub as_text : AdjointSubroutine → AdjointUnit
as_text a = record { name = a.name; args = a.args; decls = a.decls; body = followed_by a.forward a.reverse }

-- without the lines of declarations, statements and directives, and without the numbers of loops
abbrev pub unlined_unit : AdjointUnit → AdjointUnit
unlined_unit t = record { name = t.name; args = t.args; decls = map unlined_decl t.decls; body = unlined_all t.body }

-- the text is lexed, and in the grammar its tokens are this adjoint
pub record IsReadBack (text : List ℕ) (a : AdjointSubroutine) : Type 0 where
  pub tokens : List Token
  pub found : AdjointText
  pub lexes : lexed text ≡ Ok tokens
  pub same : unlined_unit (adjoint_text_tree found) ≡ unlined_unit (as_text a)
  pub reads : unit the_limits found (map (lexeme text) tokens)

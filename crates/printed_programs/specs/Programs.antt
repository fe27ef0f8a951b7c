-- What the text of a printed program is read as, line numbers aside.
use Rattle.std.specs.Prelude.{◌≡◌, ℕ, List, map, Ok}
use Rattle.tokens.specs.declared.Token.{Token}
use Rattle.tokens.specs.Lexeme.{lexeme}
use Rattle.fl_ast.specs.declared.stmt.Program.{Program}
use Rattle.fl_ast.specs.Tree.{Subroutine, program_tree}
use Rattle.fl_lexer.specs.Reading.{lexed}
use Rattle.fl_statements.specs.Limits.{the_limits}
use Rattle.fl_parser.specs.UnitGrammar.{unit}
use Rattle.printed_blocks.specs.Unlined.{unlined_all}
use Rattle.printed_declarations.specs.Declared.{unlined_decl}

-- a program without the lines of its declarations, statements and directives
abbrev pub unlined_program : Subroutine → Subroutine
unlined_program p = record { name = p.name; args = p.args; decls = map unlined_decl p.decls; body = unlined_all p.body }

-- the text is lexed, and in the grammar its tokens are this program, but for its lines
pub record IsReadBack (text : List ℕ) (p : Subroutine) : Type 0 where
  pub tokens : List Token
  pub program : Program
  pub lexes : lexed text ≡ Ok tokens
  pub same : unlined_program (program_tree program) ≡ unlined_program p
  pub reads : unit the_limits program (map (lexeme text) tokens)

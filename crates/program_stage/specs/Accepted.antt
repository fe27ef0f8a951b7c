-- A text that is accepted.
use Rattle.std.specs.Prelude.{ℕ, ◌≡◌, List, Ok}
use Rattle.tokens.specs.declared.Token.{Token}
use Rattle.fl_ast.specs.declared.stmt.Program.{Program}
use Rattle.fl_lexer.specs.Reading.{lexed}
use Rattle.fl_parser.specs.Parsed.{parsed}
use Rattle.fl_types.specs.Rows.{judged}

-- the text is accepted, as this program
pub record IsProgramOf (text : List ℕ) (program : Program) : Type 0 where
  pub tokens : List Token
  pub tree : Program
  pub lexes : lexed text ≡ Ok tokens
  pub parses : parsed text tokens ≡ Ok tree
  pub judges : judged tree ≡ Ok program

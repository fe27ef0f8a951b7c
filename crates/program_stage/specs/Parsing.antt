-- What is said of tokens that aren't parsed.
use Rattle.std.specs.Prelude.{ℕ, List, ◌++◌, codes, None}
use Rattle.ending.specs.Plan.{Plan, Saying, or_say}
use Rattle.tokens.specs.declared.Token.{Token}
use Rattle.fl_ast.specs.declared.stmt.Program.{Program}
use Rattle.fl_parser.specs.declared.error.ParseError.{ParseError}
use Rattle.fl_parser.specs.declared.error.ParseError.TheVariants.{Expected, Construct, Clause, Deep, Many, Memory}
use Rattle.parsing.specs.declared.fault.ClauseError.{ClauseError}
use Rattle.parsing.specs.declared.fault.ClauseError.TheVariants as clause
use Rattle.fl_parser.specs.Parsed.{parsed}
use Rattle.program_stage.specs.Lines.{refused_column, refused_line}

-- of a directive
abbrev pub say_clause : ClauseError → Saying
say_clause (clause.Unknown line word) = refused_line line (codes "unknown clause " ++ word)
say_clause (clause.Twice line name) = refused_line line (codes "clause twice " ++ name)
say_clause (clause.Form line) = refused_line line (codes "clause form")
say_clause clause.Memory = None

abbrev pub say_parse : ParseError → Saying
say_parse (Expected line col) = refused_column line col (codes "syntax")
say_parse (Construct line word) = refused_line line (codes "construct " ++ word)
say_parse (Clause error) = say_clause error
say_parse (Deep line) = refused_line line (codes "too deep")
say_parse (Many line) = refused_line line (codes "too many")
say_parse Memory = None

-- the program of the tokens
unfoldable pub parsed_stage : List ℕ → List Token → (Program → Plan) → Plan
parsed_stage text tokens rest = or_say say_parse (parsed text tokens) rest

-- The program file, and the names that a derivative is taken of and by.
use Rattle.std.specs.Prelude.{ℕ, List, codes}
use Rattle.ending.specs.Plan.{Plan, Asks}
use Rattle.fl_ast.specs.declared.stmt.Program.{Program}
use Rattle.program_stage.specs.Lexing.{lexed_stage}
use Rattle.program_stage.specs.Names.{names_stage}
use Rattle.program_stage.specs.Parsing.{parsed_stage}
use Rattle.program_stage.specs.Typing.{typed_stage}

-- the program of a text, or the first refusal: of its tokens, its tree, its types
unfoldable pub source_stage : List ℕ → (Program → Plan) → Plan
source_stage text rest =
    lexed_stage text (λ tokens.
    parsed_stage text tokens (λ program.
    typed_stage program rest))

-- the program of the program file, of at most 2^20 bytes
unfoldable pub program_stage : List ℕ → (Program → Plan) → Plan
program_stage file rest = Asks file 1048576 (codes "limit program 1048576\n") (λ text. source_stage text rest)

-- the program, then the names of `of`, then those of `wrt`
unfoldable pub subject_stage : (file : List ℕ) (of wrt : List (List ℕ)) → (Program → Plan) → Plan
subject_stage file of wrt rest =
    program_stage file (λ program.
    names_stage program of (λ _.
    names_stage program wrt (λ _. rest program)))

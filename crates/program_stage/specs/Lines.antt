-- What is said of programs.
use Rattle.std.specs.Prelude.{ℕ, List, ◌++◌, codes, decimal, Some}
use Rattle.ending.specs.declared.verdict.Verdict.TheVariants.{Refused}
use Rattle.ending.specs.Plan.{Plan, Says, Saying}

abbrev pub line_text : ℕ → List ℕ → List ℕ
line_text line phrase = codes "refused line " ++ decimal line ++ codes ": " ++ phrase ++ codes "\n"

abbrev pub column_text : ℕ → ℕ → List ℕ → List ℕ
column_text line col phrase = codes "refused line " ++ decimal line ++ codes " column " ++ decimal col ++ codes ": " ++ phrase ++ codes "\n"

-- a refusal at a line
abbrev pub refused_line : ℕ → List ℕ → Saying
refused_line line phrase = Some (Refused, line_text line phrase)

-- a refusal at a line and a column
abbrev pub refused_column : ℕ → ℕ → List ℕ → Saying
refused_column line col phrase = Some (Refused, column_text line col phrase)

abbrev pub not_built_line : List ℕ
not_built_line = codes "refused: not built\n"

-- what is said where a program, a file or a command goes beyond what is built so far
abbrev pub not_built : Saying
not_built = Some (Refused, not_built_line)

-- the end of a command that isn't built further
abbrev pub not_built_plan : Plan
not_built_plan = Says Refused not_built_line

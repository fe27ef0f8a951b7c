-- What is due for the words of a call.
use Rattle.std.specs.Prelude.{ℕ, List, Option, option_map}
use Rattle.ending.specs.Plan.{Plan}
use Rattle.formad_words.specs.Grammar.{words_in}
use Rattle.commands.specs.Plans.{command_plan}

-- the plan of the words' command, None where they are in no command's grammar
abbrev pub plan_of : List (List ℕ) → Option Plan
plan_of words = option_map command_plan (words_in words)

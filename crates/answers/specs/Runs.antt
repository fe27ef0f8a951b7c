-- What answers show of words, and the text of an answer.
use Rattle.std.specs.Prelude.{ℕ, List, [], ◌∷◌, ◌++◌, map}
use Rattle.std.specs.Int.{w64, cast_unsigned}
use Rattle.serde_json.specs.Data.{object}
use Rattle.serde_json.specs.Written.{compact_text}
use Rattle.ring_core.specs.declared.ring.Width.{Width}
use Rattle.fl_ast.specs.declared.stmt.Program.{Program}
use Rattle.fl_ast.specs.Tree.{program_tree}
use Rattle.store_core.specs.declared.layout.Shape.{Shape}
use Rattle.store_core.specs.declared.values.Args.{Args}
use Rattle.store_core.specs.declared.values.Weights.{Weights}
use Rattle.store_core.specs.Filled.{place_words, entries_at}
use Rattle.ring_core.specs.Ring.{signed_at}
use Rattle.meaning.specs.Sites.{data_width}
use Rattle.meaning.specs.Programs.{final_words, adjoint_words}
use Rattle.data_io.specs.declared.answer.Answer.{Answer}
use Rattle.data_io.specs.Written.{members}

-- a word as it is shown: by its signed representative at the width of data
abbrev pub shown_word : Width → ℕ → ℕ
shown_word width word = cast_unsigned w64 (signed_at width word)

-- the names with their words, from the words of all places
abbrev pub shown_at : Program → List Shape → List ℕ → List (List ℕ) → Weights
shown_at program shapes words names = record { entries = entries_at shapes (map (shown_word (data_width program.decls)) words) names }

-- the values that the program ends with
abbrev pub values_of : Program → List Shape → Args → List ℕ
values_of program shapes args = final_words (program_tree program) shapes (place_words shapes args.entries)

-- the transposed derivative, applied to the weights
abbrev pub adjoints_of : Program → List Shape → Args → Weights → List ℕ
adjoints_of program shapes args weights = adjoint_words (program_tree program) shapes (place_words shapes args.entries) (place_words shapes weights.entries)

-- an answer's compact JSON, and a line feed
abbrev pub text_of : Answer → List ℕ
text_of answer = compact_text (object (members answer)) ++ 10 ∷ []

-- What a reader of words promises.
use Rattle.std.specs.Prelude.{◌≡◌, ◌≢◌, Option, Some, None, Result, Ok, Err}
use Rattle.formad_words.specs.declared.error.WordsError.{WordsError}
use Rattle.formad_words.specs.declared.error.WordsError.TheVariants.{Memory}

-- what the words mean, where they mean something; nothing is said where memory is wanting
abbrev pub Reads : {T : Type 0} → Option T → Result T WordsError → Type 0
Reads found (Ok value) = found ≡ Some value
Reads found (Err error) = error ≢ Memory → found ≡ None

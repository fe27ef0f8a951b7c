-- What some tokens are read as.
use Rattle.std.specs.Prelude.{Bool, true, false, not, ◌&&◌, ◌||◌, if◌then◌else◌, Option, Some, None}
use Rattle.tokens.specs.Lexeme.{Lexeme}
use Rattle.parsing.specs.declared.symbol.Symbol.{Symbol}
use Rattle.parsing.specs.declared.symbol.Symbol.TheVariants as s
use Rattle.parsing.specs.declared.cursor.Word.{Word}
use Rattle.parsing.specs.Terminal.{is, on, same, names, word_of}

-- names but `then`
abbrev pub plain_names : Symbol → Bool
plain_names a = names a && not (same s.Then a)

abbrev pub plain_name : Lexeme → Option Word
plain_name t = if on plain_names t then Some (word_of t) else None

-- `then`, which may be a name
abbrev pub then_word : Lexeme → Option Word
then_word t = if is s.Then t then Some (word_of t) else None

-- a word that begins a construct outside the language
abbrev pub is_construct : Symbol → Bool
is_construct s.Construct = true
is_construct s.Call = true
is_construct _ = false

-- what stands behind the name of a target
abbrev pub begins_rest : Symbol → Bool
begins_rest a = same s.Open a || same s.Equals a

-- what begins one more part of an If
abbrev pub begins_part : Symbol → Bool
begins_part a = same s.ElseIf a || same s.Else a

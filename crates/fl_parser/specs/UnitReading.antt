-- How a unit is read.
use Rattle.std.specs.Prelude.{false, ℕ, ◌+◌, Bool, true, List, [], ◌∷◌, ◌++◌, length}
use Rattle.fl_ast.specs.declared.kind.Kind.{Kind}
use Rattle.fl_ast.specs.declared.kind.Kind.TheVariants.{Index, Ring}
use Rattle.fl_ast.specs.declared.kind.Intent.{Intent}
use Rattle.fl_ast.specs.declared.kind.Intent.TheVariants.{Unsaid, ReadOnly, WriteOnly, Both}
use Rattle.fl_ast.specs.declared.decl.Decl.{Decl}
use Rattle.fl_ast.specs.declared.stmt.Program.{Program}
use Rattle.parsing.specs.declared.symbol.Symbol.TheVariants as s
use Rattle.parsing.specs.declared.fault.Cause.TheVariants.{Expected, Many}
use Rattle.parsing.specs.Limit.{allows}
use Rattle.parsing.specs.Terminal.{is, on, marked, names, name, words, word, same_word, spelled, spelled_number}
use Rattle.parsing.specs.Reading.{Parser, ◌>>=◌, pure, token, choose, loop}
use Rattle.fl_parser.specs.declared.unit.UnitHead.{UnitHead}
use Rattle.fl_parser.specs.Terminals.{kind_number, one_text, two_text}
use Rattle.fl_statements.specs.declared.block.Block.{Block}
use Rattle.fl_statements.specs.Limits.{Limits}
use Rattle.fl_statements.specs.Trees.{block_from}
use Rattle.fl_statements.specs.StmtReading.{stmts}
use Rattle.fl_parser.specs.Trees.{declared, head_of, program}
use Rattle.fl_parser.specs.DimReading.{shape}

-- ---- declarations

-- [ "kind" "=" ]
unfoldable pub kind_word : Parser (Unit {0})
kind_word = choose (is s.Kind)
    (do
      kind ← token (marked s.Kind)
      equals ← token (marked s.Equals)
      pure tt)
    (pure tt)

unfoldable pub one_byte : Parser (Kind × ℕ)
one_byte = do
  number ← token (spelled_number one_text)
  pure (Ring, 1)

unfoldable pub two_bytes : Parser (Kind × ℕ)
two_bytes = do
  number ← token (spelled_number two_text)
  pure (Ring, 2)

unfoldable pub kind_value : Parser (Kind × ℕ)
kind_value = choose (spelled one_text) one_byte (choose (spelled two_text) two_bytes (token kind_number))

unfoldable pub kind_brackets : Parser (Kind × ℕ)
kind_brackets = do
  open_ ← token (marked s.Open)
  said ← kind_word
  k ← kind_value
  close ← token (marked s.Close)
  pure k

unfoldable pub kind : Parser (Kind × ℕ)
kind = choose (is s.Open) kind_brackets (pure (Index, 4))

-- "in" [ "out" ]
unfoldable pub inward : Parser Intent
inward = do
  in_ ← token (marked s.In)
  choose (is s.Out)
      (do
        out ← token (marked s.Out)
        pure Both)
      (pure ReadOnly)

unfoldable pub outward : Parser Intent
outward = choose (is s.Out)
    (do
      out ← token (marked s.Out)
      pure WriteOnly)
    (do
      inout ← token (marked s.InOut)
      pure Both)

unfoldable pub direction : Parser Intent
direction = choose (is s.In) inward outward

-- "," "intent" "(" dir ")" "::"
unfoldable pub intent_list : Parser Intent
intent_list = do
  comma ← token (marked s.Comma)
  intent ← token (marked s.Intent)
  open_ ← token (marked s.Open)
  i ← direction
  close ← token (marked s.Close)
  colons ← token (marked s.Colons)
  pure i

-- [ "::" ]
unfoldable pub colons : Parser Intent
colons = choose (is s.Colons)
    (do
      colons ← token (marked s.Colons)
      pure Unsaid)
    (pure Unsaid)

unfoldable pub intent : Parser Intent
intent = choose (is s.Comma) intent_list colons

unfoldable pub item : ℕ → Kind × ℕ → Intent → List Decl → Parser (List Decl)
item line k i ds = do
  x ← token name
  dims ← shape
  pure (declared ds line k i x dims)

module _ (limits : Limits) where
  -- whether one more declaration fits
  abbrev pub may_declare : List Decl → Bool
  may_declare ds = allows limits.names (length ds + 1)

  -- "," item
  unfoldable pub another_item : ℕ → Kind × ℕ → Intent → List Decl → Parser (List Decl)
  another_item line k i ds = do
    comma ← token (marked s.Comma)
    item line k i ds

  unfoldable pub items : ℕ → Kind × ℕ → Intent → List Decl → Parser (List Decl)
  items line k i = loop (is s.Comma) may_declare Many (another_item line k i)

  unfoldable pub decl : List Decl → Parser (List Decl)
  decl ds = do
    line ← token (marked s.Integer)
    k ← kind
    i ← intent
    first ← item line k i ds
    found ← items line k i first
    eol ← token (marked s.LineEnd)
    pure found

  unfoldable pub decls : Parser (List Decl)
  decls = loop (is s.Integer) may_declare Many decl []

-- ---- the unit

-- "," name
unfoldable pub another_arg : List (List ℕ) → Parser (List (List ℕ))
another_arg found = do
  comma ← token (marked s.Comma)
  x ← token name
  pure (found ++ x.name ∷ [])

unfoldable pub more_args : List (List ℕ) → Parser (List (List ℕ))
more_args = loop (is s.Comma) (λ found. true) Expected another_arg

unfoldable pub some_args : Parser (List (List ℕ))
some_args = do
  x ← token name
  more_args (x.name ∷ [])

unfoldable pub listed_args : Parser (List (List ℕ))
listed_args = choose (on names) some_args (pure [])

unfoldable pub bracketed_args : Parser (List (List ℕ))
bracketed_args = do
  open_ ← token (marked s.Open)
  found ← listed_args
  close ← token (marked s.Close)
  pure found

unfoldable pub args : Parser (List (List ℕ))
args = choose (is s.Open) bracketed_args (pure [])

-- [ "implicit" "none" eol ]
unfoldable pub implicit : Parser (Unit {0})
implicit = choose (is s.Implicit)
    (do
      implicit ← token (marked s.Implicit)
      none ← token (marked s.NoneWord)
      eol ← token (marked s.LineEnd)
      pure tt)
    (pure tt)

-- [ name ] eol
unfoldable pub closing : List ℕ → Parser ℕ
closing bytes = choose (on words)
    (do
      same ← token (same_word bytes)
      token (marked s.LineEnd))
    (token (marked s.LineEnd))

unfoldable pub end_word : List ℕ → Parser ℕ
end_word bytes = do
  end ← token (marked s.End)
  choose (is s.Subroutine)
      (do
        subroutine ← token (marked s.Subroutine)
        closing bytes)
      (token (marked s.LineEnd))

unfoldable pub end_unit : List ℕ → Parser ℕ
end_unit bytes = choose (is s.EndSubroutine)
    (do
      end ← token (marked s.EndSubroutine)
      closing bytes)
    (end_word bytes)

unfoldable pub unit_head : Parser UnitHead
unit_head = do
  line ← token (marked s.Subroutine)
  x ← token word
  found ← args
  eol ← token (marked s.LineEnd)
  said ← implicit
  pure (head_of line x found)

-- the statements of a unit
unfoldable pub body : Limits → Parser Block
body limits = stmts limits limits.blocks false (block_from 0 0)

unfoldable pub unit : Limits → Parser Program
unit limits = do
  head ← unit_head
  ds ← decls limits
  b ← body limits
  end ← end_unit head.name
  pure (program head ds b)

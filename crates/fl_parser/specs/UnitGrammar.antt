-- The grammar of a unit.
use Rattle.std.specs.Prelude.{false, ℕ, ◌+◌, Bool, true, List, [], ◌∷◌, ◌++◌, length}
use Rattle.fl_ast.specs.declared.kind.Kind.{Kind}
use Rattle.fl_ast.specs.declared.kind.Kind.TheVariants.{Index, Ring}
use Rattle.fl_ast.specs.declared.kind.Intent.{Intent}
use Rattle.fl_ast.specs.declared.kind.Intent.TheVariants.{Unsaid, ReadOnly, WriteOnly, Both}
use Rattle.fl_ast.specs.declared.decl.Decl.{Decl}
use Rattle.fl_ast.specs.declared.stmt.Program.{Program}
use Rattle.parsing.specs.declared.symbol.Symbol.TheVariants as s
use Rattle.parsing.specs.Limit.{allows}
use Rattle.parsing.specs.Terminal.{marked, name, word, same_word, spelled_number}
use Rattle.parsing.specs.Grammar.{Grammar, ◌>>=◌, gives, one, ◌or◌, where_, many}
use Rattle.fl_parser.specs.declared.unit.UnitHead.{UnitHead}
use Rattle.fl_parser.specs.Terminals.{kind_number, one_text, two_text}
use Rattle.fl_statements.specs.declared.block.Block.{Block}
use Rattle.fl_statements.specs.Limits.{Limits}
use Rattle.fl_statements.specs.Trees.{block_from}
use Rattle.fl_statements.specs.StmtGrammar.{stmts}
use Rattle.fl_parser.specs.Trees.{declared, head_of, program}
use Rattle.fl_parser.specs.DimGrammar.{shape}

-- ---- declarations

-- [ "kind" "=" ]
unfoldable pub kind_word : Grammar (Unit {0})
kind_word =
    (do
      kind ← one (marked s.Kind)
      equals ← one (marked s.Equals)
      gives tt)
    or gives tt

-- "1"
unfoldable pub one_byte : Grammar (Kind × ℕ)
one_byte = do
  number ← one (spelled_number one_text)
  gives (Ring, 1)

-- "2"
unfoldable pub two_bytes : Grammar (Kind × ℕ)
two_bytes = do
  number ← one (spelled_number two_text)
  gives (Ring, 2)

-- "1" | "2" | "4" | "8"
unfoldable pub kind_value : Grammar (Kind × ℕ)
kind_value = one_byte or (two_bytes or one kind_number)

-- "(" [ "kind" "=" ] kind-value ")"
unfoldable pub kind_brackets : Grammar (Kind × ℕ)
kind_brackets = do
  open_ ← one (marked s.Open)
  said ← kind_word
  k ← kind_value
  close ← one (marked s.Close)
  gives k

-- [ "(" [ "kind" "=" ] kind-value ")" ]
unfoldable pub kind : Grammar (Kind × ℕ)
kind = kind_brackets or gives (Index, 4)

-- [ "out" ]
unfoldable pub and_out : Grammar Intent
and_out =
    (do
      out ← one (marked s.Out)
      gives Both)
    or gives ReadOnly

-- "in" [ "out" ]
unfoldable pub inward : Grammar Intent
inward = do
  in_ ← one (marked s.In)
  and_out

-- "out" | "inout"
unfoldable pub outward : Grammar Intent
outward =
    (do
      out ← one (marked s.Out)
      gives WriteOnly)
    or (do
      inout ← one (marked s.InOut)
      gives Both)

-- "in" | "out" | "inout" | "in" "out"
unfoldable pub direction : Grammar Intent
direction = inward or outward

-- "," "intent" "(" dir ")" "::"
unfoldable pub intent_list : Grammar Intent
intent_list = do
  comma ← one (marked s.Comma)
  intent ← one (marked s.Intent)
  open_ ← one (marked s.Open)
  i ← direction
  close ← one (marked s.Close)
  colons ← one (marked s.Colons)
  gives i

-- [ "::" ]
unfoldable pub colons : Grammar Intent
colons =
    (do
      colons ← one (marked s.Colons)
      gives Unsaid)
    or gives Unsaid

-- [ "," "intent" "(" dir ")" "::" | "::" ]
unfoldable pub intent : Grammar Intent
intent = intent_list or colons

-- name [ "(" dim {"," dim} ")" ]
unfoldable pub item : ℕ → Kind × ℕ → Intent → List Decl → Grammar (List Decl)
item line k i ds = do
  x ← one name
  dims ← shape
  gives (declared ds line k i x dims)

module _ (limits : Limits) where
  -- whether one more declaration fits
  abbrev pub may_declare : List Decl → Bool
  may_declare ds = allows limits.names (length ds + 1)

  -- "," item
  unfoldable pub another_item : ℕ → Kind × ℕ → Intent → List Decl → Grammar (List Decl)
  another_item line k i ds = do
    comma ← one (marked s.Comma)
    item line k i ds

  unfoldable pub items : ℕ → Kind × ℕ → Intent → List Decl → Grammar (List Decl)
  items line k i = many (λ ds. where_ (may_declare ds) (another_item line k i ds))

  -- "integer" [ kind ] [ intent ] item { "," item } eol
  unfoldable pub decl : List Decl → Grammar (List Decl)
  decl ds = do
    line ← one (marked s.Integer)
    k ← kind
    i ← intent
    first ← item line k i ds
    found ← items line k i first
    eol ← one (marked s.LineEnd)
    gives found

  unfoldable pub decls : Grammar (List Decl)
  decls = many (λ ds. where_ (may_declare ds) (decl ds)) []

-- ---- the unit

-- "," name
unfoldable pub another_arg : List (List ℕ) → Grammar (List (List ℕ))
another_arg found = do
  comma ← one (marked s.Comma)
  x ← one name
  gives (found ++ x.name ∷ [])

unfoldable pub more_args : List (List ℕ) → Grammar (List (List ℕ))
more_args = many (λ found. where_ true (another_arg found))

-- name { "," name }
unfoldable pub some_args : Grammar (List (List ℕ))
some_args = do
  x ← one name
  more_args (x.name ∷ [])

unfoldable pub listed_args : Grammar (List (List ℕ))
listed_args = some_args or gives []

-- "(" [ name { "," name } ] ")"
unfoldable pub bracketed_args : Grammar (List (List ℕ))
bracketed_args = do
  open_ ← one (marked s.Open)
  found ← listed_args
  close ← one (marked s.Close)
  gives found

unfoldable pub args : Grammar (List (List ℕ))
args = bracketed_args or gives []

-- [ "implicit" "none" eol ]
unfoldable pub implicit : Grammar (Unit {0})
implicit =
    (do
      implicit ← one (marked s.Implicit)
      none ← one (marked s.NoneWord)
      eol ← one (marked s.LineEnd)
      gives tt)
    or gives tt

-- [ name ] eol
unfoldable pub closing : List ℕ → Grammar ℕ
closing bytes =
    (do
      same ← one (same_word bytes)
      one (marked s.LineEnd))
    or one (marked s.LineEnd)

-- [ "subroutine" [ name ] ] eol
unfoldable pub after_end : List ℕ → Grammar ℕ
after_end bytes =
    (do
      subroutine ← one (marked s.Subroutine)
      closing bytes)
    or one (marked s.LineEnd)

-- "end" [ "subroutine" [ name ] ] eol
unfoldable pub end_word : List ℕ → Grammar ℕ
end_word bytes = do
  end ← one (marked s.End)
  after_end bytes

-- ("end" [ "subroutine" [ name ] ] | "endsubroutine" [ name ]) eol
unfoldable pub end_unit : List ℕ → Grammar ℕ
end_unit bytes =
    (do
      end ← one (marked s.EndSubroutine)
      closing bytes)
    or end_word bytes

-- "subroutine" word [ "(" [ name {"," name} ] ")" ] eol [ "implicit" "none" eol ]
unfoldable pub unit_head : Grammar UnitHead
unit_head = do
  line ← one (marked s.Subroutine)
  x ← one word
  found ← args
  eol ← one (marked s.LineEnd)
  said ← implicit
  gives (head_of line x found)

-- the statements of a unit
unfoldable pub body : Limits → Grammar Block
body limits = stmts limits limits.blocks false (block_from 0 0)

unfoldable pub unit : Limits → Grammar Program
unit limits = do
  head ← unit_head
  ds ← decls limits
  b ← body limits
  end ← end_unit head.name
  gives (program head ds b)

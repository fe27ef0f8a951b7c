-- The grammar of dimensions.
use Rattle.std.specs.Prelude.{true, List, [], ◌∷◌, ◌++◌, Option, Some, None}
use Rattle.fl_ast.specs.declared.decl.Sign.{Sign}
use Rattle.fl_ast.specs.declared.decl.Factor.{Factor}
use Rattle.fl_ast.specs.declared.decl.Factor.TheVariants.{Lit, Minus, Scalar}
use Rattle.fl_ast.specs.declared.decl.Term.{Term}
use Rattle.fl_ast.specs.declared.decl.Bound.{Bound}
use Rattle.fl_ast.specs.declared.decl.Dim.{Dim}
use Rattle.parsing.specs.declared.symbol.Symbol.TheVariants as s
use Rattle.parsing.specs.Terminal.{marked, name}
use Rattle.parsing.specs.Grammar.{Grammar, ◌>>=◌, gives, one, ◌or◌, where_, many}
use Rattle.fl_parser.specs.Terminals.{bound_number, bound_sign}
use Rattle.fl_parser.specs.Trees.{term_of, bound_of, dim_of}

unfoldable pub name_factor : Grammar Factor
name_factor = do
  x ← one name
  gives (Scalar x.name)

unfoldable pub number_factor : Grammar Factor
number_factor = do
  n ← one bound_number
  gives (Lit n.value)

-- name | number
unfoldable pub bound_factor : Grammar Factor
bound_factor = name_factor or number_factor

-- [ "*" bfactor ]
unfoldable pub second_factor : Grammar (Option Factor)
second_factor =
    (do
      star ← one (marked s.Star)
      f ← bound_factor
      gives (Some f))
    or gives None

-- bfactor [ "*" bfactor ]
unfoldable pub bound_term : Grammar Term
bound_term = do
  f ← bound_factor
  r ← second_factor
  gives (term_of f r)

-- "-" number [ "*" bfactor ]
unfoldable pub negative_term : Grammar Term
negative_term = do
  minus ← one (marked s.Minus)
  n ← one bound_number
  r ← second_factor
  gives (term_of (Minus n.value) r)

unfoldable pub first_term : Grammar Term
first_term = negative_term or bound_term

-- [ ("+"|"-") bterm ]
unfoldable pub other_term : Grammar (Option (Sign × Term))
other_term =
    (do
      o ← one bound_sign
      t ← bound_term
      gives (Some (o, t)))
    or gives None

-- ( bterm | "-" number [ "*" bfactor ] ) [ ("+"|"-") bterm ]
unfoldable pub bound : Grammar Bound
bound = do
  t ← first_term
  r ← other_term
  gives (bound_of t r)

unfoldable pub after_bound : Bound → Grammar Dim
after_bound b =
    (do
      colon ← one (marked s.Colon)
      u ← bound
      gives (dim_of (Some b) u))
    or gives (dim_of None b)

-- [ bound ":" ] bound
unfoldable pub dim : Grammar Dim
dim = do
  b ← bound
  after_bound b

-- "," dim
unfoldable pub another_dim : List Dim → Grammar (List Dim)
another_dim found = do
  comma ← one (marked s.Comma)
  d ← dim
  gives (found ++ d ∷ [])

unfoldable pub more_dims : List Dim → Grammar (List Dim)
more_dims = many (λ found. where_ true (another_dim found))

-- dim {"," dim}
unfoldable pub dims : Grammar (List Dim)
dims = do
  d ← dim
  more_dims (d ∷ [])

unfoldable pub bracketed_dims : Grammar (List Dim)
bracketed_dims = do
  open_ ← one (marked s.Open)
  found ← dims
  close ← one (marked s.Close)
  gives found

-- [ "(" dim {"," dim} ")" ]
unfoldable pub shape : Grammar (List Dim)
shape = bracketed_dims or gives []

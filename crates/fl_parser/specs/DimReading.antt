-- How dimensions are read.
use Rattle.std.specs.Prelude.{true, List, [], ◌∷◌, ◌++◌, Option, Some, None}
use Rattle.fl_ast.specs.declared.decl.Sign.{Sign}
use Rattle.fl_ast.specs.declared.decl.Factor.{Factor}
use Rattle.fl_ast.specs.declared.decl.Factor.TheVariants.{Lit, Minus, Scalar}
use Rattle.fl_ast.specs.declared.decl.Term.{Term}
use Rattle.fl_ast.specs.declared.decl.Bound.{Bound}
use Rattle.fl_ast.specs.declared.decl.Dim.{Dim}
use Rattle.parsing.specs.declared.symbol.Symbol.TheVariants as s
use Rattle.parsing.specs.declared.fault.Cause.TheVariants.{Expected}
use Rattle.parsing.specs.Terminal.{is, on, marked, names, name}
use Rattle.parsing.specs.Reading.{Parser, ◌>>=◌, pure, token, choose, loop}
use Rattle.fl_parser.specs.Terminals.{bound_number, bound_sign, is_bound_sign}
use Rattle.fl_parser.specs.Trees.{term_of, bound_of, dim_of}

unfoldable pub name_factor : Parser Factor
name_factor = do
  x ← token name
  pure (Scalar x.name)

unfoldable pub number_factor : Parser Factor
number_factor = do
  n ← token bound_number
  pure (Lit n.value)

unfoldable pub bound_factor : Parser Factor
bound_factor = choose (on names) name_factor number_factor

unfoldable pub second_factor : Parser (Option Factor)
second_factor = choose (is s.Star)
    (do
      star ← token (marked s.Star)
      f ← bound_factor
      pure (Some f))
    (pure None)

unfoldable pub bound_term : Parser Term
bound_term = do
  f ← bound_factor
  r ← second_factor
  pure (term_of f r)

unfoldable pub negative_term : Parser Term
negative_term = do
  minus ← token (marked s.Minus)
  n ← token bound_number
  r ← second_factor
  pure (term_of (Minus n.value) r)

unfoldable pub first_term : Parser Term
first_term = choose (is s.Minus) negative_term bound_term

unfoldable pub other_term : Parser (Option (Sign × Term))
other_term = choose is_bound_sign
    (do
      o ← token bound_sign
      t ← bound_term
      pure (Some (o, t)))
    (pure None)

unfoldable pub bound : Parser Bound
bound = do
  t ← first_term
  r ← other_term
  pure (bound_of t r)

unfoldable pub after_bound : Bound → Parser Dim
after_bound b = choose (is s.Colon)
    (do
      colon ← token (marked s.Colon)
      u ← bound
      pure (dim_of (Some b) u))
    (pure (dim_of None b))

unfoldable pub dim : Parser Dim
dim = do
  b ← bound
  after_bound b

unfoldable pub another_dim : List Dim → Parser (List Dim)
another_dim found = do
  comma ← token (marked s.Comma)
  d ← dim
  pure (found ++ d ∷ [])

unfoldable pub more_dims : List Dim → Parser (List Dim)
more_dims = loop (is s.Comma) (λ found. true) Expected another_dim

unfoldable pub dims : Parser (List Dim)
dims = do
  d ← dim
  more_dims (d ∷ [])

unfoldable pub bracketed_dims : Parser (List Dim)
bracketed_dims = do
  open_ ← token (marked s.Open)
  found ← dims
  close ← token (marked s.Close)
  pure found

unfoldable pub shape : Parser (List Dim)
shape = choose (is s.Open) bracketed_dims (pure [])

-- The trees of expressions, with their depths.
use Rattle.std.specs.Prelude.{ℕ, ◌+◌, ◌==◌, max, cond, List, [], ◌∷◌, ◌++◌, Bool, Option, Some, None}
use Rattle.fl_ast.specs.declared.kind.Kind.{Kind}
use Rattle.fl_ast.specs.declared.kind.Kind.TheVariants.{Index, Ring}
use Rattle.fl_ast.specs.declared.kind.BinOp.{BinOp}
use Rattle.fl_ast.specs.declared.kind.Fun.{Fun}
use Rattle.fl_ast.specs.declared.expr.Place.{Place}
use Rattle.fl_ast.specs.declared.expr.Expr.{Expr}
use Rattle.fl_ast.specs.declared.expr.Expr.TheVariants.{Lit, Get, Neg, Bin, Pow, Call}
use Rattle.parsing.specs.declared.cursor.Word.{Word}
use Rattle.parsing.specs.declared.cursor.Number.{Number}
use Rattle.parsing.specs.Limit.{Limit, allows}
use Rattle.fl_expressions.specs.declared.tree.Measured.{Measured}
use Rattle.fl_expressions.specs.declared.tree.Listed.{Listed}

-- the kind that the suffix of a number gives it
abbrev pub kind_of : Option ℕ → Kind
kind_of (Some n) = cond (n == 8) Ring Index
kind_of None = Index

abbrev pub literal : Number → Measured
literal n = record { expr = Lit n.value (kind_of n.suffix); depth = 1 }

-- the place of a scalar
abbrev pub place_of : List ℕ → Place
place_of name = record { name = name; subscripts = [] }

abbrev pub scalar : Word → Measured
scalar w = record { expr = Get (place_of w.name); depth = 1 }

abbrev pub negation : Measured → Measured
negation e = record { expr = Neg e.expr; depth = e.depth + 1 }

abbrev pub binary : BinOp → Measured → Measured → Measured
binary op l r = record { expr = Bin op l.expr r.expr; depth = max l.depth r.depth + 1 }

abbrev pub power : Measured → Number → Measured
power e n = record { expr = Pow e.expr n.value; depth = e.depth + 1 }

-- several expressions, and the depth of the deepest
abbrev pub no_exprs : Listed
no_exprs = record { exprs = []; depth = 0 }

abbrev pub one_more : Listed → Measured → Listed
one_more l e = record { exprs = l.exprs ++ e.expr ∷ []; depth = max l.depth e.depth }

abbrev pub place_at : List ℕ → List Expr → Place
place_at name subscripts = record { name = name; subscripts = subscripts }

abbrev pub element : Word → Listed → Measured
element w l = record { expr = Get (place_at w.name l.exprs); depth = l.depth + 1 }

abbrev pub call_of : Fun → Listed → Measured
call_of f l = record { expr = Call f l.exprs; depth = l.depth + 1 }

-- whether the tree may stand left in an operation, whose tree has so many levels beneath its root
abbrev pub may_stand_left : Limit → Measured → Bool
may_stand_left d e = allows d e.depth

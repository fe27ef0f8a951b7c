-- Resolved trees: the plain tree that each stands for, with the names of a layout for its slots.
use Rattle.std.specs.Prelude.{ℕ, Bool, true, ◌&&◌, nat_lt, List, [], ◌∷◌, map, Option, Some, None, slice_get, is_some}
use Rattle.fl_ast.specs.Tree.{Expression, literal, get, minus, binary, power, call, Expressions, no_expressions, expression, expressions_of, Designator, Condition, relation, negation, conjunction, disjunction}
use Rattle.store_core.specs.declared.layout.Shape.{Shape}
use Rattle.store_core.specs.Keys.{slot_of}
use Rattle.resolved.specs.declared.resolved.ResolvedExpr.{ResolvedExpr, fold-ResolvedExpr}
use Rattle.resolved.specs.declared.resolved.ResolvedPlace.{ResolvedPlace, fold-ResolvedPlace}
use Rattle.resolved.specs.declared.resolved.ResolvedExpr.TheOpen.{ResolvedExpr-F, ResolvedPlace-F}
use Rattle.resolved.specs.declared.resolved.ResolvedCond.{ResolvedCond, fold-ResolvedCond}
use Rattle.resolved.specs.declared.resolved.ResolvedCond.TheOpen.{ResolvedCond-F}

abbrev pub shape_name : Option Shape → List ℕ
shape_name None = []
shape_name (Some s) = s.name

-- the name of a slot
abbrev pub slot_name : List Shape → ℕ → List ℕ
slot_name shapes slot = shape_name (slice_get shapes slot)

abbrev pub place_level : List Shape → ResolvedPlace-F Expression Designator → Designator
place_level shapes p = record { name = slot_name shapes p.slot; subscripts = expressions_of p.subscripts }

abbrev pub expression_level : ResolvedExpr-F Expression Designator → Expression
expression_level (ResolvedExpr-F.Lit word kind) = literal word kind
expression_level (ResolvedExpr-F.Get p) = get p.name p.subscripts
expression_level (ResolvedExpr-F.Neg a) = minus a
expression_level (ResolvedExpr-F.Bin op a b) = binary op a b
expression_level (ResolvedExpr-F.Pow a n) = power a n
expression_level (ResolvedExpr-F.Call f args) = call f (expressions_of args)

-- the expression that a resolved one stands for
abbrev pub expression_back : List Shape → ResolvedExpr → Expression
expression_back shapes = fold-ResolvedExpr Expression Designator expression_level (place_level shapes)

abbrev pub place_back : List Shape → ResolvedPlace → Designator
place_back shapes = fold-ResolvedPlace Expression Designator expression_level (place_level shapes)

abbrev pub expressions_back : List Shape → List ResolvedExpr → Expressions
expressions_back shapes exprs = expressions_of (map (expression_back shapes) exprs)

abbrev pub condition_level : List Shape → ResolvedCond-F Condition → Condition
condition_level shapes (ResolvedCond-F.Rel op a b) = relation op (expression_back shapes a) (expression_back shapes b)
condition_level shapes (ResolvedCond-F.Not a) = negation a
condition_level shapes (ResolvedCond-F.And a b) = conjunction a b
condition_level shapes (ResolvedCond-F.Or a b) = disjunction a b

abbrev pub condition_back : List Shape → ResolvedCond → Condition
condition_back shapes = fold-ResolvedCond Condition (condition_level shapes)

-- ---- all slots are the layout's

abbrev pub all_of : List Bool → Bool
all_of [] = true
all_of (b ∷ bs) = b && all_of bs

abbrev pub place_within : ℕ → ResolvedPlace-F Bool Bool → Bool
place_within n p = nat_lt p.slot n && all_of p.subscripts

abbrev pub expression_within : ResolvedExpr-F Bool Bool → Bool
expression_within (ResolvedExpr-F.Lit word kind) = true
expression_within (ResolvedExpr-F.Get p) = p
expression_within (ResolvedExpr-F.Neg a) = a
expression_within (ResolvedExpr-F.Bin op a b) = a && b
expression_within (ResolvedExpr-F.Pow a n) = a
expression_within (ResolvedExpr-F.Call f args) = all_of args

abbrev pub is_within : ℕ → ResolvedExpr → Bool
is_within n = fold-ResolvedExpr Bool Bool expression_within (place_within n)

abbrev pub is_place_within : ℕ → ResolvedPlace → Bool
is_place_within n = fold-ResolvedPlace Bool Bool expression_within (place_within n)

abbrev pub are_within : ℕ → List ResolvedExpr → Bool
are_within n exprs = all_of (map (is_within n) exprs)

abbrev pub condition_within : ℕ → ResolvedCond-F Bool → Bool
condition_within n (ResolvedCond-F.Rel op a b) = is_within n a && is_within n b
condition_within n (ResolvedCond-F.Not a) = a
condition_within n (ResolvedCond-F.And a b) = a && b
condition_within n (ResolvedCond-F.Or a b) = a && b

abbrev pub is_condition_within : ℕ → ResolvedCond → Bool
is_condition_within n = fold-ResolvedCond Bool (condition_within n)

-- ---- all names of an expression have slots

abbrev mutual
  pub is_placed : List Shape → Expression → Bool
  is_placed shapes (literal n k) = true
  is_placed shapes (get x s) = is_some (slot_of shapes x) && are_placed shapes s
  is_placed shapes (minus a) = is_placed shapes a
  is_placed shapes (binary o a b) = is_placed shapes a && is_placed shapes b
  is_placed shapes (power a n) = is_placed shapes a
  is_placed shapes (call f s) = are_placed shapes s

  pub are_placed : List Shape → Expressions → Bool
  are_placed shapes no_expressions = true
  are_placed shapes (expression a s) = is_placed shapes a && are_placed shapes s

abbrev pub is_designator_placed : List Shape → Designator → Bool
is_designator_placed shapes p = is_some (slot_of shapes p.name) && are_placed shapes p.subscripts

abbrev pub is_condition_placed : List Shape → Condition → Bool
is_condition_placed shapes (relation o a b) = is_placed shapes a && is_placed shapes b
is_condition_placed shapes (negation a) = is_condition_placed shapes a
is_condition_placed shapes (conjunction a b) = is_condition_placed shapes a && is_condition_placed shapes b
is_condition_placed shapes (disjunction a b) = is_condition_placed shapes a && is_condition_placed shapes b

-- The tokens that expressions, conditions, declarations and directives are printed as, with their spacing.
use Rattle.std.specs.Prelude.{ℕ, Bool, true, false, not, ◌&&◌, ◌==◌, if◌then◌else◌, List, [], ◌∷◌, ◌++◌, Option, Some, None, codes, decimal}
use Rattle.fl_ast.specs.declared.kind.Kind.{Kind}
use Rattle.fl_ast.specs.declared.kind.Kind.TheVariants as kind
use Rattle.fl_ast.specs.declared.kind.Intent.{Intent}
use Rattle.fl_ast.specs.declared.kind.Intent.TheVariants as intent
use Rattle.fl_ast.specs.declared.kind.BinOp.{BinOp}
use Rattle.fl_ast.specs.declared.kind.BinOp.TheVariants as op
use Rattle.fl_ast.specs.declared.kind.RelOp.{RelOp}
use Rattle.fl_ast.specs.declared.kind.RelOp.TheVariants as rel
use Rattle.fl_ast.specs.declared.kind.Fun.{Fun}
use Rattle.fl_ast.specs.declared.kind.Fun.TheVariants as fun
use Rattle.fl_ast.specs.declared.decl.Sign.{Sign}
use Rattle.fl_ast.specs.declared.decl.Sign.TheVariants as sign
use Rattle.fl_ast.specs.declared.decl.Factor.{Factor}
use Rattle.fl_ast.specs.declared.decl.Factor.TheVariants as factor
use Rattle.fl_ast.specs.declared.decl.Term.{Term}
use Rattle.fl_ast.specs.declared.decl.Bound.{Bound}
use Rattle.fl_ast.specs.declared.decl.Dim.{Dim}
use Rattle.fl_ast.specs.declared.decl.Decl.{Decl}
use Rattle.fl_ast.specs.declared.directive.ScheduleKind.{ScheduleKind}
use Rattle.fl_ast.specs.declared.directive.ScheduleKind.TheVariants as schedule
use Rattle.fl_ast.specs.declared.directive.Directive.{Directive}
use Rattle.fl_ast.specs.Tree.{Expression, literal, get, minus, binary, power, call, Expressions, no_expressions, expression, Designator, Condition, relation, negation, conjunction, disjunction}
use Rattle.fl_ast.specs.AdjointTree.{AdjointExpression, adjoint_literal, adjoint_get, adjoint_minus, adjoint_binary, adjoint_power, adjoint_call, merge, AdjointExpressions, no_adjoint_expressions, adjoint_expression}
use Rattle.fl_printer.specs.declared.spaced.Spaced.{Spaced}

abbrev pub spaced : Bool → List ℕ → Spaced
spaced blank text = record { blank = blank; text = text }

-- a token right behind the one before it
abbrev pub joined : List ℕ → Spaced
joined text = spaced false text

-- a token with a blank before it
abbrev pub apart : List ℕ → Spaced
apart text = spaced true text

-- ---- signs and names

abbrev pub operator_text : BinOp → List ℕ
operator_text op.Add = codes "+"
operator_text op.Sub = codes "-"
operator_text op.Mul = codes "*"
operator_text op.Div = codes "/"

abbrev pub relation_text : RelOp → List ℕ
relation_text rel.Eq = codes "=="
relation_text rel.Ne = codes "/="
relation_text rel.Lt = codes "<"
relation_text rel.Le = codes "<="
relation_text rel.Gt = codes ">"
relation_text rel.Ge = codes ">="

abbrev pub function_text : Fun → List ℕ
function_text fun.Max = codes "max"
function_text fun.Min = codes "min"
function_text fun.Abs = codes "abs"
function_text fun.Mod = codes "mod"

-- data carries the suffix `_8` at any size
abbrev pub suffix_text : Kind → List ℕ
suffix_text kind.Index = []
suffix_text kind.Ring = codes "_8"

abbrev pub literal_text : ℕ → Kind → List ℕ
literal_text value kind = decimal value ++ suffix_text kind

-- ---- lists

abbrev pub comma_if : Bool → List Spaced
comma_if later = if later then joined (codes ",") ∷ [] else []

-- names, with a comma before all but the first
abbrev pub names_from : Bool → Bool → List (List ℕ) → List Spaced
names_from later blank [] = []
names_from later blank (x ∷ xs) = comma_if later ++ spaced blank x ∷ names_from true true xs

-- names in brackets
abbrev pub bracketed_names : List (List ℕ) → List Spaced
bracketed_names xs = joined (codes "(") ∷ (names_from false false xs ++ joined (codes ")") ∷ [])

-- ---- expressions

-- An operand stands in brackets, and what it begins with has the blank before the bracket.
abbrev pub opening : Bool → Bool → List Spaced
opening operand blank = if operand then spaced blank (codes "(") ∷ [] else []

abbrev pub inside : Bool → Bool → Bool
inside operand blank = blank && not operand

abbrev pub closing : Bool → List Spaced
closing operand = if operand then joined (codes ")") ∷ [] else []

-- the sign of a negation, and an exponent
abbrev pub sign_words : Bool → Bool → List Spaced
sign_words operand blank = opening operand blank ++ spaced (inside operand blank) (codes "-") ∷ []

abbrev pub raised_words : Bool → ℕ → List Spaced
raised_words operand exponent = joined (codes "**") ∷ joined (decimal exponent) ∷ closing operand

-- An expression, as an operand or whole, with a blank before it or not. Literals, places and calls need no brackets.
abbrev mutual
  pub expression_words : Bool → Bool → Expression → List Spaced
  expression_words operand blank (literal value kind) = spaced blank (literal_text value kind) ∷ []
  expression_words operand blank (get name subscripts) = spaced blank name ∷ subscript_words subscripts
  expression_words operand blank (minus a) =
      opening operand blank ++ (spaced (inside operand blank) (codes "-") ∷ (expression_words true false a ++ closing operand))
  expression_words operand blank (binary o a b) =
      opening operand blank ++ (expression_words true (inside operand blank) a ++ (joined (operator_text o) ∷ (expression_words true false b ++ closing operand)))
  expression_words operand blank (power a exponent) =
      opening operand blank ++ (expression_words true (inside operand blank) a ++ (joined (codes "**") ∷ joined (decimal exponent) ∷ closing operand))
  expression_words operand blank (call f args) =
      spaced blank (function_text f) ∷ joined (codes "(") ∷ (expressions_from false args ++ joined (codes ")") ∷ [])

  -- a scalar has none
  pub subscript_words : Expressions → List Spaced
  subscript_words no_expressions = []
  subscript_words (expression a rest) =
      joined (codes "(") ∷ ((expression_words false false a ++ expressions_from true rest) ++ joined (codes ")") ∷ [])

  -- with a comma before all but the first
  pub expressions_from : Bool → Expressions → List Spaced
  expressions_from later no_expressions = []
  expressions_from later (expression a rest) = comma_if later ++ (expression_words false later a ++ expressions_from true rest)

-- expressions in brackets
abbrev pub bracketed_words : Expressions → List Spaced
bracketed_words args = joined (codes "(") ∷ (expressions_from false args ++ joined (codes ")") ∷ [])

abbrev pub place_words : Bool → Designator → List Spaced
place_words blank p = spaced blank p.name ∷ subscript_words p.subscripts

-- The value of an atomic update: the left operands of a chain of sums have no brackets (OpenMP 5.2, 15.8.4).
abbrev pub sum_words : Bool → Bool → Expression → List Spaced
sum_words operand blank (binary op.Add a b) = sum_words true blank a ++ (joined (codes "+") ∷ expression_words true false b)
sum_words operand blank e = expression_words operand blank e

-- ---- conditions

abbrev pub condition_words : Bool → Bool → Condition → List Spaced
condition_words operand blank (relation o a b) =
    opening operand blank ++ (expression_words true (inside operand blank) a ++ (apart (relation_text o) ∷ (expression_words true true b ++ closing operand)))
condition_words operand blank (negation a) =
    opening operand blank ++ (spaced (inside operand blank) (codes ".not.") ∷ (condition_words true true a ++ closing operand))
condition_words operand blank (conjunction a b) =
    opening operand blank ++ (condition_words true (inside operand blank) a ++ (apart (codes ".and.") ∷ (condition_words true true b ++ closing operand)))
condition_words operand blank (disjunction a b) =
    opening operand blank ++ (condition_words true (inside operand blank) a ++ (apart (codes ".or.") ∷ (condition_words true true b ++ closing operand)))

-- ---- expressions of adjoints

abbrev mutual
  pub adjoint_words : Bool → Bool → AdjointExpression → List Spaced
  adjoint_words operand blank (adjoint_literal value kind) = spaced blank (literal_text value kind) ∷ []
  adjoint_words operand blank (adjoint_get p) = place_words blank p
  adjoint_words operand blank (adjoint_minus a) =
      opening operand blank ++ (spaced (inside operand blank) (codes "-") ∷ (adjoint_words true false a ++ closing operand))
  adjoint_words operand blank (adjoint_binary o a b) =
      opening operand blank ++ (adjoint_words true (inside operand blank) a ++ (joined (operator_text o) ∷ (adjoint_words true false b ++ closing operand)))
  adjoint_words operand blank (adjoint_power a exponent) =
      opening operand blank ++ (adjoint_words true (inside operand blank) a ++ (joined (codes "**") ∷ joined (decimal exponent) ∷ closing operand))
  adjoint_words operand blank (adjoint_call f args) =
      spaced blank (function_text f) ∷ joined (codes "(") ∷ (adjoints_from false args ++ joined (codes ")") ∷ [])
  adjoint_words operand blank (merge a b test) =
      spaced blank (codes "merge") ∷ joined (codes "(") ∷ (adjoint_words false false a ++ (joined (codes ",") ∷ (adjoint_words false true b
      ++ (joined (codes ",") ∷ (condition_words false true test ++ joined (codes ")") ∷ [])))))

  pub adjoints_from : Bool → AdjointExpressions → List Spaced
  adjoints_from later no_adjoint_expressions = []
  adjoints_from later (adjoint_expression a rest) = comma_if later ++ (adjoint_words false later a ++ adjoints_from true rest)

-- the parts of a `merge`, and expressions in brackets
abbrev pub merged_words : Bool → AdjointExpression → List Spaced
merged_words blank a = spaced blank (codes "merge") ∷ joined (codes "(") ∷ adjoint_words false false a

abbrev pub otherwise_words : AdjointExpression → List Spaced
otherwise_words b = joined (codes ",") ∷ adjoint_words false true b

abbrev pub tested_words : Condition → List Spaced
tested_words test = joined (codes ",") ∷ (condition_words false true test ++ joined (codes ")") ∷ [])

abbrev pub bracketed_adjoints : AdjointExpressions → List Spaced
bracketed_adjoints args = joined (codes "(") ∷ (adjoints_from false args ++ joined (codes ")") ∷ [])

abbrev pub adjoint_sum_words : Bool → Bool → AdjointExpression → List Spaced
adjoint_sum_words operand blank (adjoint_binary op.Add a b) = adjoint_sum_words true blank a ++ (joined (codes "+") ∷ adjoint_words true false b)
adjoint_sum_words operand blank e = adjoint_words operand blank e

-- ---- declarations, whose bounds hold no brackets

abbrev pub factor_words : Bool → Factor → List Spaced
factor_words blank (factor.Lit n) = spaced blank (decimal n) ∷ []
factor_words blank (factor.Minus n) = spaced blank (codes "-") ∷ joined (decimal n) ∷ []
factor_words blank (factor.Scalar x) = spaced blank x ∷ []

abbrev pub second_words : Option Factor → List Spaced
second_words None = []
second_words (Some f) = joined (codes "*") ∷ factor_words false f

abbrev pub term_words : Bool → Term → List Spaced
term_words blank t = factor_words blank t.first ++ second_words t.second

abbrev pub sign_text : Sign → List ℕ
sign_text sign.Plus = codes "+"
sign_text sign.Minus = codes "-"

abbrev pub rest_words : Option (Sign × Term) → List Spaced
rest_words None = []
rest_words (Some r) = joined (sign_text r.0) ∷ term_words false r.1

abbrev pub bound_words : Bool → Bound → List Spaced
bound_words blank b = term_words blank b.first ++ rest_words b.rest

abbrev pub range_words : Bool → Option Bound → Bound → List Spaced
range_words blank None upper = bound_words blank upper
range_words blank (Some lower) upper = bound_words blank lower ++ (joined (codes ":") ∷ bound_words false upper)

abbrev pub dims_from : Bool → List Dim → List Spaced
dims_from later [] = []
dims_from later (d ∷ ds) = comma_if later ++ (range_words later d.lower d.upper ++ dims_from true ds)

abbrev pub shape_words : List Dim → List Spaced
shape_words [] = []
shape_words (d ∷ ds) = joined (codes "(") ∷ (dims_from false (d ∷ ds) ++ joined (codes ")") ∷ [])

abbrev pub intent_text : Intent → List ℕ
intent_text intent.Unsaid = []
intent_text intent.ReadOnly = codes "in"
intent_text intent.WriteOnly = codes "out"
intent_text intent.Both = codes "inout"

abbrev pub intent_words : Intent → List Spaced
intent_words intent.Unsaid = []
intent_words i = joined (codes ",") ∷ apart (codes "intent") ∷ joined (codes "(") ∷ joined (intent_text i) ∷ joined (codes ")") ∷ []

-- the kind number is the size in bytes
abbrev pub kind_words : ℕ → List Spaced
kind_words bytes =
    joined (codes "integer") ∷ joined (codes "(") ∷ joined (codes "kind") ∷ joined (codes "=") ∷ joined (decimal bytes) ∷ joined (codes ")") ∷ []

abbrev pub decl_words : Decl → List Spaced
decl_words d = kind_words d.bytes ++ (intent_words d.intent ++ (apart (codes "::") ∷ apart d.name ∷ shape_words d.dims))

-- ---- directives, behind their sentinel

abbrev pub default_words : Bool → List Spaced
default_words none = if none then apart (codes "default") ∷ joined (codes "(") ∷ joined (codes "none") ∷ joined (codes ")") ∷ [] else []

-- a clause without names is absent
abbrev pub list_words : List ℕ → List (List ℕ) → List Spaced
list_words clause [] = []
list_words clause (x ∷ xs) = apart clause ∷ bracketed_names (x ∷ xs)

abbrev pub plus_words : List Spaced
plus_words = apart (codes "reduction") ∷ joined (codes "(") ∷ joined (codes "+") ∷ joined (codes ":") ∷ []

abbrev pub reduction_words : List (List ℕ) → List Spaced
reduction_words [] = []
reduction_words (x ∷ xs) = plus_words ++ (names_from false true (x ∷ xs) ++ joined (codes ")") ∷ [])

abbrev pub collapse_words : ℕ → List Spaced
collapse_words n = if n == 0 then [] else apart (codes "collapse") ∷ joined (codes "(") ∷ joined (decimal n) ∷ joined (codes ")") ∷ []

abbrev pub schedule_text : ScheduleKind → List ℕ
schedule_text schedule.Static = codes "static"
schedule_text schedule.Dynamic = codes "dynamic"
schedule_text schedule.Guided = codes "guided"
schedule_text schedule.Auto = codes "auto"
schedule_text schedule.Runtime = codes "runtime"

abbrev pub chunk_words : Option ℕ → List Spaced
chunk_words None = []
chunk_words (Some n) = joined (codes ",") ∷ apart (decimal n) ∷ []

abbrev pub schedule_words : Option (ScheduleKind × Option ℕ) → List Spaced
schedule_words None = []
schedule_words (Some s) =
    apart (codes "schedule") ∷ joined (codes "(") ∷ joined (schedule_text s.0) ∷ (chunk_words s.1 ++ joined (codes ")") ∷ [])

abbrev pub clause_words : Directive → List Spaced
clause_words d =
    default_words d.none ++ (list_words (codes "private") d.privates ++ (list_words (codes "firstprivate") d.firsts ++ (list_words (codes "shared") d.shareds
    ++ (reduction_words d.pluses ++ (collapse_words d.collapse ++ schedule_words d.schedule)))))

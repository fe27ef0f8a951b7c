-- The factors on the way to an occurrence.
use Rattle.std.specs.Prelude.{◌≡◌, Bool, true, ◌&&◌, List, [], ◌∷◌, ◌++◌, map, length, Option, Some, None}
use Rattle.std.specs.List.{list_all}
use Rattle.fl_ast.specs.declared.kind.Kind.TheVariants as kind
use Rattle.fl_ast.specs.declared.kind.RelOp.{RelOp}
use Rattle.fl_ast.specs.declared.kind.RelOp.TheVariants as rel
use Rattle.fl_ast.specs.declared.kind.Fun.{Fun}
use Rattle.fl_ast.specs.declared.kind.Fun.TheVariants as fun
use Rattle.fl_ast.specs.Tree.{literal, relation}
use Rattle.store_core.specs.declared.layout.Shape.{Shape}
use Rattle.resolved.specs.declared.resolved.ResolvedExpr.{ResolvedExpr}
use Rattle.resolved.specs.SlotTables.{Names}
use Rattle.resolved.specs.ResolvedExprs.{expression_back, is_within}
use Rattle.split_trees.specs.Codes.{is_kinded}
use Rattle.transposition.specs.Spread.{Factor, operand, either, power_factors, minus_one}
use Rattle.undo_steps.specs.UndoSteps.{FactorTree}
use Rattle.undo_steps.specs.UndosStand.{factor_back, is_factor_fit}
use Rattle.made_growths.specs.declared.path.Link.{Link}
use Rattle.made_growths.specs.declared.path.Link.TheVariants as link
use Rattle.made_growths.specs.declared.path.Path.{Path, fold-Path}
use Rattle.made_growths.specs.declared.path.Path.TheOpen.{Path-F}

-- what one node gives
abbrev pub factors_at : List Shape → Link → List Factor
factors_at shapes (link.Operand e) = operand (expression_back shapes e.now) ∷ []
factors_at shapes (link.Power e n) = power_factors (expression_back shapes e.now) n
factors_at shapes (link.Either one other op a b) = either one other (relation op (expression_back shapes a.now) (expression_back shapes b.now)) ∷ []
factors_at shapes (link.Absolute e) = either minus_one 1 (relation rel.Lt (expression_back shapes e.now) (literal 0 kind.Ring)) ∷ []

abbrev pub factors_level : List Shape → Path-F (List Factor) → List Factor
factors_level shapes Path-F.Start = []
factors_level shapes (Path-F.Then outer l) = outer.now ++ factors_at shapes l

abbrev pub factors_on : List Shape → Path → List Factor
factors_on shapes = fold-Path (List Factor) (factors_level shapes)

-- by which relation the first argument of a function is taken
abbrev pub relation_of : Fun → Option RelOp
relation_of fun.Max = Some rel.Ge
relation_of fun.Min = Some rel.Le
relation_of fun.Abs = None
relation_of fun.Mod = None

-- ---- what is split has to be well kinded

abbrev pub is_ready : Names → ResolvedExpr → Bool
is_ready names e = is_within (length names.0) e && is_kinded names (expression_back names.0 e)

abbrev pub is_link_ready : Names → Link → Bool
is_link_ready names (link.Operand e) = is_ready names e.now
is_link_ready names (link.Power e n) = is_ready names e.now
is_link_ready names (link.Either one other op a b) = is_ready names a.now && is_ready names b.now
is_link_ready names (link.Absolute e) = is_ready names e.now

abbrev pub ready_level : Names → Path-F Bool → Bool
ready_level names Path-F.Start = true
ready_level names (Path-F.Then outer l) = outer.now && is_link_ready names l

abbrev pub is_path_ready : Names → Path → Bool
is_path_ready names = fold-Path Bool (ready_level names)

-- ---- split factors

pub record FactorsStand (names : Names) (fs : List Factor) (trees : List FactorTree) : Type 0 where
  pub back : map (factor_back names.0) trees ≡ fs
  pub fit : list_all (is_factor_fit names) trees ≡ true

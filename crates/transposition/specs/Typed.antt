-- What well-kinded expressions give of the premises of the law.
use Rattle.std.specs.Prelude.{◌≡◌, true}
use Rattle.fl_ast.specs.Tree.{Expression}
use Rattle.fl_types.specs.Kinds.{Names, kind_of_expression, is_index_kind, is_well_kinded}
use Rattle.transposition.specs.Needs.{Kinded}
use Rattle.transposition.specs.Sound.{Literals, Whole}

pub record TypedExpression (names : Names) (e : Expression) : Type 0 where
  -- numbers of the ring kind are words
  pub literals : Literals e
  -- `max` and `min` are of operands of one kind
  pub kinds : Kinded names.ring e
  pub whole : is_index_kind (kind_of_expression names e) ≡ true → Whole names.ring e

abbrev pub WellKindedIsTyped : Type 0
WellKindedIsTyped = (names : Names) (e : Expression) → is_well_kinded names e ≡ true → TypedExpression names e

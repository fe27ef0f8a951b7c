use Rattle.std.proofs.Common.{subst, arith, map, ◌++◌, ◌∷◌, []}
use Rattle.fl_ast.specs.declared.kind.Kind.TheVariants.{Ring}
use Rattle.fl_ast.specs.Tree.{literal}
use Rattle.resolved.specs.ResolvedExprs.{expression_back}
use Rattle.transposition.specs.Spread.{operand}
use Rattle.undo_steps.specs.UndoSteps.{factor_tree}
use Rattle.made_growths.specs.Factors.{FactorsStand}
use Rattle.made_growths.proofs.Powers.{no_power, second_power, higher_power}
use Rattle.made_growths.proofs.factors.push_power_factors.Goals as goal

pub returns-then-exponent-eq0 : goal.returns-then-exponent-eq0
returns-then-exponent-eq0 c fs h =
    no_power c.args.table.now fs _ (expression_back c.args.table.now.0 c.args.base.now) c.args.exponent c.if-exponent-eq0.true (c.in_ok-push_word.ensures c.args.table.now fs h)

pub returns-then-exponent-eq2 : goal.returns-then-exponent-eq2
returns-then-exponent-eq2 c fs h =
    let s = c.args.table.now in
    let word = subst (λ m. FactorsStand s (fs ++ operand (literal m Ring) ∷ []) (map factor_tree c.push_word-2.new.factors)) c.from.ensures (c.in_ok-push_word-2.ensures s fs h) in
    second_power s fs _ (expression_back s.0 c.args.base.now) c.args.exponent c.if-exponent-eq2.true (c.in_ok-push_operand.ensures _ word)

pub returns : goal.returns
returns c fs h =
    let s = c.args.table.now in
    let word = subst (λ m. FactorsStand s (fs ++ operand (literal m Ring) ∷ []) (map factor_tree c.push_word-2.new.factors)) c.from.ensures (c.in_ok-push_word-2.ensures s fs h) in
    higher_power s fs _ (expression_back s.0 c.args.base.now) c.args.exponent _ (omega (arith, c.if-exponent-eq0.false)) (omega (arith, c.if-exponent-eq0.false, c.if-exponent-eq1.false, c.if-exponent-eq2.false))
    (c.in_ok-push_power.ensures _ word)

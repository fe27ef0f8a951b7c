use Rattle.std.proofs.Common.{◌≡◌, ◌++◌, rules, sym, subst, append_assoc, List, map}
use Rattle.transposition.specs.Spread.{Factor}
use Rattle.undo_steps.specs.UndoSteps.{factor_tree}
use Rattle.made_growths.specs.declared.path.Path.{the_lemmas as path_lemmas}
use Rattle.made_growths.specs.Factors.{factors_on, factors_at, FactorsStand}
use Rattle.made_growths.proofs.path.Path.+push_factors.Goals as goal

pub returns-in_ok-push_factors_at-in-Then : goal.returns-in_ok-push_factors_at-in-Then
returns-in_ok-push_factors_at-in-Then t c fs h =
    let s = c.args.table.now in
    let is : factors_on s.0 c.args.self.now ≡ factors_on s.0 c.in-Then.outer.now ++ factors_at s.0 c.in-Then.link = search (rules, path_lemmas) in
    subst (λ (l : List Factor). FactorsStand s (fs ++ l) (map factor_tree c.push_factors_at.new.factors)) (sym is)
    (subst (λ (l : List Factor). FactorsStand s l (map factor_tree c.push_factors_at.new.factors)) (append_assoc fs _ _) (c.in_ok-push_factors_at-in-Then.ensures _ (c.in_ok-push_factors-in-Then.ensures fs h)))

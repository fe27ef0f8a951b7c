use Rattle.std.proofs.Common.{rules, ◌≡◌, subst, List, [], ◌∷◌, ◌++◌, ◌+◌, map, take}
use Rattle.undo_steps.specs.declared.undo.Factor.{Factor}
use Rattle.undo_steps.specs.UndoSteps.{factor_tree}
use Rattle.sweep_evaluation.proofs.Doing.{taken_more, taken_all}
use Rattle.reverse_sweep.specs.Machine.{product}
use Rattle.reverse_state.specs.Holding.{Gives}
use Rattle.reverse_state.proofs.Joining.{gives_nothing}
use Rattle.reverse_run.proofs.Running.{gives_factor}
use Rattle.reverse_run.proofs.stores.product.Goals as goal

pub loop-each-init : goal.loop-each-init
loop-each-init g c = gives_nothing c.args.run.now c.args.start

pub loop-each-preserved : goal.loop-each-preserved
loop-each-preserved g c =
    let xs : List Factor = c.args.factors.now in
    let i = c.loop-each.each-index in
    let m : take (i + 1) xs ≡ take i xs ++ c.each-item.result ∷ [] = taken_more xs i c.each-item.result (search (rules)) c.each-item.is in
    rw (m, c.mul-product.ensures) (gives_factor c.args.run.now c.loop-each.run c.factor-word.new.run c.args.table.now (take i xs) c.each-item.result c.args.start c.loop-each.product c.factor-word.result c.loop-each.invariant c.factor-word.ensures)

pub returns : goal.returns
returns g c =
    let m : take c.loop-each.each-index c.args.factors.now ≡ c.args.factors.now = taken_all c.args.factors.now c.loop-each.each-index (search (rules)) in
    subst (λ (xs : List Factor). Gives c.args.run.now c.loop-each.run c.loop-each.product (product c.args.table.now c.args.run.now.shared (map factor_tree xs) c.args.start)) m c.loop-each.invariant

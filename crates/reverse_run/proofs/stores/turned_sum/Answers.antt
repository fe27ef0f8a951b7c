use Rattle.std.proofs.Common.{rules, ◌≡◌, subst, List, [], ◌∷◌, ◌++◌, ◌+◌, map, take}
use Rattle.sweep_steps.specs.declared.step.Term.{Term}
use Rattle.sweep_steps.specs.Steps.{term_tree}
use Rattle.sweep_evaluation.proofs.Doing.{taken_more, taken_all}
use Rattle.reverse_sweep.specs.Machine.{rest_sum}
use Rattle.reverse_state.specs.Holding.{Gives}
use Rattle.reverse_state.proofs.Joining.{gives_nothing}
use Rattle.reverse_run.proofs.Running.{gives_term}
use Rattle.reverse_run.proofs.stores.turned_sum.Goals as goal

pub loop-term-init : goal.loop-term-init
loop-term-init g c = subst (λ n. Gives c.args.run.now c.args.run.now n (rest_sum c.args.table.now c.args.run.now.shared (map term_tree (take 0 c.args.terms.now)) 0)) (search (rules)) (gives_nothing c.args.run.now 0)

pub loop-term-preserved : goal.loop-term-preserved
loop-term-preserved g c =
    let xs : List Term = c.args.terms.now in
    let i = c.loop-term.term-index in
    let m : take (i + 1) xs ≡ take i xs ++ c.term-item.result ∷ [] = taken_more xs i c.term-item.result (search (rules)) c.term-item.is in
    rw (m, c.without_term-sum.ensures) (gives_term c.args.run.now c.loop-term.run c.value-word.new.run c.args.table.now (take i xs) c.term-item.result 0 c.loop-term.sum c.value-word.result c.loop-term.invariant c.value-word.ensures)

pub returns : goal.returns
returns g c =
    let m : take c.loop-term.term-index c.args.terms.now ≡ c.args.terms.now = taken_all c.args.terms.now c.loop-term.term-index (search (rules)) in
    subst (λ (xs : List Term). Gives c.args.run.now c.loop-term.run c.loop-term.sum (rest_sum c.args.table.now c.args.run.now.shared (map term_tree xs) 0)) m c.loop-term.invariant

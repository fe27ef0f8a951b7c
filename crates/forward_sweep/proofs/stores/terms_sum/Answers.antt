use Rattle.std.proofs.Common.{rules, ◌≡◌, subst, ◌∙◌, List, [], ◌∷◌, ◌++◌, ◌+◌}
use Rattle.std.specs.Prelude.{take, map, refl}
use Rattle.sweep_steps.specs.declared.step.Term.{Term}
use Rattle.sweep_steps.specs.Steps.{term_tree}
use Rattle.sweep_evaluation.specs.Machine.{Does}
use Rattle.sweep_evaluation.proofs.Doing.{does_nothing, taken_more, taken_all}
use Rattle.forward_state.specs.Holding.{Holds}
use Rattle.forward_sweep.specs.Machine.{terms_sum}
use Rattle.forward_sweep.proofs.Joining.{does_term}
use Rattle.forward_sweep.proofs.stores.terms_sum.Goals as goal

pub loop-term-init : goal.loop-term-init
loop-term-init g c = record {
  so_far = subst (λ n. Does (λ f s. Holds f.run (g.W.Watch.stands_for f.watch) (g.W.Watch.places f.watch) g.W.Watch.judge s) (λ f. f.run.lost) c.args.run.now c.args.run.now n (terms_sum c.args.table.now (map term_tree (take 0 c.args.terms.now)) 0)) (search (rules)) (does_nothing (λ f s. Holds f.run (g.W.Watch.stands_for f.watch) (g.W.Watch.places f.watch) g.W.Watch.judge s) (λ f. f.run.lost) c.args.run.now 0);
  ticks = refl;
}

pub loop-term-preserved : goal.loop-term-preserved
loop-term-preserved g c =
    let xs : List Term = c.args.terms.now in
    let i = c.loop-term.term-index in
    let m : take (i + 1) xs ≡ take i xs ++ c.term-item.result ∷ [] = taken_more xs i c.term-item.result (search (rules)) c.term-item.is in
    record {
      so_far = rw (m, c.with_term-sum.ensures) (does_term (λ f s. Holds f.run (g.W.Watch.stands_for f.watch) (g.W.Watch.places f.watch) g.W.Watch.judge s) (λ f. f.run.lost) c.args.run.now c.loop-term.run c.ring-word.new.access c.args.table.now (take i xs) c.term-item.result 0 c.loop-term.sum c.ring-word.result c.loop-term.invariant.so_far c.ring-word.ensures.does);
      ticks = c.ring-word.ensures.steady ∙ c.loop-term.invariant.ticks;
    }

pub returns-clause-does : goal.returns-clause-does
returns-clause-does g c =
    let w : take c.loop-term.term-index c.args.terms.now ≡ c.args.terms.now = taken_all c.args.terms.now c.loop-term.term-index (search (rules)) in
    subst (λ (ys : List Term). Does (λ f s. Holds f.run (g.W.Watch.stands_for f.watch) (g.W.Watch.places f.watch) g.W.Watch.judge s) (λ f. f.run.lost) c.args.run.now c.loop-term.run c.loop-term.sum (terms_sum c.args.table.now (map term_tree ys) 0)) w c.loop-term.invariant.so_far

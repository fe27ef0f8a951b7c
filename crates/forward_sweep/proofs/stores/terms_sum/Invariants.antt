use Rattle.std.specs.Prelude.{take, map, ◌≡◌}
use Rattle.sweep_steps.specs.Steps.{term_tree}
use Rattle.sweep_evaluation.specs.Machine.{Does}
use Rattle.forward_state.specs.Holding.{Holds, ticks_of}
use Rattle.forward_sweep.specs.Machine.{terms_sum}
use Rattle.forward_sweep.proofs.stores.terms_sum.Given as goal

abbrev pub invariant-loop-term : goal.invariant-loop-term
invariant-loop-term g l = record {
  so_far : Does (λ f s. Holds f.run (g.W.Watch.stands_for f.watch) (g.W.Watch.places f.watch) g.W.Watch.judge s) (λ f. f.run.lost) l.initial.run l.run l.sum (terms_sum l.table (map term_tree (take l.term-index l.terms)) 0);
  ticks : ticks_of l.run.run ≡ ticks_of l.initial.run.run;
}

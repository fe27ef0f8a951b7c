use Rattle.std.proofs.Common.{Some}
use Rattle.sweep_steps.specs.Steps.{head_tree}
use Rattle.sweep_evaluation.specs.Machine.{ran}
use Rattle.sweep_evaluation.proofs.Doing.{does_both, does_nothing}
use Rattle.forward_state.specs.Holding.{Holds}
use Rattle.forward_sweep.specs.Machine.{head_run}
use Rattle.forward_sweep.proofs.heads.inner_run.Goals as goal

pub returns-in-Some-clause-does : goal.returns-in-Some-clause-does
returns-in-Some-clause-does g c =
    rw c.in-Some.is (does_both (head_run c.args.table.now (head_tree c.in-Some.head)) (λ t. ran (Some (c.in-Some.head.place, t))) c.head_run-turns.ensures.does (does_nothing (λ f s. Holds f.run (g.W.Watch.stands_for f.watch) (g.W.Watch.places f.watch) g.W.Watch.judge s) (λ f. f.run.lost) c.head_run-turns.new.run (Some (c.in-Some.head.place, c.head_run-turns.result))))

use Rattle.std.proofs.Common.{subst}
use Rattle.dual_evaluation.proofs.Counts.{computed}
use Rattle.forward_state.specs.Holding.{Leaves}
use Rattle.forward_state.specs.Steps.{number_set}
use Rattle.forward_sweep.proofs.rounds.set_variable.Goals as goal

pub returns-clause-left : goal.returns-clause-left
returns-clause-left g c =
    subst (λ z. Leaves c.args.run.now.run c.set_turn.new.run.run (g.W.Watch.stands_for c.args.run.now.watch) (g.W.Watch.stands_for c.set_turn.new.run.watch) (g.W.Watch.places c.args.run.now.watch) (g.W.Watch.places c.set_turn.new.run.watch) g.W.Watch.judge (number_set c.args.place z))
    (computed c.args.turns.first c.args.turns.step c.args.turn c.requires.numbers.first c.requires.numbers.step) c.set_turn.ensures.left

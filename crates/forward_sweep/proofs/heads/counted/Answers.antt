use Rattle.std.proofs.Common.{sym, subst}
use Rattle.std.specs.Prelude.{refl}
use Rattle.sweep_evaluation.specs.Machine.{Does}
use Rattle.forward_state.specs.Holding.{Holds}
use Rattle.forward_sweep.specs.Machine.{counted}
use Rattle.forward_sweep.proofs.Bounds.{no_turns_counted, turns_fit, zero_of, no_turns_fit}
use Rattle.forward_sweep.proofs.heads.counted.Goals as goal

pub returns-then-is_zero-clause-does : goal.returns-then-is_zero-clause-does
returns-then-is_zero-clause-does g c =
    subst (λ t. Does (λ f s. Holds f.run (g.W.Watch.stands_for f.watch) (g.W.Watch.places f.watch) g.W.Watch.judge s) (λ f. f.run.lost) c.args.run.now c.stop.new.self t (counted c.args.first c.args.last c.args.step)) (sym c.turns.ensures.value)
    (no_turns_counted (λ f s. Holds f.run (g.W.Watch.stands_for f.watch) (g.W.Watch.places f.watch) g.W.Watch.judge s) (λ f. f.run.lost) c.args.run.now c.stop.new.self c.stop.result c.args.first c.args.last c.args.step c.args.first c.args.last c.args.step refl refl refl
    (zero_of c.is_zero.result c.args.step c.if-is_zero.true c.is_zero.ensures) c.stop.ensures.does)

pub returns-then-is_zero-clause-fits : goal.returns-then-is_zero-clause-fits
returns-then-is_zero-clause-fits g c = no_turns_fit c.turns.result c.args.first c.args.last c.args.step c.turns.ensures.value c.turns.ensures.first c.turns.ensures.last c.turns.ensures.step

pub returns-clause-fits : goal.returns-clause-fits
returns-clause-fits g c = turns_fit c.turns-2.result c.args.first c.args.last c.args.step c.count_between-count.result c.turns-2.ensures.value c.turns-2.ensures.first c.turns-2.ensures.last c.turns-2.ensures.step c.count_between-count.ensures

use Rattle.std.proofs.Common.{refl}
use Rattle.forward_sweep.proofs.Bounds.{turns_fit}
use Rattle.reverse_run.proofs.Bounding.{bounds_given}
use Rattle.reverse_run.proofs.bounds.bounds.Goals as goal

pub returns-clause-gives : goal.returns-clause-gives
returns-clause-gives g c =
    bounds_given c.args.run.now c.pop.new.self c.pop-2.new.self c.pop-3.new.self c.pop.result c.pop-2.result c.pop-3.result c.narrow-first.result c.narrow-last.result c.narrow-step.result c.turns_of.result
    c.narrow-step.ensures c.narrow-last.ensures c.narrow-first.ensures c.turns_of.ensures.turns c.pop.ensures c.pop-2.ensures c.pop-3.ensures

pub returns-clause-fits : goal.returns-clause-fits
returns-clause-fits g c =
    turns_fit c.turns_of.result c.narrow-first.result c.narrow-last.result c.narrow-step.result _ c.turns_of.ensures.turns c.turns_of.ensures.first c.turns_of.ensures.last c.turns_of.ensures.step refl

use Rattle.std.proofs.Common.{rules, ◌≡◌, subst, List, [], ◌∷◌, ◌++◌, ◌+◌, map, take}
use Rattle.undo_steps.specs.declared.undo.Growth.{Growth}
use Rattle.undo_steps.specs.UndoSteps.{growth_tree}
use Rattle.sweep_evaluation.proofs.Doing.{taken_more, taken_all}
use Rattle.reverse_sweep.specs.Machine.{growths_run}
use Rattle.reverse_state.specs.Holding.{Leaves}
use Rattle.reverse_state.proofs.Joining.{leaves_all}
use Rattle.reverse_run.proofs.Running.{leaves_growth}
use Rattle.reverse_run.proofs.stores.grow_all.Goals as goal

pub loop-growth-init : goal.loop-growth-init
loop-growth-init g c = leaves_all c.args.run.now

pub loop-growth-preserved : goal.loop-growth-preserved
loop-growth-preserved g c =
    let xs : List Growth = c.args.growths.now in
    let i = c.loop-growth.growth-index in
    let m : take (i + 1) xs ≡ take i xs ++ c.growth-item.result ∷ [] = taken_more xs i c.growth-item.result (search (rules)) c.growth-item.is in
    rw m (leaves_growth c.args.run.now c.loop-growth.run c.grow.new.run c.args.table.now c.args.adjoint (take i xs) c.growth-item.result c.loop-growth.invariant c.grow.ensures)

pub returns : goal.returns
returns g c =
    let m : take c.loop-growth.growth-index c.args.growths.now ≡ c.args.growths.now = taken_all c.args.growths.now c.loop-growth.growth-index (search (rules)) in
    subst (λ (xs : List Growth). Leaves c.args.run.now c.loop-growth.run (growths_run c.args.table.now c.args.run.now.shared c.args.adjoint (map growth_tree xs))) m c.loop-growth.invariant

use Rattle.std.proofs.Common.{subst, List}
use Rattle.std.specs.Prelude.{map}
use Rattle.sweep_trees.specs.Split.{spot_tree}
use Rattle.split_trees.specs.Codes.{code_tree}
use Rattle.sweep_steps.specs.declared.step.Term.{Term}
use Rattle.sweep_steps.specs.Steps.{term_tree}
use Rattle.forward_state.specs.Holding.{Leaves}
use Rattle.forward_state.specs.Steps.{on_line}
use Rattle.forward_state.proofs.Noting.{leaves_both}
use Rattle.forward_sweep.specs.Machine.{assign_run, update_run}
use Rattle.forward_sweep.proofs.stores.run_store.Goals as goal

pub returns-in-Assign-clause-left : goal.returns-in-Assign-clause-left
returns-in-Assign-clause-left g c =
    rw c.in-Assign.is (leaves_both (on_line c.in-Assign.line) (assign_run c.args.table.now c.in-Assign.pushes (spot_tree c.in-Assign.target) (code_tree c.in-Assign.value)) c.at_line.ensures.left c.assign.ensures.left)

pub returns-in-Update-clause-left : goal.returns-in-Update-clause-left
returns-in-Update-clause-left g c =
    rw c.in-Update.is (leaves_both (on_line c.in-Update.line) (update_run c.args.table.now c.in-Update.kind (spot_tree c.in-Update.target) (map term_tree c.in-Update.terms))
    c.at_line-in-Update.ensures.left (subst (λ (ts : List Term). Leaves c.at_line-in-Update.new.self.run c.update.new.run.run (g.W.Watch.stands_for c.at_line-in-Update.new.self.watch) (g.W.Watch.stands_for c.update.new.run.watch) (g.W.Watch.places c.at_line-in-Update.new.self.watch) (g.W.Watch.places c.update.new.run.watch) g.W.Watch.judge (update_run c.args.table.now c.in-Update.kind (spot_tree c.in-Update.target) (map term_tree ts))) c.as_slice.ensures c.update.ensures.left))

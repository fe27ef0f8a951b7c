use Rattle.sweep_trees.specs.Split.{index_tree}
use Rattle.sweep_steps.specs.Steps.{option_tree}
use Rattle.sweep_evaluation.specs.Machine.{◌to◌, index_value}
use Rattle.sweep_evaluation.proofs.Doing.{does_both}
use Rattle.sweep_law.specs.Telling.{told}
use Rattle.forward_state.specs.Steps.{on_line}
use Rattle.forward_sweep.specs.Machine.{step_number, counted}
use Rattle.forward_sweep.proofs.Bounds.{leaves_does}
use Rattle.forward_sweep.proofs.heads.head_run.Goals as goal

pub returns-clause-does : goal.returns-clause-does
returns-clause-does g c =
    leaves_does (λ f. f.run) (λ f. g.W.Watch.stands_for f.watch) (λ f. g.W.Watch.places f.watch) g.W.Watch.judge c.args.run.now c.at_line.new.self c.counted.new.run c.counted.result (on_line c.args.head.now.line)
    (λ s. index_value told c.args.table.now (index_tree c.args.head.now.first) s to (λ a t. index_value told c.args.table.now (index_tree c.args.head.now.last) t to (λ b u. step_number c.args.table.now (option_tree c.args.head.now.step) u to (λ z. counted a b z))))
    c.at_line.ensures.left
    (does_both (index_value told c.args.table.now (index_tree c.args.head.now.first)) (λ a t. index_value told c.args.table.now (index_tree c.args.head.now.last) t to (λ b u. step_number c.args.table.now (option_tree c.args.head.now.step) u to (λ z. counted a b z))) c.index-first.ensures.does
    (does_both (index_value told c.args.table.now (index_tree c.args.head.now.last)) (λ b u. step_number c.args.table.now (option_tree c.args.head.now.step) u to (λ z. counted c.index-first.result b z)) c.index-last.ensures.does
    (does_both (step_number c.args.table.now (option_tree c.args.head.now.step)) (λ z. counted c.index-first.result c.index-last.result z) c.step_number-step.ensures.does c.counted.ensures.does)))

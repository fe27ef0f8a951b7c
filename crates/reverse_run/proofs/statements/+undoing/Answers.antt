use Rattle.std.proofs.Common.{rules, ◌≡◌, ◌-◌, ◌<◌, ◌≤◌, suc, ℕ, length, ap, subst, ◌∙◌, arith, List, slice_index_or}
use Rattle.sweep_steps.specs.declared.step.Flow.{the_lemmas as flow_lemmas}
use Rattle.undo_steps.specs.UndoSteps.{UndoArm, undo_trees, variable_places}
use Rattle.reverse_sweep.specs.Machine.{undos_run, turn_undone, variable_set, count_of, iteration_undone, iterations_undone}
use Rattle.reverse_state.specs.Holding.{Leaves, on_local}
use Rattle.reverse_state.proofs.Joining.{leaves_both}
use Rattle.reverse_run.specs.Undoing.{are_flat, is_within, counts_back, Works}
use Rattle.reverse_run.proofs.Turning.{fewer_left, none_left, works_more}
use Rattle.reverse_run.proofs.Undone.{step_flat, arm_flat, arm_chosen, other_chosen, iteration_worked, loop_worked}
use Rattle.reverse_run.proofs.statements.+undoing.Goals as goal

pub undo_all-undo_step-requires : goal.undo_all-undo_step-requires
undo_all-undo_step-requires g t c κs within = (
  search (rules, flow_lemmas),
  (within, step_flat c.args.run.now c.loop-i.run c.args.steps.now (c.loop-i.i - 1) c.index-steps-i.result c.requires.flat c.loop-i.invariant.before c.loop-i.invariant.keeps (search (rules)) c.index-steps-i.is),
)

pub undo_each_turn-loop-k-preserved : goal.undo_each_turn-loop-k-preserved
undo_each_turn-loop-k-preserved g t c =
    let n : c.loop-k.k ≡ suc (c.loop-k.k - 1) = omega (arith, c.loop-k-test.true) in
    fewer_left c.args.run.now c.loop-k.run c.undo_all.new.run c.loop-k.k (c.loop-k.k - 1) c.args.turns.now.count
    (λ n. turn_undone n c.args.place c.args.turns.now (undos_run c.args.table.now n (undo_trees c.args.body.now))) n c.loop-k.invariant
    (leaves_both {u = c.loop-k.run} {v = c.set_variable.new.run} {w = c.undo_all.new.run} (λ n. on_local (variable_set n c.args.place c.args.turns.now (c.loop-k.k - 1))) (λ n. undos_run c.args.table.now n (undo_trees c.args.body.now))
    c.set_variable.ensures c.undo_all.ensures)

pub undo_each_turn-returns : goal.undo_each_turn-returns
undo_each_turn-returns g t c =
    let n : c.loop-k.k ≡ 0 = omega (arith, c.loop-k-test.false) in
    none_left c.args.run.now c.loop-k.run c.loop-k.k c.args.turns.now.count (λ n. turn_undone n c.args.place c.args.turns.now (undos_run c.args.table.now n (undo_trees c.args.body.now))) n c.loop-k.invariant

pub undo_iteration-returns : goal.undo_iteration-returns
undo_iteration-returns g t c =
    iteration_worked c.args.run.now c.begin.new.self c.prepare.new.run c.undo_all.new.run c.close_sums.new.run c.args.table.now (counts_back c.args.rounds.now) c.args.k c.args.privates.now c.args.reductions.now (undo_trees c.args.body.now)
    c.begin.ensures c.prepare.ensures c.undo_all.ensures c.close_sums.ensures

pub undo_iterations-loop-k-preserved : goal.undo_iterations-loop-k-preserved
undo_iterations-loop-k-preserved g t c =
    works_more c.args.run.now c.loop-k.run c.undo_iteration.new.run c.loop-k.k
    (λ n m. iteration_undone n c.args.privates.now c.args.reductions.now (counts_back c.args.rounds.now) m.tapes (undos_run c.args.table.now n (undo_trees c.args.body.now)) m.entry) c.loop-k.invariant c.undo_iteration.ensures

pub undo_iterations-returns : goal.undo_iterations-returns
undo_iterations-returns g t c =
    let n : c.loop-k.k ≡ count_of (counts_back c.args.rounds.now) = search (rules) in
    subst (λ (j : ℕ). Works c.args.run.now c.loop-k.run (λ m. iterations_undone j (iteration_undone c.args.run.now.shared c.args.privates.now c.args.reductions.now (counts_back c.args.rounds.now) m.tapes
    (undos_run c.args.table.now c.args.run.now.shared (undo_trees c.args.body.now)) m.entry))) n c.loop-k.invariant

pub undo_parallel-returns : goal.undo_parallel-returns
undo_parallel-returns g t c =
    loop_worked c.args.run.now c.rounds_of-rounds.new.run c.enter.new.self c.undo_iterations.new.run c.quit.new.self c.args.table.now (variable_places c.args.variables) (counts_back c.rounds_of-rounds.result) c.args.privates.now c.args.reductions.now
    (undo_trees c.args.body.now) c.requires.outside c.rounds_of-rounds.ensures.gives c.enter.ensures c.undo_iterations.ensures c.quit.ensures

pub undo_step-undo_all-requires : goal.undo_step-undo_all-requires
undo_step-undo_all-requires g t c κs within =
    let h : c.pop-number.result < length c.in-If.arms = search (rules) in
    let e = subst (λ (xs : List UndoArm). c.index-arms-number.result ≡ slice_index_or xs c.pop-number.result c.index-arms-number.result) c.as_slice-arms.ensures c.index-arms-number.is in (
      search (rules, flow_lemmas),
      (
        within,
        λ l. ap (λ us. are_flat c.pop-number.new.self.shared (is_within c.pop-number.new.self) (undo_trees us)) c.as_slice.ensures
            ∙ arm_flat c.args.run.now c.pop-number.new.self c.args.step.now c.in-If.line c.in-If.arms c.in-If.other c.pop-number.result c.index-arms-number.result c.in-If.is c.requires.flat c.pop-number.ensures.before c.pop-number.ensures.keeps h e l,
      ),
    )

pub undo_step-returns-then-number-arms : goal.undo_step-returns-then-number-arms
undo_step-returns-then-number-arms g t c =
    let h : c.pop-number.result < length c.in-If.arms = search (rules) in
    let e = subst (λ (xs : List UndoArm). c.index-arms-number.result ≡ slice_index_or xs c.pop-number.result c.index-arms-number.result) c.as_slice-arms.ensures c.index-arms-number.is in
    let f = subst (λ us. Leaves c.pop-number.new.self c.undo_all.new.run (undos_run c.args.table.now c.pop-number.new.self.shared (undo_trees us))) c.as_slice.ensures c.undo_all.ensures in
    arm_chosen c.args.run.now c.pop-number.new.self c.undo_all.new.run c.args.table.now c.args.step.now c.in-If.line c.in-If.arms c.in-If.other c.pop-number.result c.index-arms-number.result c.in-If.is h e c.pop-number.ensures f

pub undo_step-returns-else-number-arms : goal.undo_step-returns-else-number-arms
undo_step-returns-else-number-arms g t c =
    let h : length c.in-If.arms ≤ c.pop-number.result = search (rules) in
    let f = subst (λ us. Leaves c.pop-number.new.self c.undo_all-else-number-arms.new.run (undos_run c.args.table.now c.pop-number.new.self.shared (undo_trees us))) c.as_slice-else-number-arms.ensures c.undo_all-else-number-arms.ensures in
    other_chosen c.args.run.now c.pop-number.new.self c.undo_all-else-number-arms.new.run c.args.table.now c.args.step.now c.in-If.line c.in-If.arms c.in-If.other c.pop-number.result c.in-If.is h c.pop-number.ensures f

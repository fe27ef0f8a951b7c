use Rattle.std.proofs.Common.{◌≡◌, ◌+◌, ◌≤◌, ◌∙◌, if◌then◌else◌, ap, sym, subst, arith, take, Some, [], ◌++◌, ◌∷◌, pos, List}
use Rattle.meaning.specs.declared.value.Value.TheVariants.{Index}
use Rattle.sweep_steps.specs.declared.step.PrivateScalar.{PrivateScalar}
use Rattle.sweep_steps.specs.Steps.{Step, StepArm, StepTree, head_tree, inner_tree, store_tree, around_tree, step_tree, step_trees, step_arm_trees}
use Rattle.sweep_evaluation.proofs.Doing.{taken_more}
use Rattle.forward_state.specs.Holding.{Leaves}
use Rattle.forward_state.specs.Steps.{begun, on_line, pushed, entered, in_iteration, left}
use Rattle.forward_state.proofs.Noting.{leaves_both, does_leaves}
use Rattle.forward_sweep.specs.Machine.{is_going, store_run, head_run, inner_run, variable_run, turns_run, words_run, one_turn, iteration_count, variables_run, unset_all, privates_run, one_iteration, bounds_of, further_bounds, further_words, iterations_run, loop_run, step_run, steps_run, arms_run}
use Rattle.forward_sweep.proofs.Turning.{leaves_as, leaves_next, leaves_over, turns_more, turns_ended, steps_more, steps_ended}
use Rattle.forward_sweep.proofs.Choosing.{store_is, if_is, loop_is, body_at, body_past, chosen_leaves}
use Rattle.forward_sweep.proofs.flow.+run.Goals as goal

pub run_arm-returns-clause-left : goal.run_arm-returns-clause-left
run_arm-returns-clause-left g t c =
    leaves_both (steps_run c.args.table.now (step_trees c.args.body.now)) (λ s. pushed s (Some (Index (pos c.args.number)))) c.run_steps.ensures.left c.push_number.ensures.left

-- ---- turns

pub run_turns-returns-then-is_over-clause-left : goal.run_turns-returns-then-is_over-clause-left
run_turns-returns-then-is_over-clause-left g t c =
    let i = c.loop-turn.turn in
    let n = c.args.turns.count in
    let f = one_turn (steps_run c.args.table.now (step_trees c.args.body.now)) c.args.place c.args.turns in
    let l : i ≤ n = omega arith in
    leaves_over (turns_run i 0 f) (turns_run n 0 f) c.loop-turn.invariant.so_far c.is_over.result c.is_over.ensures.over c.if-is_over.true (λ s e. turns_ended n i f s l e)

pub run_turns-loop-turn-preserved : goal.run_turns-loop-turn-preserved
run_turns-loop-turn-preserved g t c =
    let i = c.loop-turn.turn in
    let body = steps_run c.args.table.now (step_trees c.args.body.now) in
    let f = one_turn body c.args.place c.args.turns in
    let d : Leaves c.loop-turn.run.run c.run_steps.new.run.run (g.W.Watch.stands_for c.loop-turn.run.watch) (g.W.Watch.stands_for c.run_steps.new.run.watch) (g.W.Watch.places c.loop-turn.run.watch) (g.W.Watch.places c.run_steps.new.run.watch) g.W.Watch.judge (f i) =
    leaves_both (λ s. variable_run c.args.place c.args.turns i (begun s)) body (leaves_both begun (variable_run c.args.place c.args.turns i) c.begin.ensures.left c.set_variable.ensures.left) c.run_steps.ensures.left in
    record {
      so_far = leaves_as (λ s. let r = turns_run i 0 f s in if is_going r then f i r else r) (turns_run (i + 1) 0 f)
          (leaves_next (turns_run i 0 f) (f i) c.loop-turn.invariant.so_far c.is_over.result c.is_over.ensures.over c.if-is_over.false d) (λ s. turns_more i f s);
      ticks = omega (arith, c.loop-turn.invariant.ticks, c.begin.ensures.ticks, c.set_variable.ensures.ticks, c.run_steps.ensures.ticks);
    }

-- ---- iterations

pub run_iterations-returns-then-is_over-clause-left : goal.run_iterations-returns-then-is_over-clause-left
run_iterations-returns-then-is_over-clause-left g t c =
    let i = c.loop-iteration.iteration in
    let n = iteration_count c.args.turns c.args.more in
    let f = one_iteration (steps_run c.args.table.now (step_trees c.args.body.now)) c.args.place c.args.turns c.args.more c.args.privates.now in
    let l : i ≤ n = omega (arith, c.iteration_count-iteration-end.ensures) in
    leaves_over (turns_run i 0 f) (turns_run n 0 f) c.loop-iteration.invariant.so_far c.is_over.result c.is_over.ensures.over c.if-is_over.true (λ s e. turns_ended n i f s l e)

pub run_iterations-loop-iteration-preserved : goal.run_iterations-loop-iteration-preserved
run_iterations-loop-iteration-preserved g t c =
    let i = c.loop-iteration.iteration in
    let ps = c.args.privates.now in
    let body = steps_run c.args.table.now (step_trees c.args.body.now) in
    let vs = variables_run c.args.place c.args.turns c.args.more i in
    let f = one_iteration body c.args.place c.args.turns c.args.more ps in
    let d : Leaves c.loop-iteration.run.run c.push_privates.new.run.run (g.W.Watch.stands_for c.loop-iteration.run.watch) (g.W.Watch.stands_for c.push_privates.new.run.watch) (g.W.Watch.places c.loop-iteration.run.watch) (g.W.Watch.places c.push_privates.new.run.watch) g.W.Watch.judge (f i) =
    leaves_both (λ s. body (vs (unset_all ps (in_iteration i s)))) (privates_run ps)
    (leaves_both (λ s. vs (unset_all ps (in_iteration i s))) body
    (leaves_both (λ s. unset_all ps (in_iteration i s)) vs
    (leaves_both (in_iteration i) (unset_all ps) c.iterate.ensures.left c.unset_privates.ensures.left) c.set_variables.ensures.left) c.run_steps.ensures.left) c.push_privates.ensures.left in
    record {
      so_far = leaves_as (λ s. let r = turns_run i 0 f s in if is_going r then f i r else r) (turns_run (i + 1) 0 f)
          (leaves_next (turns_run i 0 f) (f i) c.loop-iteration.invariant.so_far c.is_over.result c.is_over.ensures.over c.if-is_over.false d) (λ s. turns_more i f s);
      ticks = omega (arith, c.loop-iteration.invariant.ticks, c.iterate.ensures.ticks, c.unset_privates.ensures.ticks, c.set_variables.ensures.ticks, c.run_steps.ensures.ticks, c.push_privates.ensures.ticks);
    }

-- ---- loops

pub run_loop-returns-in-Turns-clause-left : goal.run_loop-returns-in-Turns-clause-left
run_loop-returns-in-Turns-clause-left g t c =
    let names = c.args.table.now in
    let body = steps_run names (step_trees c.args.body.now) in
    let h = c.in-Turns.head in
    let n = c.head_run-turns.result in
    subst (λ a. Leaves c.args.run.now.run c.push_bounds.new.run.run (g.W.Watch.stands_for c.args.run.now.watch) (g.W.Watch.stands_for c.push_bounds.new.run.watch) (g.W.Watch.places c.args.run.now.watch) (g.W.Watch.places c.push_bounds.new.run.watch) g.W.Watch.judge (loop_run names (around_tree a) body)) (sym c.in-Turns.is)
    (does_leaves (λ f. f.run) (λ f. g.W.Watch.stands_for f.watch) (λ f. g.W.Watch.places f.watch) g.W.Watch.judge c.args.run.now c.head_run-turns.new.run c.push_bounds.new.run n (head_run names (head_tree h))
    (λ r s. words_run r (turns_run r.count 0 (one_turn body h.place r) s)) c.head_run-turns.ensures.does
    (leaves_both (turns_run n.count 0 (one_turn body h.place n)) (words_run n) c.run_turns.ensures.left c.push_bounds.ensures.left))

pub run_loop-returns-in-Iterations-clause-left : goal.run_loop-returns-in-Iterations-clause-left
run_loop-returns-in-Iterations-clause-left g t c =
    let names = c.args.table.now in
    let body = steps_run names (step_trees c.args.body.now) in
    let h = c.in-Iterations.head in
    let inner = inner_tree c.in-Iterations.inner in
    let ps = c.in-Iterations.privates in
    let n = c.head_run-turns-in-Iterations.result in
    let m = c.inner_run-more.result in
    let enters = entered h.line (bounds_of n ++ further_bounds m) [] in
    let all = turns_run (iteration_count n m) 0 (one_iteration body h.place n m ps) in
    let turned : Leaves c.enter.new.run.run c.run_iterations.new.run.run (g.W.Watch.stands_for c.enter.new.run.watch) (g.W.Watch.stands_for c.run_iterations.new.run.watch) (g.W.Watch.places c.enter.new.run.watch) (g.W.Watch.places c.run_iterations.new.run.watch) g.W.Watch.judge all =
    subst (λ (qs : List PrivateScalar). Leaves c.enter.new.run.run c.run_iterations.new.run.run (g.W.Watch.stands_for c.enter.new.run.watch) (g.W.Watch.stands_for c.run_iterations.new.run.watch) (g.W.Watch.places c.enter.new.run.watch) (g.W.Watch.places c.run_iterations.new.run.watch) g.W.Watch.judge (turns_run (iteration_count n m) 0 (one_iteration body h.place n m qs))) c.as_slice-privates.ensures c.run_iterations.ensures.left in
    subst (λ a. Leaves c.args.run.now.run c.push_further.new.run.run (g.W.Watch.stands_for c.args.run.now.watch) (g.W.Watch.stands_for c.push_further.new.run.watch) (g.W.Watch.places c.args.run.now.watch) (g.W.Watch.places c.push_further.new.run.watch) g.W.Watch.judge (loop_run names (around_tree a) body)) (sym c.in-Iterations.is)
    (does_leaves (λ f. f.run) (λ f. g.W.Watch.stands_for f.watch) (λ f. g.W.Watch.places f.watch) g.W.Watch.judge c.args.run.now c.head_run-turns-in-Iterations.new.run c.push_further.new.run n (head_run names (head_tree h))
    (λ r s. let u = inner_run names inner s in iterations_run body (head_tree h) ps r u.out u.state) c.head_run-turns-in-Iterations.ensures.does
    (does_leaves (λ f. f.run) (λ f. g.W.Watch.stands_for f.watch) (λ f. g.W.Watch.places f.watch) g.W.Watch.judge c.head_run-turns-in-Iterations.new.run c.inner_run-more.new.run c.push_further.new.run m (inner_run names inner)
    (λ u s. iterations_run body (head_tree h) ps n u s) c.inner_run-more.ensures.does
    (leaves_both (λ s. words_run n (left (all (enters s)))) (further_words m)
    (leaves_both (λ s. left (all (enters s))) (words_run n)
    (leaves_both (λ s. all (enters s)) left (leaves_both enters all c.enter.ensures.left turned) c.leave.ensures.left) c.push_bounds-in-Iterations.ensures.left) c.push_further.ensures.left)))

-- ---- statements

pub run_step-returns-in-Store-clause-left : goal.run_step-returns-in-Store-clause-left
run_step-returns-in-Store-clause-left g t c =
    let names = c.args.table.now in
    subst (λ (x : StepTree). Leaves c.args.run.now.run c.run_store.new.run.run (g.W.Watch.stands_for c.args.run.now.watch) (g.W.Watch.stands_for c.run_store.new.run.watch) (g.W.Watch.places c.args.run.now.watch) (g.W.Watch.places c.run_store.new.run.watch) g.W.Watch.judge (step_run names x)) (sym (ap step_tree c.in-Store.is ∙ store_is c.in-Store.store))
    (leaves_both begun (store_run names (store_tree c.in-Store.store)) c.begin.ensures.left c.run_store.ensures.left)

pub run_step-returns-then-number-arms-clause-left : goal.run_step-returns-then-number-arms-clause-left
run_step-returns-then-number-arms-clause-left g t c =
    let names = c.args.table.now in
    let arms = c.as_slice-arms.result.now in
    let other = steps_run names (step_trees c.in-If.other) in
    let n = c.chosen_arm-number.result in
    let x = c.index-arms-number.result in
    let body = steps_run names (step_trees c.as_slice-body.result.now) in
    let e = body_at names arms n x other c.if-number-arms.true c.index-arms-number.is ∙ ap (λ (a : StepArm). steps_run names (step_trees a.body)) c.index-arms-number.is ∙ ap (λ (ss : List Step). steps_run names (step_trees ss)) (sym c.as_slice-body.ensures) in
    let d : Leaves c.at_line.new.self.run c.run_arm.new.run.run (g.W.Watch.stands_for c.at_line.new.self.watch) (g.W.Watch.stands_for c.run_arm.new.run.watch) (g.W.Watch.places c.at_line.new.self.watch) (g.W.Watch.places c.run_arm.new.run.watch) g.W.Watch.judge (arms_run names (step_arm_trees arms) 0 other) =
    chosen_leaves (λ f. f.run) (λ f. g.W.Watch.stands_for f.watch) (λ f. g.W.Watch.places f.watch) g.W.Watch.judge c.at_line.new.self c.chosen_arm-number.new.run c.run_arm.new.run names (step_arm_trees arms) n body other c.chosen_arm-number.ensures.does e c.run_arm.ensures.left in
    subst (λ (x : StepTree). Leaves c.args.run.now.run c.run_arm.new.run.run (g.W.Watch.stands_for c.args.run.now.watch) (g.W.Watch.stands_for c.run_arm.new.run.watch) (g.W.Watch.places c.args.run.now.watch) (g.W.Watch.places c.run_arm.new.run.watch) g.W.Watch.judge (step_run names x)) (sym (ap step_tree c.in-If.is ∙ if_is c.in-If.line c.in-If.arms c.in-If.other))
    (subst (λ (as' : List StepArm). Leaves c.args.run.now.run c.run_arm.new.run.run (g.W.Watch.stands_for c.args.run.now.watch) (g.W.Watch.stands_for c.run_arm.new.run.watch) (g.W.Watch.places c.args.run.now.watch) (g.W.Watch.places c.run_arm.new.run.watch) g.W.Watch.judge (λ s. arms_run names (step_arm_trees as') 0 other (on_line c.in-If.line (begun s)))) c.as_slice-arms.ensures
    (leaves_both (λ s. on_line c.in-If.line (begun s)) (arms_run names (step_arm_trees arms) 0 other) (leaves_both begun (on_line c.in-If.line) c.begin.ensures.left c.at_line.ensures.left) d))

pub run_step-returns-else-number-arms-clause-left : goal.run_step-returns-else-number-arms-clause-left
run_step-returns-else-number-arms-clause-left g t c =
    let names = c.args.table.now in
    let arms = c.as_slice-arms.result.now in
    let other = steps_run names (step_trees c.in-If.other) in
    let n = c.chosen_arm-number.result in
    let body = steps_run names (step_trees c.as_slice-body-else-number-arms.result.now) in
    let e = body_past names arms n other c.if-number-arms.false ∙ ap (λ (ss : List Step). steps_run names (step_trees ss)) (sym c.as_slice-body-else-number-arms.ensures) in
    let d : Leaves c.at_line.new.self.run c.run_arm-else-number-arms.new.run.run (g.W.Watch.stands_for c.at_line.new.self.watch) (g.W.Watch.stands_for c.run_arm-else-number-arms.new.run.watch) (g.W.Watch.places c.at_line.new.self.watch) (g.W.Watch.places c.run_arm-else-number-arms.new.run.watch) g.W.Watch.judge (arms_run names (step_arm_trees arms) 0 other) =
    chosen_leaves (λ f. f.run) (λ f. g.W.Watch.stands_for f.watch) (λ f. g.W.Watch.places f.watch) g.W.Watch.judge c.at_line.new.self c.chosen_arm-number.new.run c.run_arm-else-number-arms.new.run names (step_arm_trees arms) n body other c.chosen_arm-number.ensures.does e c.run_arm-else-number-arms.ensures.left in
    subst (λ (x : StepTree). Leaves c.args.run.now.run c.run_arm-else-number-arms.new.run.run (g.W.Watch.stands_for c.args.run.now.watch) (g.W.Watch.stands_for c.run_arm-else-number-arms.new.run.watch) (g.W.Watch.places c.args.run.now.watch) (g.W.Watch.places c.run_arm-else-number-arms.new.run.watch) g.W.Watch.judge (step_run names x)) (sym (ap step_tree c.in-If.is ∙ if_is c.in-If.line c.in-If.arms c.in-If.other))
    (subst (λ (as' : List StepArm). Leaves c.args.run.now.run c.run_arm-else-number-arms.new.run.run (g.W.Watch.stands_for c.args.run.now.watch) (g.W.Watch.stands_for c.run_arm-else-number-arms.new.run.watch) (g.W.Watch.places c.args.run.now.watch) (g.W.Watch.places c.run_arm-else-number-arms.new.run.watch) g.W.Watch.judge (λ s. arms_run names (step_arm_trees as') 0 other (on_line c.in-If.line (begun s)))) c.as_slice-arms.ensures
    (leaves_both (λ s. on_line c.in-If.line (begun s)) (arms_run names (step_arm_trees arms) 0 other) (leaves_both begun (on_line c.in-If.line) c.begin.ensures.left c.at_line.ensures.left) d))

pub run_step-returns-in-Loop-clause-left : goal.run_step-returns-in-Loop-clause-left
run_step-returns-in-Loop-clause-left g t c =
    let names = c.args.table.now in
    let around = around_tree c.in-Loop.head in
    let d : Leaves c.begin.new.self.run c.run_loop.new.run.run (g.W.Watch.stands_for c.begin.new.self.watch) (g.W.Watch.stands_for c.run_loop.new.run.watch) (g.W.Watch.places c.begin.new.self.watch) (g.W.Watch.places c.run_loop.new.run.watch) g.W.Watch.judge (loop_run names around (steps_run names (step_trees c.in-Loop.body))) =
    subst (λ (ss : List Step). Leaves c.begin.new.self.run c.run_loop.new.run.run (g.W.Watch.stands_for c.begin.new.self.watch) (g.W.Watch.stands_for c.run_loop.new.run.watch) (g.W.Watch.places c.begin.new.self.watch) (g.W.Watch.places c.run_loop.new.run.watch) g.W.Watch.judge (loop_run names around (steps_run names (step_trees ss)))) c.as_slice.ensures c.run_loop.ensures.left in
    subst (λ (x : StepTree). Leaves c.args.run.now.run c.run_loop.new.run.run (g.W.Watch.stands_for c.args.run.now.watch) (g.W.Watch.stands_for c.run_loop.new.run.watch) (g.W.Watch.places c.args.run.now.watch) (g.W.Watch.places c.run_loop.new.run.watch) g.W.Watch.judge (step_run names x)) (sym (ap step_tree c.in-Loop.is ∙ loop_is c.in-Loop.line c.in-Loop.head c.in-Loop.body))
    (leaves_both begun (loop_run names around (steps_run names (step_trees c.in-Loop.body))) c.begin.ensures.left d)

pub run_steps-returns-then-is_over-clause-left : goal.run_steps-returns-then-is_over-clause-left
run_steps-returns-then-is_over-clause-left g t c =
    let names = c.args.table.now in
    let xs = c.args.body.now in
    let i = c.loop-step.step-index in
    leaves_over (steps_run names (step_trees (take i xs))) (steps_run names (step_trees xs)) c.loop-step.invariant.so_far c.is_over.result c.is_over.ensures.over c.if-is_over.true (λ s e. steps_ended names xs i s e)

pub run_steps-loop-step-preserved : goal.run_steps-loop-step-preserved
run_steps-loop-step-preserved g t c =
    let names = c.args.table.now in
    let xs : List Step = c.args.body.now in
    let i = c.loop-step.step-index in
    let x : Step = c.step-item.result in
    let m : take (i + 1) xs ≡ take i xs ++ x ∷ [] = taken_more xs i x c.loop-step-test.true c.step-item.is in
    record {
      so_far = leaves_as (λ s. let r = steps_run names (step_trees (take i xs)) s in if is_going r then step_run names (step_tree x) r else r) (steps_run names (step_trees (take (i + 1) xs)))
          (leaves_next (steps_run names (step_trees (take i xs))) (step_run names (step_tree x)) c.loop-step.invariant.so_far c.is_over.result c.is_over.ensures.over c.if-is_over.false c.run_step.ensures.left)
          (λ s. ap (λ (ss : List Step). steps_run names (step_trees ss) s) m ∙ steps_more names (take i xs) x s);
      ticks = omega (arith, c.loop-step.invariant.ticks, c.run_step.ensures.ticks);
    }

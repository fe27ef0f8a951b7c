use Rattle.std.proofs.Common.{◌≡◌, rules, add-one, ap, sym, ◌∙◌, subst, true, false, Bool, length, get_or, refl, arith, []}
use Rattle.std.proofs.lemmas.Result.{err_from_is_err_and}
use Rattle.std.proofs.lemmas.Bool.{and_parts, ltb-true}
use Rattle.ring_core.specs.Index.{fits_index}
use Rattle.fl_ast.specs.Tree.{assignment, loop}
use Rattle.fl_types.specs.Nests.{head_of, statements_in}
use Rattle.meaning.specs.Expressions.{holds}
use Rattle.resolved.specs.declared.resolved.ResolvedStmt.{the_lemmas as statement_lemmas}
use Rattle.resolved.specs.SlotTables.{table_site}
use Rattle.resolved.specs.ResolvedExprs.{expression_back, place_back, condition_back, slot_name}
use Rattle.resolved.specs.ResolvedStmts.{statement_back, statements_back, option_back, arms_back, form_in, same_form, are_fit, are_arms_fit}
use Rattle.resolved.proofs.Slots.{do_fit, do_back, if_fit, if_back}
use Rattle.dual_meaning.specs.Counted.{counted_turn, lined, turns_at, counted_run, counted_begun, counted_all, counted_arms}
use Rattle.dual_meaning.specs.Running.{Ran, head_back, round_count, counted_round, with_rounds}
use Rattle.dual_meaning.proofs.Turning.{answer_stop, assigned_ran, turns_next, turns_ran, turn_counts, set_is, begins_ran, none_begins, parallel_counts, plain_counts, nest_counts, headed_by, arms_fit_at, arms_at, arm_chosen, inner_rounds, inner_stop, first_fit}
use Rattle.dual_evaluation.proofs.Counts.{value_fits, computed}
use Rattle.dual_meaning.proofs.Nesting.{nested}
use Rattle.dual_meaning.proofs.Quotients.{privates_are}
use Rattle.dual_evaluation.proofs.Located.{place_by_slot}
use Rattle.dual_meaning.proofs.statements.+run.Goals as goal

-- ---- statements

pub run_begun-returns-in-Assign-clause-ran : goal.run_begun-returns-in-Assign-clause-ran
run_begun-returns-in-Assign-clause-ran g t c =
    let s = c.args.table.now in
    let p = place_back s.0 c.in-Assign.target in
    let v = expression_back s.0 c.in-Assign.value in
    let e : statement_back s.0 c.args.stmt.now ≡ assignment c.in-Assign.line c.in-Assign.atomic p v = search (rules, statement_lemmas) in
    let f : same_form c.in-Assign.form (form_in s p v) ≡ true = search (rules, statement_lemmas, and_parts) in
    assigned_ran (Unit {0}) s c.in-Assign.line c.in-Assign.atomic p v c.args.progress.now.cells.items c.assign_at.new.cells.items c.in-Assign.form c.args.progress.now.left c.assign_at.result (statement_back s.0 c.args.stmt.now) e f c.assign_at.ensures

pub run_begun-returns-in-Some-clause-ran : goal.run_begun-returns-in-Some-clause-ran
run_begun-returns-in-Some-clause-ran g t c =
    let s = c.args.table.now in
    let e = do_back s.0 c.args.stmt.now c.in-Do.line c.in-Do.number c.in-Do.directive c.in-Do.head c.in-Do.body c.in-Do.is in
    let d = ap (λ o. loop c.in-Do.line c.in-Do.number o (slot_name s.0 c.in-Do.head.variable) (expression_back s.0 c.in-Do.head.first) (expression_back s.0 c.in-Do.head.last) (option_back s.0 c.in-Do.head.step) (statements_back s.0 c.in-Do.body)) c.in-Some.is in
    subst (Ran c.run_parallel.result c.run_parallel.new.progress.cells.items c.run_parallel.new.progress.left)
    (sym (parallel_counts c.in-Do.line c.in-Do.number c.in-Some.directive (slot_name s.0 c.in-Do.head.variable) (expression_back s.0 c.in-Do.head.first) (expression_back s.0 c.in-Do.head.last) (option_back s.0 c.in-Do.head.step) (statements_back s.0 c.in-Do.body) (table_site s)
    c.args.progress.now.cells.items c.args.progress.now.left (statement_back s.0 c.args.stmt.now) (e ∙ d))) (rw (c.get.ensures, c.as_slice-in-Some.ensures) at c.run_parallel.ensures.ran)

pub run_statement-returns-in_err-begin-clause-ran : goal.run_statement-returns-in_err-begin-clause-ran
run_statement-returns-in_err-begin-clause-ran g t c =
    let s = c.args.table.now in
    let p = err_from_is_err_and c.from_residual.result c.from_residual.ensures.1 in
    rw (p.1, p.2) (none_begins (Unit {0}) (Unit {0}) _ c.args.progress.now.cells.items c.args.progress.now.left c.begin.new.left (counted_run (statement_back s.0 c.args.stmt.now) (table_site s) c.args.progress.now.cells.items c.args.progress.now.left)
    (counted_begun (statement_back s.0 c.args.stmt.now) (table_site s) c.args.progress.now.cells.items) refl c.in_err-begin.ensures.left)

-- ---- turns

pub run_turns-returns-in_err-begin-clause-ran : goal.run_turns-returns-in_err-begin-clause-ran
run_turns-returns-in_err-begin-clause-ran g t c =
    let s = c.args.table.now in
    let p = err_from_is_err_and c.from_residual.result c.from_residual.ensures.1 in
    let f = counted_turn (table_site s) (slot_name s.0 c.args.variable) c.args.turns (counted_all (statements_back s.0 c.args.body.now) (table_site s)) in
    rw (p.1, p.2) (begins_ran (Unit {0}) (Unit {0}) c.args.turns.count c.loop-turn.turn f c.args.progress.now.cells.items c.loop-turn.progress.cells.items c.loop-turn.progress.cells.items c.args.progress.now.left c.loop-turn.progress.left
    c.begin.new.left _ _ c.loop-turn-test.true c.loop-turn.invariant.so_far refl c.in_err-begin.ensures.left)

pub run_turns-begin_turn-requires : goal.run_turns-begin_turn-requires
run_turns-begin_turn-requires g t c =
    subst (λ z. fits_index z ≡ true) (sym (computed c.args.turns.first c.args.turns.step c.loop-turn.turn c.requires.counted.first c.requires.counted.step))
    (value_fits c.args.turns c.loop-turn.turn c.requires.counted c.loop-turn-test.true)

pub run_turns-returns-in_err-run_statements-clause-ran : goal.run_turns-returns-in_err-run_statements-clause-ran
run_turns-returns-in_err-run_statements-clause-ran g t c =
    let s = c.args.table.now in
    let p = err_from_is_err_and c.from_residual-in_err-run_statements.result c.from_residual-in_err-run_statements.ensures.1 in
    let body = counted_all (statements_back s.0 c.args.body.now) (table_site s) in
    let f = counted_turn (table_site s) (slot_name s.0 c.args.variable) c.args.turns body in
    let e = set_is c.begin_turn.new.cells.items c.loop-turn.progress.cells.items c.place_in-place.result _ c.args.turns.first c.args.turns.step c.loop-turn.turn
    c.begin_turn.ensures c.loop-turn.invariant.place c.requires.counted.first c.requires.counted.step in
    rw (p.1, p.2) (turns_ran (Unit {0}) (Unit {0}) c.args.turns.count c.loop-turn.turn f c.args.progress.now.cells.items c.loop-turn.progress.cells.items c.run_statements.new.progress.cells.items c.args.progress.now.left c.loop-turn.progress.left
    c.run_statements.new.progress.left _ _ c.loop-turn-test.true c.loop-turn.invariant.so_far
    (turn_counts s c.args.variable c.args.turns body c.loop-turn.turn c.loop-turn.progress.cells.items c.loop-turn.progress.left c.begin.new.left c.requires.variable c.in_ok-begin.ensures.left ∙ ap (λ b. body b c.begin.new.left) (sym e))
    c.in_err-run_statements.ensures.ran)

pub run_turns-loop-turn-preserved : goal.run_turns-loop-turn-preserved
run_turns-loop-turn-preserved g t c =
    let s = c.args.table.now in
    let body = counted_all (statements_back s.0 c.args.body.now) (table_site s) in
    let f = counted_turn (table_site s) (slot_name s.0 c.args.variable) c.args.turns body in
    let e = set_is c.begin_turn.new.cells.items c.loop-turn.progress.cells.items c.place_in-place.result _ c.args.turns.first c.args.turns.step c.loop-turn.turn
    c.begin_turn.ensures c.loop-turn.invariant.place c.requires.counted.first c.requires.counted.step in
    record {
      so_far = rw add-one (turns_next c.loop-turn.turn f c.args.progress.now.cells.items c.loop-turn.progress.cells.items c.args.progress.now.left c.loop-turn.progress.left c.loop-turn.invariant.so_far
          ∙ (turn_counts s c.args.variable c.args.turns body c.loop-turn.turn c.loop-turn.progress.cells.items c.loop-turn.progress.left c.begin.new.left c.requires.variable c.in_ok-begin.ensures.left
          ∙ (ap (λ b. body b c.begin.new.left) (sym e) ∙ c.in_ok-run_statements.ensures.ran)));
      place = c.loop-turn.invariant.place;
      ticks = omega (arith, c.loop-turn.invariant.ticks, c.in_ok-begin.ensures.ticks, c.in_ok-run_statements.ensures.ticks);
    }

-- ---- iterations

pub run_rounds-returns-in_err-begin-clause-ran : goal.run_rounds-returns-in_err-begin-clause-ran
run_rounds-returns-in_err-begin-clause-ran g t c =
    let s = c.args.table.now in
    let p = err_from_is_err_and c.from_residual.result c.from_residual.ensures.1 in
    let f = counted_round c.args.privates.now c.args.outer.now c.args.inner.now (counted_all (statements_back s.0 c.args.body.now) (table_site s)) in
    rw (p.1, p.2) (begins_ran (Unit {0}) (Unit {0}) (round_count c.args.outer.now c.args.inner.now) c.loop-k.k f c.args.progress.now.cells.items c.loop-k.progress.cells.items c.loop-k.progress.cells.items c.args.progress.now.left c.loop-k.progress.left
    c.begin.new.left _ _ (search rules) c.loop-k.invariant.so_far refl c.in_err-begin.ensures.left)

pub run_rounds-returns-in_err-run_statements-clause-ran : goal.run_rounds-returns-in_err-run_statements-clause-ran
run_rounds-returns-in_err-run_statements-clause-ran g t c =
    let s = c.args.table.now in
    let p = err_from_is_err_and c.from_residual-in_err-run_statements.result c.from_residual-in_err-run_statements.ensures.1 in
    let body = counted_all (statements_back s.0 c.args.body.now) (table_site s) in
    let f = counted_round c.args.privates.now c.args.outer.now c.args.inner.now body in
    rw (p.1, p.2) (turns_ran (Unit {0}) (Unit {0}) (round_count c.args.outer.now c.args.inner.now) c.loop-k.k f c.args.progress.now.cells.items c.loop-k.progress.cells.items c.run_statements.new.progress.cells.items c.args.progress.now.left c.loop-k.progress.left
    c.run_statements.new.progress.left _ _ (search rules) c.loop-k.invariant.so_far
    (ap (λ m. f c.loop-k.k c.loop-k.progress.cells.items m) c.in_ok-begin.ensures.left
    ∙ ap (λ b. body b c.begin.new.left) (sym (c.set_rounds.ensures ∙ ap (with_rounds c.args.outer.now c.args.inner.now c.loop-k.k) c.unset_all.ensures)))
    c.in_err-run_statements.ensures.ran)

-- ---- parallel loops

pub run_nest-round_at-requires-clause-last : goal.run_nest-round_at-requires-clause-last
run_nest-round_at-requires-clause-last g t c = (do_fit c.args.table.now c.args.inner.now _ _ _ c.in-Do.head c.in-Do.body c.in-Do.is c.requires.fit).2

pub run_parallel-returns-then-not-is_nest-clause-ran : goal.run_parallel-returns-then-not-is_nest-clause-ran
run_parallel-returns-then-not-is_nest-clause-ran g t c =
    let s = c.args.table.now in
    let h = head_back s.0 c.args.line c.args.head.now in
    let body = statements_back s.0 c.args.body.now in
    let q = plain_counts s h c.args.directive.now body c.in_ok-privates.privates.items c.in_ok-outer.outer c.args.progress.now.cells.items c.args.progress.now.left (search (rules, c.is_nest.ensures.value s.0))
    (λ d. c.in_ok-privates.ensures d ∙ privates_are (table_site s) c.args.directive.now h.var body s.3 d)
    (ap (turns_at h (table_site s)) (sym c.deref.ensures.value) ∙ c.in_ok-outer.ensures.value.0) (c.in_ok-outer.ensures.value.1 ∙ place_by_slot s c.args.head.now.variable [] c.requires.variable) in
    subst (Ran c.run_rounds.result c.run_rounds.new.progress.cells.items c.run_rounds.new.progress.left) q (search (rules, c.run_rounds.ensures.ran))

pub run_begun-loop-arm-init : goal.run_begun-loop-arm-init
run_begun-loop-arm-init g t c =
    let s = c.args.table.now in
    let e = if_back s.0 c.args.stmt.now c.in-If.line c.in-If.arms c.in-If.other c.in-If.is in
    record {
      rest = ap (λ xs. counted_arms (arms_back s.0 xs) c.in-If.line (counted_all (statements_back s.0 c.in-If.other) (table_site s)) (table_site s) c.args.progress.now.cells.items c.args.progress.now.left) c.as_slice-arm-items.ensures
          ∙ sym (ap (λ b. counted_begun b (table_site s) c.args.progress.now.cells.items c.args.progress.now.left) e);
      fit = ap (are_arms_fit s) c.as_slice-arm-items.ensures ∙ (if_fit s c.args.stmt.now c.in-If.line c.in-If.arms c.in-If.other c.in-If.is c.requires.fit).0;
      ticks = refl;
    }

pub run_begun-test_at-requires : goal.run_begun-test_at-requires
run_begun-test_at-requires g t c = (arms_fit_at c.args.table.now c.as_slice-arm-items.result.now c.loop-arm.arm-index c.arm-item.result (search rules) (search rules) c.loop-arm.invariant.fit).0

pub run_begun-loop-arm-preserved : goal.run_begun-loop-arm-preserved
run_begun-loop-arm-preserved g t c =
    let s = c.args.table.now in
    let other = counted_all (statements_back s.0 c.in-If.other) (table_site s) in
    record {
      rest = rw add-one (sym (arm_chosen s c.as_slice-arm-items.result.now c.loop-arm.arm-index c.arm-item.result c.in-If.line other c.loop-arm.progress.cells.items c.loop-arm.progress.left false (search rules) (search rules) (search rules))
          ∙ c.loop-arm.invariant.rest);
      fit = rw add-one ((arms_fit_at s c.as_slice-arm-items.result.now c.loop-arm.arm-index c.arm-item.result (search rules) (search rules) c.loop-arm.invariant.fit).2);
      ticks = c.loop-arm.invariant.ticks;
    }

pub run_begun-returns-then-branch-clause-ran : goal.run_begun-returns-then-branch-clause-ran
run_begun-returns-then-branch-clause-ran g t c =
    let s = c.args.table.now in
    let other = counted_all (statements_back s.0 c.in-If.other) (table_site s) in
    subst (Ran c.run_statements.result c.run_statements.new.progress.cells.items c.run_statements.new.progress.left)
    (sym (arm_chosen s c.as_slice-arm-items.result.now c.loop-arm.arm-index c.arm-item.result c.in-If.line other c.loop-arm.progress.cells.items c.loop-arm.progress.left true (search rules) (search rules) (search rules))
    ∙ c.loop-arm.invariant.rest) (search (rules, c.run_statements.ensures.ran))

pub run_begun-returns-in_err-test_at-in-If-clause-ran : goal.run_begun-returns-in_err-test_at-in-If-clause-ran
run_begun-returns-in_err-test_at-in-If-clause-ran g t c =
    let s = c.args.table.now in
    let other = counted_all (statements_back s.0 c.in-If.other) (table_site s) in
    let p = err_from_is_err_and c.from_residual.result c.from_residual.ensures.1 in
    let x = lined c.in-If.line (holds (condition_back s.0 c.arm-item.result.test) (table_site s) c.loop-arm.progress.cells.items).out in
    let a = arms_at s c.as_slice-arm-items.result.now c.loop-arm.arm-index c.arm-item.result c.in-If.line other c.loop-arm.progress.cells.items c.loop-arm.progress.left (search rules) (search rules) in
    rw (p.1, p.2) (answer_stop (Unit {0}) (Unit {0}) Bool _ c.loop-arm.progress.cells.items c.loop-arm.progress.left x _ _ (search (rules, c.in_err-test_at-in-If.ensures)) (sym c.loop-arm.invariant.rest ∙ a))

pub run_begun-turns_at-requires-clause-last : goal.run_begun-turns_at-requires-clause-last
run_begun-turns_at-requires-clause-last g t c = (do_fit c.args.table.now c.args.stmt.now _ _ _ c.in-Do.head c.in-Do.body c.in-Do.is c.requires.fit).2

pub run_begun-turns_at-requires-clause-step : goal.run_begun-turns_at-requires-clause-step
run_begun-turns_at-requires-clause-step g t c = (do_fit c.args.table.now c.args.stmt.now _ _ _ c.in-Do.head c.in-Do.body c.in-Do.is c.requires.fit).3

pub run_begun-run_turns-requires : goal.run_begun-run_turns-requires
run_begun-run_turns-requires g t c =
    let f = do_fit c.args.table.now c.args.stmt.now _ _ _ c.in-Do.head c.in-Do.body c.in-Do.is c.requires.fit in
    λ κs lives. (search (rules, statement_lemmas), (lives, (ltb-true _ _ f.0, (c.in_ok-turns-in-None.ensures.counted, ap (are_fit c.args.table.now) c.as_slice-in-None.ensures ∙ f.4))))

pub run_begun-run_parallel-requires : goal.run_begun-run_parallel-requires
run_begun-run_parallel-requires g t c =
    let f = do_fit c.args.table.now c.args.stmt.now _ _ _ c.in-Do.head c.in-Do.body c.in-Do.is c.requires.fit in
    λ κs lives. (search (rules, statement_lemmas), (lives, (ltb-true _ _ f.0, (f.1, (f.2, (f.3, ap (are_fit c.args.table.now) c.as_slice-in-Some.ensures ∙ f.4))))))

pub run_nest-run_rounds-requires : goal.run_nest-run_rounds-requires
run_nest-run_rounds-requires g t c =
    let f = do_fit c.args.table.now c.args.inner.now _ _ _ c.in-Do.head c.in-Do.body c.in-Do.is c.requires.fit in
    λ κs lives. (search (rules, statement_lemmas), (lives, (c.requires.counted, (c.in_ok-inner-in-Do.ensures.counted, ap (are_fit c.args.table.now) c.as_slice.ensures ∙ f.4))))

pub run_nest-returns-clause-ran : goal.run_nest-returns-clause-ran
run_nest-returns-clause-ran g t c = λ h e.
    let s = c.args.table.now in
    let f = do_fit s c.args.inner.now _ _ _ c.in-Do.head c.in-Do.body c.in-Do.is c.requires.fit in
    let b = do_back s.0 c.args.inner.now c.in-Do.line c.in-Do.number c.in-Do.directive c.in-Do.head c.in-Do.body c.in-Do.is in
    subst (Ran c.run_rounds.result c.run_rounds.new.progress.cells.items c.run_rounds.new.progress.left)
    (inner_rounds s h (head_back s.0 c.in-Do.line c.in-Do.head) (statement_back s.0 c.args.inner.now) (statements_back s.0 c.in-Do.body) c.args.privates.now c.args.outer.now c.in_ok-inner-in-Do.inner c.args.progress.now.cells.items c.args.progress.now.left
    e (ap head_of b) (ap statements_in b) (ap (turns_at (head_back s.0 c.in-Do.line c.in-Do.head) (table_site s)) (sym c.deref.ensures.value) ∙ c.in_ok-inner-in-Do.ensures.value.0)
    (c.in_ok-inner-in-Do.ensures.value.1 ∙ place_by_slot s c.in-Do.head.variable [] (ltb-true _ _ f.0))) (rw c.as_slice.ensures at c.run_rounds.ensures.ran)

pub run_nest-returns-in_err-inner-in-Do-clause-ran : goal.run_nest-returns-in_err-inner-in-Do-clause-ran
run_nest-returns-in_err-inner-in-Do-clause-ran g t c = λ h e.
    let s = c.args.table.now in
    let p = err_from_is_err_and c.from_residual.result c.from_residual.ensures.1 in
    let b = do_back s.0 c.args.inner.now c.in-Do.line c.in-Do.number c.in-Do.directive c.in-Do.head c.in-Do.body c.in-Do.is in
    rw (p.1, p.2) (inner_stop (Unit {0}) (Unit {0}) _ s h (head_back s.0 c.in-Do.line c.in-Do.head) (statement_back s.0 c.args.inner.now) c.args.progress.now.cells.items c.args.progress.now.left _ _ e (ap head_of b)
    (rw c.deref.ensures.value at c.in_err-inner-in-Do.ensures.value))

pub run_parallel-run_nest-requires : goal.run_parallel-run_nest-requires
run_parallel-run_nest-requires g t c =
    let s = c.args.table.now in
    let one : length c.args.body.now ≡ 1 = search rules in
    let at : c.index-body-0.result ≡ get_or c.args.body.now 0 c.index-body-0.result = search rules in
    let n = nested s.0 c.args.directive.now c.args.body.now c.index-body-0.result (search (rules, c.is_nest.ensures.value s.0)) one at in
    λ κs lives. (search (rules, statement_lemmas), (lives, (first_fit s c.args.body.now c.index-body-0.result c.requires.fit one at, (n.plain, c.in_ok-outer.ensures.counted))))

pub run_parallel-returns-clause-ran : goal.run_parallel-returns-clause-ran
run_parallel-returns-clause-ran g t c =
    let s = c.args.table.now in
    let h = head_back s.0 c.args.line c.args.head.now in
    let body = statements_back s.0 c.args.body.now in
    let one : length c.args.body.now ≡ 1 = search rules in
    let at : c.index-body-0.result ≡ get_or c.args.body.now 0 c.index-body-0.result = search rules in
    let n = nested s.0 c.args.directive.now c.args.body.now c.index-body-0.result (search (rules, c.is_nest.ensures.value s.0)) one at in
    let k = headed_by (statement_back s.0 c.index-body-0.result) n.plain in
    let q = nest_counts s h k.0 c.args.directive.now body (statement_back s.0 c.index-body-0.result) c.in_ok-privates.privates.items c.in_ok-outer.outer c.args.progress.now.cells.items c.args.progress.now.left n k.1
    (λ d. c.in_ok-privates.ensures d ∙ privates_are (table_site s) c.args.directive.now h.var body s.3 d)
    (ap (turns_at h (table_site s)) (sym c.deref.ensures.value) ∙ c.in_ok-outer.ensures.value.0) (c.in_ok-outer.ensures.value.1 ∙ place_by_slot s c.args.head.now.variable [] c.requires.variable) in
    subst (Ran c.run_nest.result c.run_nest.new.progress.cells.items c.run_nest.new.progress.left) q (rw c.deref-2.ensures.value at (c.run_nest.ensures.ran k.0 k.1))

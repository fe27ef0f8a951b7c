use Rattle.std.proofs.Common.{◌≡◌, true, false, None, Some, ◌∷◌, rules, ap, sym, ◌∙◌, subst, refl, IfOk}
use Rattle.std.proofs.lemmas.Bool.{ltb-true}
use Rattle.fl_ast.specs.Tree.{assignment, loop}
use Rattle.fl_types.specs.Kinds.{are_well_kinded_statements}
use Rattle.meaning.specs.Sites.{in_iteration}
use Rattle.meaning.specs.Fitting.{names_at}
use Rattle.resolved.specs.declared.resolved.ResolvedStmt.{the_lemmas as statement_lemmas}
use Rattle.resolved.specs.SlotTables.{table_site}
use Rattle.resolved.specs.ResolvedExprs.{expression_back, place_back, condition_back, slot_name}
use Rattle.resolved.specs.ResolvedStmts.{statement_back, statements_back, arms_back, option_back, are_fit}
use Rattle.resolved.proofs.Slots.{do_fit}
use Rattle.sweep_trees.specs.declared.code.TestCode.{TestCode}
use Rattle.sweep_trees.specs.Split.{test_tree}
use Rattle.split_trees.specs.Codes.{TestStandsFor}
use Rattle.sweep_steps.specs.declared.step.Around.{Around}
use Rattle.sweep_steps.specs.Steps.{StepArm, around_tree, step_tree, step_trees, step_arm_trees}
use Rattle.sweep_steps.specs.StepsStand.{AroundStands, Stands, AllStand, ArmsStand}
use Rattle.loop_scopes.specs.declared.loops.Loops.{the_lemmas as loops_lemmas}
use Rattle.made_steps.specs.declared.parallel.ParallelLoop.{ParallelLoop}
use Rattle.loop_scopes.specs.Loops.{names_in}
use Rattle.loop_scopes.specs.Scopes.{IsScope}
use Rattle.made_steps.specs.Scopes.{head_back}
use Rattle.loop_scopes.proofs.Nesting.{nest_body, plain_body}
use Rattle.made_steps.proofs.Making.{loop_is, pushed_front, all_stand, all_arms_stand, arms_fit, arms_kinded, arm_stands, do_is, do_kinded}
use Rattle.made_steps.proofs.steps.+steps.Goals as goal

-- ---- what calls require

pub make_step-make_turns-requires : goal.make_step-make_turns-requires
make_step-make_turns-requires t c =
    let s = c.args.table.now in
    let f = do_fit s c.args.stmt.now _ _ _ c.in-Do.head c.in-Do.body c.in-Do.is c.requires.fit in
    let k = do_kinded (names_at (table_site s)) s.0 c.args.stmt.now _ _ _ c.in-Do.head c.in-Do.body c.in-Do.is c.requires.kinded in
    let b = c.as_slice-in-None.ensures in (
      search (rules, statement_lemmas),
      (c.requires.once, (c.requires.declared, (ltb-true _ _ f.0, (f.1, (f.2, (f.3, (k.0, (ap (are_fit s) b ∙ f.4, ap (λ ss. are_well_kinded_statements (names_at (table_site s)) (statements_back s.0 ss)) b ∙ k.1)))))))),
    )

pub make_step-make_iterations-requires : goal.make_step-make_iterations-requires
make_step-make_iterations-requires t c =
    let s = c.args.table.now in
    let f = do_fit s c.args.stmt.now _ _ _ c.in-Do.head c.in-Do.body c.in-Do.is c.requires.fit in
    let k = do_kinded (names_at (table_site s)) s.0 c.args.stmt.now _ _ _ c.in-Do.head c.in-Do.body c.in-Do.is c.requires.kinded in
    let b = c.as_slice-in-Some.ensures in (
      search (rules, statement_lemmas),
      (c.requires.once, (c.requires.declared, (ltb-true _ _ f.0, (f.1, (f.2, (f.3, (k.0, (ap (are_fit s) b ∙ f.4, ap (λ ss. are_well_kinded_statements (names_at (table_site s)) (statements_back s.0 ss)) b ∙ k.1)))))))),
    )

pub make_inner-make_steps-requires : goal.make_inner-make_steps-requires
make_inner-make_steps-requires t c =
    let s = c.args.table.now in
    let f = do_fit s c.args.stmt.now _ _ _ c.in-Do.head c.in-Do.body c.in-Do.is c.requires.fit in
    let k = do_kinded (names_at (table_site s)) s.0 c.args.stmt.now _ _ _ c.in-Do.head c.in-Do.body c.in-Do.is c.requires.kinded in
    let b = c.as_slice.ensures in (
      search (rules, statement_lemmas),
      (c.requires.once, (c.requires.declared, (ap (are_fit s) b ∙ f.4, ap (λ ss. are_well_kinded_statements (names_at (table_site s)) (statements_back s.0 ss)) b ∙ k.1))),
    )

pub make_arms-split_condition-requires-clause-kinded : goal.make_arms-split_condition-requires-clause-kinded
make_arms-split_condition-requires-clause-kinded t c =
    let s = c.args.table.now in
    (arms_kinded (names_at (table_site s)) s.0 c.args.arms.now c.loop-arm.arm-index c.arm-item.result c.loop-arm-test.true c.arm-item.is c.loop-arm.invariant.kinded).0

-- ---- statements

pub make_step-returns-in-Assign : goal.make_step-returns-in-Assign
make_step-returns-in-Assign t c site sc =
    let s = c.args.table.now in
    let e : statement_back s.0 c.args.stmt.now ≡ assignment c.in-Assign.line c.in-Assign.atomic (place_back s.0 c.in-Assign.target) (expression_back s.0 c.in-Assign.value) = search (rules, statement_lemmas) in
    subst (λ stmt. IfOk c.store_step.result (λ step. Stands s site (step_tree step) stmt)) (sym e) (c.store_step.ensures site (names_in c.args.loops.now) sc)

pub make_step-returns-in-None : goal.make_step-returns-in-None
make_step-returns-in-None t c site sc =
    let s = c.args.table.now in
    let e = do_is s.0 c.args.stmt.now c.in-Do.line c.in-Do.number c.in-Do.directive None c.in-Do.head c.in-Do.body c.as_slice-in-None.result.now c.in-Do.is c.in-None.is c.as_slice-in-None.ensures in
    subst (λ stmt. IfOk c.make_turns.result (λ step. Stands s site (step_tree step) stmt)) (sym e) (c.make_turns.ensures site sc c.in-Do.number)

pub make_step-returns-in-Some : goal.make_step-returns-in-Some
make_step-returns-in-Some t c site sc =
    let s = c.args.table.now in
    let e = do_is s.0 c.args.stmt.now c.in-Do.line c.in-Do.number c.in-Do.directive (Some c.get.result.now) c.in-Do.head c.in-Do.body c.as_slice-in-Some.result.now c.in-Do.is (c.in-Some.is ∙ ap Some (sym c.get.ensures))
    c.as_slice-in-Some.ensures in
    subst (λ stmt. IfOk c.make_iterations.result (λ step. Stands s site (step_tree step) stmt)) (sym e) (c.make_iterations.ensures site sc c.in-Do.number)

pub make_steps-returns : goal.make_steps-returns
make_steps-returns t c site sc = all_stand c.args.table.now site c.args.stmts.now c.loop-stmt.stmt-index c.loop-stmt.all c.loop-stmt-test.false (c.loop-stmt.invariant.stand site sc)

-- ---- arms

pub make_arms-loop-arm-preserved : goal.make_arms-loop-arm-preserved
make_arms-loop-arm-preserved t c =
    let s = c.args.table.now in
    let xs = c.args.arms.now in
    let i = c.loop-arm.arm-index in
    let x = c.arm-item.result in
    let made : StepArm = record { test = c.into_inner.result; body = c.in_ok-body.body } in
    record {
      stand = λ site sc rest h.
          let test = subst (λ flags. TestStandsFor s flags (condition_back s.0 x.test) (test_tree c.into_inner.result)) (c.as_slice.ensures ∙ sym sc.accesses)
          (subst (λ (q : TestCode). TestStandsFor s c.as_slice.result.now (condition_back s.0 x.test) (test_tree q)) (sym c.into_inner.ensures) c.in_ok-test.ensures) in
          let body = subst (λ ss. AllStand s site (step_trees c.in_ok-body.body) (statements_back s.0 ss)) c.as_slice-in-loop-arm.ensures (c.in_ok-body.ensures site sc) in
          subst (λ all. ArmsStand s site (step_arm_trees all) (arms_back s.0 xs)) (sym (pushed_front c.loop-arm.all c.push.new.self rest made c.in_ok-push.ensures.ok))
          (c.loop-arm.invariant.stand site sc (made ∷ rest) (arm_stands s site xs i x made rest c.loop-arm-test.true c.arm-item.is test body h));
      fit = (arms_fit s xs i x c.loop-arm-test.true c.arm-item.is c.loop-arm.invariant.fit).1;
      kinded = (arms_kinded (names_at (table_site s)) s.0 xs i x c.loop-arm-test.true c.arm-item.is c.loop-arm.invariant.kinded).2;
    }

pub make_arms-returns : goal.make_arms-returns
make_arms-returns t c site sc = all_arms_stand c.args.table.now site c.args.arms.now c.loop-arm.arm-index c.loop-arm.all c.loop-arm-test.false (c.loop-arm.invariant.stand site sc)

-- ---- parallel loops

pub make_iteration-returns-then-is_nest : goal.make_iteration-returns-then-is_nest
make_iteration-returns-then-is_nest t c site sc =
    let s = c.args.table.now in
    let yes : c.is_nest.result ≡ true = search rules in
    let e = nest_body s.0 c.args.directive.now c.args.body.now c.index-body-0.result (c.is_nest.ensures.one yes) c.index-body-0.is (sym (c.is_nest.ensures.value s.0) ∙ yes) in
    subst (λ ss. IfOk c.make_inner.result (λ steps. AllStand s site (step_trees steps) ss)) (sym e) (c.make_inner.ensures site sc)

pub make_iteration-returns : goal.make_iteration-returns
make_iteration-returns t c site sc =
    let s = c.args.table.now in
    let no : c.is_nest.result ≡ false = search rules in
    let e = plain_body c.args.directive.now (statements_back s.0 c.args.body.now) (sym (c.is_nest.ensures.value s.0) ∙ no) in
    subst (λ ss. IfOk c.make_steps.result (λ steps. AllStand s site (step_trees steps) ss)) (sym e) (c.make_steps.ensures site sc)

pub make_iterations-returns : goal.make_iterations-returns
make_iterations-returns t c site sc number =
    let s = c.args.table.now in
    let var = slot_name s.0 c.args.head.now.variable in
    let body = statements_back s.0 c.args.body.now in
    let within = in_iteration site c.args.directive.now var body in
    let outer = names_in c.args.loops.now in
    let entered = c.in_ok-made.ensures site c.args.marks.now.reduced
    (subst (λ flags. IsScope s c.args.pushed.now flags c.args.marks.now.reduced outer site) (sym c.as_slice.ensures) sc) in
    let around = subst (λ (a : Around). AroundStands s site (Some c.args.directive.now) (head_back s.0 c.args.line c.args.head.now) body (around_tree a)) (sym c.around_of.ensures) entered.0 in
    let scope : IsScope s c.args.pushed.now c.get.result.now.marks.accessed c.get.result.now.marks.reduced (var ∷ outer) within
    = subst (λ (p : ParallelLoop). IsScope s c.args.pushed.now p.marks.accessed p.marks.reduced (var ∷ outer) within) (sym c.get.ensures) entered.1 in
    subst
    (λ tree. Stands s site tree
    (loop c.args.line number (Some c.args.directive.now) var (expression_back s.0 c.args.head.now.first) (expression_back s.0 c.args.head.now.last) (option_back s.0 c.args.head.now.step) body))
    (sym (loop_is c.args.line c.around_of.result c.in_ok-body.body))
    (refl, around, c.in_ok-body.ensures within (subst (λ xs. IsScope s c.args.pushed.now c.get.result.now.marks.accessed c.get.result.now.marks.reduced xs within) (search (rules, loops_lemmas)) scope))

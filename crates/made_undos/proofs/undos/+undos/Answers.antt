use Rattle.std.proofs.Common.{◌≡◌, true, false, None, Some, ◌∷◌, rules, ap, sym, ◌∙◌, subst, IfOk}
use Rattle.std.proofs.lemmas.Bool.{ltb-true}
use Rattle.fl_ast.specs.Tree.{assignment, loop}
use Rattle.fl_types.specs.Kinds.{are_well_kinded_statements}
use Rattle.meaning.specs.Fitting.{names_at}
use Rattle.resolved.specs.declared.resolved.ResolvedStmt.{the_lemmas as statement_lemmas}
use Rattle.resolved.specs.SlotTables.{table_site}
use Rattle.resolved.specs.ResolvedExprs.{expression_back, place_back, slot_name}
use Rattle.resolved.specs.ResolvedStmts.{statement_back, statements_back, arms_back, option_back, are_fit}
use Rattle.resolved.proofs.Slots.{do_fit}
use Rattle.transposition.specs.Worlds.{in_iteration}
use Rattle.undo_steps.specs.declared.undo.UndoAround.{UndoAround}
use Rattle.undo_steps.specs.UndoSteps.{UndoArm, around_undo, undo_tree, undo_trees, undo_arm_trees}
use Rattle.undo_steps.specs.UndosStand.{AroundUndoes, UndoStands, AllUndoStand, UndoArmsStand}
use Rattle.loop_scopes.specs.declared.loops.Loops.{the_lemmas as loops_lemmas}
use Rattle.loop_scopes.specs.Loops.{names_in}
use Rattle.loop_scopes.proofs.Nesting.{nest_body, plain_body}
use Rattle.made_steps.proofs.Making.{pushed_front, arms_fit, arms_kinded, do_is, do_kinded}
use Rattle.made_growths.specs.Told.{told}
use Rattle.made_undos.specs.declared.around.ParallelUndo.{ParallelUndo}
use Rattle.made_undos.specs.UndoScopes.{IsUndoScope}
use Rattle.made_undos.proofs.Making.{loop_is, all_undone, all_arms_undone, arm_undone}
use Rattle.made_undos.proofs.undos.+undos.Goals as goal

-- ---- what calls require

pub make_undo-make_turns-requires : goal.make_undo-make_turns-requires
make_undo-make_turns-requires t c =
    let s = c.args.table.now in
    let f = do_fit s c.args.stmt.now _ _ _ c.in-Do.head c.in-Do.body c.in-Do.is c.requires.fit in
    let k = do_kinded (names_at (table_site s)) s.0 c.args.stmt.now _ _ _ c.in-Do.head c.in-Do.body c.in-Do.is c.requires.kinded in
    let b = c.as_slice-in-None.ensures in (
      search (rules, statement_lemmas),
      (c.requires.once, (c.requires.declared, (ltb-true _ _ f.0, (ap (are_fit s) b ∙ f.4, ap (λ ss. are_well_kinded_statements (names_at (table_site s)) (statements_back s.0 ss)) b ∙ k.1)))),
    )

pub make_undo-make_iterations-requires : goal.make_undo-make_iterations-requires
make_undo-make_iterations-requires t c =
    let s = c.args.table.now in
    let f = do_fit s c.args.stmt.now _ _ _ c.in-Do.head c.in-Do.body c.in-Do.is c.requires.fit in
    let k = do_kinded (names_at (table_site s)) s.0 c.args.stmt.now _ _ _ c.in-Do.head c.in-Do.body c.in-Do.is c.requires.kinded in
    let b = c.as_slice-in-Some.ensures in (
      search (rules, statement_lemmas),
      (c.requires.once, (c.requires.declared, (ltb-true _ _ f.0, (ap (are_fit s) b ∙ f.4, ap (λ ss. are_well_kinded_statements (names_at (table_site s)) (statements_back s.0 ss)) b ∙ k.1)))),
    )

pub make_inner-make_undos-requires : goal.make_inner-make_undos-requires
make_inner-make_undos-requires t c =
    let s = c.args.table.now in
    let f = do_fit s c.args.stmt.now _ _ _ c.in-Do.head c.in-Do.body c.in-Do.is c.requires.fit in
    let k = do_kinded (names_at (table_site s)) s.0 c.args.stmt.now _ _ _ c.in-Do.head c.in-Do.body c.in-Do.is c.requires.kinded in
    let b = c.as_slice.ensures in (
      search (rules, statement_lemmas),
      (c.requires.once, (c.requires.declared, (ap (are_fit s) b ∙ f.4, ap (λ ss. are_well_kinded_statements (names_at (table_site s)) (statements_back s.0 ss)) b ∙ k.1))),
    )

-- ---- statements

pub make_undo-returns-in-Assign : goal.make_undo-returns-in-Assign
make_undo-returns-in-Assign t c w sc =
    let s = c.args.table.now in
    let e : statement_back s.0 c.args.stmt.now ≡ assignment c.in-Assign.line c.in-Assign.atomic (place_back s.0 c.in-Assign.target) (expression_back s.0 c.in-Assign.value) = search (rules, statement_lemmas) in
    subst (λ stmt. IfOk c.undo_assignment.result (λ step. UndoStands s w (undo_tree step) stmt)) (sym e) (c.undo_assignment.ensures w (names_in c.args.loops.now) c.in-Assign.line sc)

pub make_undo-returns-in-None : goal.make_undo-returns-in-None
make_undo-returns-in-None t c w sc =
    let s = c.args.table.now in
    let h = c.in-Do.head in
    let e = do_is s.0 c.args.stmt.now c.in-Do.line c.in-Do.number c.in-Do.directive None h c.in-Do.body c.as_slice-in-None.result.now c.in-Do.is c.in-None.is c.as_slice-in-None.ensures in
    subst (λ stmt. IfOk c.make_turns.result (λ undo. UndoStands s w (undo_tree undo) stmt)) (sym e)
    (c.make_turns.ensures w sc c.in-Do.number (expression_back s.0 h.first) (expression_back s.0 h.last) (option_back s.0 h.step))

pub make_undo-returns-in-Some : goal.make_undo-returns-in-Some
make_undo-returns-in-Some t c w sc =
    let s = c.args.table.now in
    let h = c.in-Do.head in
    let e = do_is s.0 c.args.stmt.now c.in-Do.line c.in-Do.number c.in-Do.directive (Some c.get.result.now) h c.in-Do.body c.as_slice-in-Some.result.now c.in-Do.is (c.in-Some.is ∙ ap Some (sym c.get.ensures))
    c.as_slice-in-Some.ensures in
    subst (λ stmt. IfOk c.make_iterations.result (λ undo. UndoStands s w (undo_tree undo) stmt)) (sym e)
    (c.make_iterations.ensures w sc (expression_back s.0 h.first) (expression_back s.0 h.last) (option_back s.0 h.step))

pub make_undos-returns : goal.make_undos-returns
make_undos-returns t c w sc = all_undone c.args.table.now w c.args.stmts.now c.loop-stmt.stmt-index c.loop-stmt.all c.loop-stmt-test.false (c.loop-stmt.invariant.undone w sc)

-- ---- arms

pub make_arms-loop-arm-preserved : goal.make_arms-loop-arm-preserved
make_arms-loop-arm-preserved t c =
    let s = c.args.table.now in
    let xs = c.args.arms.now in
    let i = c.loop-arm.arm-index in
    let x = c.arm-item.result in
    let made : UndoArm = record { test = tt; body = c.in_ok-body.body } in
    record {
      undone = λ w sc rest h.
          let body = subst (λ ss. AllUndoStand s w (undo_trees c.in_ok-body.body) (statements_back s.0 ss)) c.as_slice.ensures (c.in_ok-body.ensures w sc) in
          subst (λ all. UndoArmsStand s w (undo_arm_trees all) (arms_back s.0 xs)) (sym (pushed_front c.loop-arm.all c.push.new.self rest made c.in_ok-push.ensures.ok))
          (c.loop-arm.invariant.undone w sc (made ∷ rest) (arm_undone s w xs i x made rest c.loop-arm-test.true c.arm-item.is body h));
      fit = (arms_fit s xs i x c.loop-arm-test.true c.arm-item.is c.loop-arm.invariant.fit).1;
      kinded = (arms_kinded (names_at (table_site s)) s.0 xs i x c.loop-arm-test.true c.arm-item.is c.loop-arm.invariant.kinded).2;
    }

pub make_arms-returns : goal.make_arms-returns
make_arms-returns t c w sc = all_arms_undone c.args.table.now w c.args.arms.now c.loop-arm.arm-index c.loop-arm.all c.loop-arm-test.false (c.loop-arm.invariant.undone w sc)

-- ---- parallel loops

pub make_iteration-returns-then-is_nest : goal.make_iteration-returns-then-is_nest
make_iteration-returns-then-is_nest t c w sc =
    let s = c.args.table.now in
    let yes : c.is_nest.result ≡ true = search rules in
    let e = nest_body s.0 c.args.directive.now c.args.body.now c.index-body-0.result (c.is_nest.ensures.one yes) c.index-body-0.is (sym (c.is_nest.ensures.value s.0) ∙ yes) in
    subst (λ ss. IfOk c.make_inner.result (λ undos. AllUndoStand s w (undo_trees undos) ss)) (sym e) (c.make_inner.ensures w sc)

pub make_iteration-returns : goal.make_iteration-returns
make_iteration-returns t c w sc =
    let s = c.args.table.now in
    let no : c.is_nest.result ≡ false = search rules in
    let e = plain_body c.args.directive.now (statements_back s.0 c.args.body.now) (sym (c.is_nest.ensures.value s.0) ∙ no) in
    subst (λ ss. IfOk c.make_undos.result (λ undos. AllUndoStand s w (undo_trees undos) ss)) (sym e) (c.make_undos.ensures w sc)

pub make_iterations-returns : goal.make_iterations-returns
make_iterations-returns t c w sc first last step =
    let s = c.args.table.now in
    let told_here = told c.args.names.now in
    let var = slot_name s.0 c.args.variable in
    let body = statements_back s.0 c.args.body.now in
    let within = in_iteration w c.args.number c.args.directive.now var body in
    let outer = names_in c.args.loops.now in
    let entered = c.in_ok-made.ensures w c.args.marks.now.accessed c.args.marks.now.reduced c.args.region sc in
    let around = subst (λ (a : UndoAround). AroundUndoes s w c.args.number (Some c.args.directive.now) var body (around_undo a)) (sym c.around_of.ensures) entered.0 in
    let scope : IsUndoScope s told_here c.get.result.now.marks.accessed c.get.result.now.marks.reduced (Some c.args.number) (var ∷ outer) within
    = subst (λ (p : ParallelUndo). IsUndoScope s told_here p.marks.accessed p.marks.reduced (Some c.args.number) (var ∷ outer) within) (sym c.get.ensures) entered.1 in
    subst
    (λ tree. UndoStands s w tree (loop c.args.line c.args.number (Some c.args.directive.now) var first last step body))
    (sym (loop_is c.args.line c.around_of.result c.in_ok-body.body))
    (around, c.in_ok-body.ensures within (subst (λ xs. IsUndoScope s told_here c.get.result.now.marks.accessed c.get.result.now.marks.reduced (Some c.args.number) xs within) (search (rules, loops_lemmas)) scope))

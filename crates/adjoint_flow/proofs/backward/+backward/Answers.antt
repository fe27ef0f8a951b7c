use Rattle.std.proofs.Common.{◌-◌, map, arith}
use Rattle.fl_ast.specs.AdjointTree.{astmt_tree}
use Rattle.reversal.specs.Places.{scope_of}
use Rattle.adjoint_rules.specs.Reverse.{backward_all, backward_inner}
use Rattle.adjoint_flow.proofs.Parts.{backward_arm_parts}
use Rattle.adjoint_flow.proofs.Trees.{backward_branch, backward_plain, backward_shared, made_in}
use Rattle.adjoint_flow.proofs.Arms.{on_ok, backward_arm_more, backward_arms_done, taken_back}
use Rattle.adjoint_flow.proofs.backward.+backward.Goals as goal

pub backward_all-loop-at-preserved : goal.backward_all-loop-at-preserved
backward_all-loop-at-preserved t c = record {
  within = omega (arith, c.loop-at.invariant.within);
  done =
      taken_back (scope_of c.args.scope.now) c.loop-at.at (c.loop-at.at - 1) c.args.stmts.now c.index-stmts-at.result (map astmt_tree c.loop-at.statements) (map astmt_tree c.push_backward.new.statements)
      (omega (arith, c.loop-at-test.true)) c.loop-at.invariant.within c.index-stmts-at.is c.loop-at.invariant.done c.in_ok-push_backward.ensures;
}

pub backward_arms-loop-i-preserved : goal.backward_arms-loop-i-preserved
backward_arms-loop-i-preserved t c =
    backward_arm_more (scope_of c.args.scope.now) c.loop-i.i c.args.arms.now c.index-arms-i.result c.as_slice.result.now c.backward_all.result c.in_ok-backward_arm.field-0 c.loop-i.all c.push.new.self
    (backward_arm_parts (scope_of c.args.scope.now) 0 c.args.arms.now)
    c.loop-i-test.true c.index-arms-i.is c.as_slice.ensures c.backward_all.ensures c.in_ok-backward_arm.ensures c.in_ok-push.ensures.ok c.loop-i.invariant

pub backward_arms-returns : goal.backward_arms-returns
backward_arms-returns t c = backward_arms_done (scope_of c.args.scope.now) c.loop-i.i c.args.arms.now c.loop-i.all c.loop-i-test.false c.loop-i.invariant

pub push_backward-returns-then-is_nest : goal.push_backward-returns-then-is_nest
push_backward-returns-then-is_nest t c =
    on_ok c.backward_parallel.result
    (λ e. backward_shared (scope_of c.args.scope.now) c.args.stmt.now c.in-Do.line c.in-Do.number c.in-Do.directive c.in-Some.directive c.in-Do.var c.in-Do.first c.in-Do.last c.in-Do.step c.in-Do.body c.as_slice-then-is_nest.result.now c.as_slice-in-Some-2.result.now
    c.is_nest.result c.backward_inner.result (map astmt_tree c.args.statements.now) (map astmt_tree c.backward_parallel.new.statements)
    c.in-Do.is c.in-Some.is c.as_slice-then-is_nest.ensures c.as_slice-in-Some-2.ensures c.is_nest.ensures
    (rw c.if-is_nest.true (made_in backward_inner c.backward_inner.result c.in-Do.body c.as_slice-then-is_nest-2.result.now c.as_slice-in-Some.result.now (scope_of c.inside-within.result) (scope_of c.args.scope.now) c.in-Do.number c.in-Some.directive c.in-Do.var
    c.as_slice-then-is_nest-2.ensures c.as_slice-in-Some.ensures c.inside-within.ensures c.backward_inner.ensures))
    e)
    c.backward_parallel.ensures

pub push_backward-returns-in_ok-push_popped_number-in-If : goal.push_backward-returns-in_ok-push_popped_number-in-If
push_backward-returns-in_ok-push_popped_number-in-If t c =
    on_ok c.push_branch.result
    (λ e. backward_branch (scope_of c.args.scope.now) c.args.stmt.now c.in-If.line c.in-If.arms c.as_slice.result.now c.in-If.other c.as_slice-in-If.result.now c.backward_arms.result c.backward_all.result
    (map astmt_tree c.args.statements.now) (map astmt_tree c.push_popped_number.new.statements) (map astmt_tree c.push_branch.new.statements)
    c.in-If.is c.as_slice.ensures c.as_slice-in-If.ensures c.in_ok-push_popped_number-in-If.ensures c.backward_arms.ensures c.backward_all.ensures e)
    c.push_branch.ensures

pub push_backward-returns-in-None : goal.push_backward-returns-in-None
push_backward-returns-in-None t c =
    on_ok c.backward_loop.result
    (λ e. backward_plain (scope_of c.args.scope.now) c.args.stmt.now c.in-Do.line c.in-Do.number c.in-Do.directive c.in-Do.var c.in-Do.first c.in-Do.last c.in-Do.step c.in-Do.body c.as_slice-in-None.result.now c.backward_all-in-None.result
    (map astmt_tree c.args.statements.now) (map astmt_tree c.backward_loop.new.statements) c.in-Do.is c.in-None.is c.as_slice-in-None.ensures c.backward_all-in-None.ensures e)
    c.backward_loop.ensures

pub push_backward-returns-else-is_nest : goal.push_backward-returns-else-is_nest
push_backward-returns-else-is_nest t c =
    on_ok c.backward_parallel-in-Some.result
    (λ e. backward_shared (scope_of c.args.scope.now) c.args.stmt.now c.in-Do.line c.in-Do.number c.in-Do.directive c.in-Some.directive c.in-Do.var c.in-Do.first c.in-Do.last c.in-Do.step c.in-Do.body c.as_slice-in-Some-3.result.now c.as_slice-in-Some-2.result.now
    c.is_nest.result c.backward_all-in-Some.result (map astmt_tree c.args.statements.now) (map astmt_tree c.backward_parallel-in-Some.new.statements)
    c.in-Do.is c.in-Some.is c.as_slice-in-Some-3.ensures c.as_slice-in-Some-2.ensures c.is_nest.ensures
    (rw c.if-is_nest.false (made_in backward_all c.backward_all-in-Some.result c.in-Do.body c.as_slice-in-Some-4.result.now c.as_slice-in-Some.result.now (scope_of c.inside-within.result) (scope_of c.args.scope.now) c.in-Do.number c.in-Some.directive c.in-Do.var
    c.as_slice-in-Some-4.ensures c.as_slice-in-Some.ensures c.inside-within.ensures c.backward_all-in-Some.ensures))
    e)
    c.backward_parallel-in-Some.ensures

use Rattle.std.proofs.Common.{map, refl}
use Rattle.fl_ast.specs.AdjointTree.{astmt_tree}
use Rattle.reversal.specs.Places.{scope_of}
use Rattle.adjoint_rules.specs.Forward.{forward_all, forward_inner}
use Rattle.adjoint_flow.proofs.Parts.{forward_arm_parts}
use Rattle.adjoint_flow.proofs.Trees.{forward_branch, forward_plain, forward_shared, made_in}
use Rattle.adjoint_flow.proofs.Arms.{on_ok, forward_arm_more, forward_arms_done}
use Rattle.adjoint_flow.proofs.forward.+forward.Goals as goal

pub forward_arms-loop-i-preserved : goal.forward_arms-loop-i-preserved
forward_arms-loop-i-preserved t c =
    forward_arm_more (scope_of c.args.scope.now) c.args.line c.loop-i.i c.args.arms.now c.index-arms-i.result c.as_slice.result.now c.forward_all.result c.numbered.result c.in_ok-forward_arm.field-0 c.loop-i.all c.push.new.self
    (forward_arm_parts (scope_of c.args.scope.now) c.args.line 0 c.args.arms.now)
    c.loop-i-test.true c.index-arms-i.is c.as_slice.ensures c.forward_all.ensures c.numbered.ensures c.in_ok-forward_arm.ensures c.in_ok-push.ensures.ok c.loop-i.invariant

pub forward_arms-returns : goal.forward_arms-returns
forward_arms-returns t c = forward_arms_done (scope_of c.args.scope.now) c.args.line c.loop-i.i c.args.arms.now c.loop-i.all c.loop-i-test.false c.loop-i.invariant

pub push_forward-returns-then-is_nest : goal.push_forward-returns-then-is_nest
push_forward-returns-then-is_nest t c =
    on_ok c.forward_parallel.result
    (λ e. forward_shared (scope_of c.args.scope.now) c.args.stmt.now c.in-Do.line c.in-Do.number c.in-Do.directive c.in-Some.directive c.in-Do.var c.in-Do.first c.in-Do.last c.in-Do.step c.in-Do.body c.as_slice-then-is_nest.result.now c.as_slice-in-Some-2.result.now
    c.is_nest.result c.forward_inner.result (map astmt_tree c.args.statements.now) (map astmt_tree c.forward_parallel.new.statements)
    c.in-Do.is c.in-Some.is c.as_slice-then-is_nest.ensures c.as_slice-in-Some-2.ensures c.is_nest.ensures
    (rw c.if-is_nest.true (made_in forward_inner c.forward_inner.result c.in-Do.body c.as_slice-then-is_nest-2.result.now c.as_slice-in-Some.result.now (scope_of c.inside-within.result) (scope_of c.args.scope.now) c.in-Do.number c.in-Some.directive c.in-Do.var
    c.as_slice-then-is_nest-2.ensures c.as_slice-in-Some.ensures c.inside-within.ensures c.forward_inner.ensures))
    e)
    c.forward_parallel.ensures

pub push_forward-returns-in-If : goal.push_forward-returns-in-If
push_forward-returns-in-If t c =
    on_ok c.push_branch.result
    (λ e. forward_branch (scope_of c.args.scope.now) c.args.stmt.now c.in-If.line c.len.result c.in-If.arms c.as_slice.result.now c.in-If.arms c.in-If.other c.as_slice-in-If.result.now c.forward_arms.result c.forward_all.result c.numbered.result
    (map astmt_tree c.args.statements.now) (map astmt_tree c.push_branch.new.statements)
    c.in-If.is c.as_slice.ensures c.as_slice-in-If.ensures refl c.len.ensures c.forward_arms.ensures c.forward_all.ensures c.numbered.ensures e)
    c.push_branch.ensures

pub push_forward-returns-in-None : goal.push_forward-returns-in-None
push_forward-returns-in-None t c =
    on_ok c.forward_loop.result
    (λ e. forward_plain (scope_of c.args.scope.now) c.args.stmt.now c.in-Do.line c.in-Do.number c.in-Do.directive c.in-Do.var c.in-Do.first c.in-Do.last c.in-Do.step c.in-Do.body c.as_slice-in-None.result.now c.forward_all-in-None.result
    (map astmt_tree c.args.statements.now) (map astmt_tree c.forward_loop.new.statements) c.in-Do.is c.in-None.is c.as_slice-in-None.ensures c.forward_all-in-None.ensures e)
    c.forward_loop.ensures

pub push_forward-returns-else-is_nest : goal.push_forward-returns-else-is_nest
push_forward-returns-else-is_nest t c =
    on_ok c.forward_parallel-in-Some.result
    (λ e. forward_shared (scope_of c.args.scope.now) c.args.stmt.now c.in-Do.line c.in-Do.number c.in-Do.directive c.in-Some.directive c.in-Do.var c.in-Do.first c.in-Do.last c.in-Do.step c.in-Do.body c.as_slice-in-Some-3.result.now c.as_slice-in-Some-2.result.now
    c.is_nest.result c.forward_all-in-Some.result (map astmt_tree c.args.statements.now) (map astmt_tree c.forward_parallel-in-Some.new.statements)
    c.in-Do.is c.in-Some.is c.as_slice-in-Some-3.ensures c.as_slice-in-Some-2.ensures c.is_nest.ensures
    (rw c.if-is_nest.false (made_in forward_all c.forward_all-in-Some.result c.in-Do.body c.as_slice-in-Some-4.result.now c.as_slice-in-Some.result.now (scope_of c.inside-within.result) (scope_of c.args.scope.now) c.in-Do.number c.in-Some.directive c.in-Do.var
    c.as_slice-in-Some-4.ensures c.as_slice-in-Some.ensures c.inside-within.ensures c.forward_all-in-Some.ensures))
    e)
    c.forward_parallel-in-Some.ensures

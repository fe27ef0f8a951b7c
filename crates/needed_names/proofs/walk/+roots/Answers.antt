use Rattle.std.proofs.Common.{ap, ◌++◌, ◌∙◌, refl}
use Rattle.needed_names.specs.Terms.{kinds_in}
use Rattle.needed_names.proofs.Parts.{roots_twice, root_parts, roots_are, arm_root_parts, arm_roots_are, finished}
use Rattle.needed_names.proofs.Leaves.{on_ok, assignment_roots}
use Rattle.needed_names.proofs.walk.+roots.Goals as goal

pub push_roots-returns-in_ok-push_roots_in-in-If : goal.push_roots-returns-in_ok-push_roots_in-in-If
push_roots-returns-in_ok-push_roots_in-in-If t c =
    roots_twice c.args.decls.now (kinds_in c.args.decls.now c.args.active.now.names) c.args.stmt.now c.in-If.line c.in-If.arms c.as_slice.result.now c.in-If.other c.as_slice-in-If.result.now
    c.args.nodes.now c.push_roots_in_arms.new.nodes c.push_roots_in.new.nodes c.in-If.is c.as_slice.ensures c.as_slice-in-If.ensures c.in_ok-push_roots_in_arms-in-If.ensures c.in_ok-push_roots_in-in-If.ensures

pub push_roots_in-returns : goal.push_roots_in-returns
push_roots_in-returns t c =
    finished (root_parts c.args.decls.now (kinds_in c.args.decls.now c.args.active.now.names)) refl c.args.stmts.now c.loop-stmt.stmt-index c.loop-stmt.nodes c.args.nodes.now c.loop-stmt.invariant c.loop-stmt-test.false
    ∙ ap (λ r. c.args.nodes.now ++ r) (roots_are c.args.decls.now (kinds_in c.args.decls.now c.args.active.now.names) c.args.stmts.now)

pub push_roots_in_arms-returns : goal.push_roots_in_arms-returns
push_roots_in_arms-returns t c =
    finished (arm_root_parts c.args.decls.now (kinds_in c.args.decls.now c.args.active.now.names)) refl c.args.arms.now c.loop-arm.arm-index c.loop-arm.nodes c.args.nodes.now c.loop-arm.invariant c.loop-arm-test.false
    ∙ ap (λ r. c.args.nodes.now ++ r) (arm_roots_are c.args.decls.now (kinds_in c.args.decls.now c.args.active.now.names) c.args.arms.now)

pub push_roots-returns-in-Assign : goal.push_roots-returns-in-Assign
push_roots-returns-in-Assign t c =
    on_ok c.push_assignment_reads.result
    (λ e. assignment_roots c.args.decls.now (kinds_in c.args.decls.now c.args.active.now.names) c.args.stmt.now c.in-Assign.line c.in-Assign.atomic c.in-Assign.target c.in-Assign.value
    c.args.nodes.now c.push_assignment_reads.new.nodes c.in-Assign.is e)
    c.push_assignment_reads.ensures

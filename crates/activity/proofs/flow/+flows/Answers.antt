use Rattle.std.proofs.Common.{ap, ◌++◌, ◌∙◌, refl, sym}
use Rattle.fl_ast.specs.Tree.{arm_trees, stmt_trees}
use Rattle.fl_types.specs.Sharing.{is_ring_name}
use Rattle.reachability.specs.Named.{links_of}
use Rattle.activity.specs.Active.{flows, flows_in, flows_in_arms}
use Rattle.activity.proofs.Parts.{joined, branch_of, statement_links, statements_are, arm_links, arms_are, finished}
use Rattle.activity.proofs.flow.+flows.Goals as goal

pub push_flows-returns-in_ok-push_flows_in-in-If : goal.push_flows-returns-in_ok-push_flows_in-in-If
push_flows-returns-in_ok-push_flows_in-in-If t c =
    joined c.args.decls.now (flows_in_arms (is_ring_name c.args.decls.now) (arm_trees c.as_slice.result.now)) (flows_in (is_ring_name c.args.decls.now) (stmt_trees c.as_slice-in-If.result.now))
    c.args.links.now c.push_flows_in_arms.new.links c.push_flows_in.new.links c.in_ok-push_flows_in_arms-in-If.ensures c.in_ok-push_flows_in-in-If.ensures
    ∙ ap (λ e. c.args.links.now ++ links_of c.args.decls.now (flows (is_ring_name c.args.decls.now) e))
    (sym (branch_of c.args.stmt.now c.in-If.line c.in-If.arms c.as_slice.result.now c.in-If.other c.as_slice-in-If.result.now c.in-If.is c.as_slice.ensures c.as_slice-in-If.ensures))

pub push_flows_in-returns : goal.push_flows_in-returns
push_flows_in-returns t c =
    finished (statement_links c.args.decls.now) refl c.args.stmts.now c.loop-stmt.stmt-index c.loop-stmt.links c.args.links.now c.loop-stmt.invariant c.loop-stmt-test.false
    ∙ ap (λ r. c.args.links.now ++ r) (statements_are c.args.decls.now c.args.stmts.now)

pub push_flows_in_arms-returns : goal.push_flows_in_arms-returns
push_flows_in_arms-returns t c =
    finished (arm_links c.args.decls.now) refl c.args.arms.now c.loop-arm.arm-index c.loop-arm.links c.args.links.now c.loop-arm.invariant c.loop-arm-test.false
    ∙ ap (λ r. c.args.links.now ++ r) (arms_are c.args.decls.now c.args.arms.now)

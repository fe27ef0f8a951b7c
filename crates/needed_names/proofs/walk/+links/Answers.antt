use Rattle.std.proofs.Common.{ap, ◌++◌, ◌∙◌, refl}
use Rattle.needed_names.specs.Terms.{kinds_in}
use Rattle.needed_names.proofs.Parts.{links_twice, link_parts, restorings_are, arm_link_parts, arm_restorings_are, finished}
use Rattle.needed_names.proofs.Leaves.{on_ok, assignment_links}
use Rattle.needed_names.proofs.walk.+links.Goals as goal

pub push_links-returns-in_ok-push_links_in-in-If : goal.push_links-returns-in_ok-push_links_in-in-If
push_links-returns-in_ok-push_links_in-in-If t c =
    links_twice c.args.decls.now (kinds_in c.args.decls.now c.args.active.now.names) c.args.stmt.now c.in-If.line c.in-If.arms c.as_slice.result.now c.in-If.other c.as_slice-in-If.result.now
    c.args.links.now c.push_links_in_arms.new.links c.push_links_in.new.links c.in-If.is c.as_slice.ensures c.as_slice-in-If.ensures c.in_ok-push_links_in_arms-in-If.ensures c.in_ok-push_links_in-in-If.ensures

pub push_links_in-returns : goal.push_links_in-returns
push_links_in-returns t c =
    finished (link_parts c.args.decls.now (kinds_in c.args.decls.now c.args.active.now.names)) refl c.args.stmts.now c.loop-stmt.stmt-index c.loop-stmt.links c.args.links.now c.loop-stmt.invariant c.loop-stmt-test.false
    ∙ ap (λ r. c.args.links.now ++ r) (restorings_are c.args.decls.now (kinds_in c.args.decls.now c.args.active.now.names) c.args.stmts.now)

pub push_links_in_arms-returns : goal.push_links_in_arms-returns
push_links_in_arms-returns t c =
    finished (arm_link_parts c.args.decls.now (kinds_in c.args.decls.now c.args.active.now.names)) refl c.args.arms.now c.loop-arm.arm-index c.loop-arm.links c.args.links.now c.loop-arm.invariant c.loop-arm-test.false
    ∙ ap (λ r. c.args.links.now ++ r) (arm_restorings_are c.args.decls.now (kinds_in c.args.decls.now c.args.active.now.names) c.args.arms.now)

pub push_links-returns-in-Assign : goal.push_links-returns-in-Assign
push_links-returns-in-Assign t c =
    on_ok c.push_assignment_links.result
    (λ e. assignment_links c.args.decls.now (kinds_in c.args.decls.now c.args.active.now.names) c.args.stmt.now c.in-Assign.line c.in-Assign.atomic c.in-Assign.target c.in-Assign.value
    c.args.links.now c.push_assignment_links.new.links c.in-Assign.is e)
    c.push_assignment_links.ensures

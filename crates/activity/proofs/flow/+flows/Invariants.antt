use Rattle.std.proofs.Common.{◌≡◌, ◌++◌, drop}
use Rattle.activity.proofs.Parts.{statement_links, arm_links}
use Rattle.activity.proofs.flow.+flows.Given as goal

-- the edges so far and those of the rest are all
abbrev pub invariant-push_flows_in-loop-stmt : goal.invariant-push_flows_in-loop-stmt
invariant-push_flows_in-loop-stmt l = l.links ++ statement_links l.decls (drop l.stmt-index l.stmts) ≡ l.fn.links ++ statement_links l.decls l.stmts

abbrev pub invariant-push_flows_in_arms-loop-arm : goal.invariant-push_flows_in_arms-loop-arm
invariant-push_flows_in_arms-loop-arm l = l.links ++ arm_links l.decls (drop l.arm-index l.arms) ≡ l.fn.links ++ arm_links l.decls l.arms

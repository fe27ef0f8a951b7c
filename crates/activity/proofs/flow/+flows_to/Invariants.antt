use Rattle.std.proofs.Common.{◌≡◌, ◌++◌, drop}
use Rattle.activity.proofs.Parts.{expression_links}
use Rattle.activity.proofs.flow.+flows_to.Given as goal

-- the edges so far and those of the rest are all
abbrev pub invariant-push_all_flows_to-loop-expr : goal.invariant-push_all_flows_to-loop-expr
invariant-push_all_flows_to-loop-expr l =
    l.links ++ expression_links l.decls l.target (drop l.expr-index l.exprs) ≡ l.fn.links ++ expression_links l.decls l.target l.exprs

use Rattle.std.proofs.Common.{ap, ◌++◌, ◌∙◌, refl, sym}
use Rattle.fl_ast.specs.Tree.{expr_tree}
use Rattle.fl_types.specs.Sharing.{is_ring_name}
use Rattle.reachability.specs.Named.{links_of}
use Rattle.activity.specs.Active.{flows_to}
use Rattle.activity.proofs.Parts.{joined, tree_of, expression_links, expressions_are, finished}
use Rattle.activity.proofs.flow.+flows_to.Goals as goal

pub push_all_flows_to-returns : goal.push_all_flows_to-returns
push_all_flows_to-returns t c =
    finished (expression_links c.args.decls.now c.args.target.now) refl c.args.exprs.now c.loop-expr.expr-index c.loop-expr.links c.args.links.now c.loop-expr.invariant c.loop-expr-test.false
    ∙ ap (λ r. c.args.links.now ++ r) (expressions_are c.args.decls.now c.args.target.now c.args.exprs.now)

pub push_flows_to-returns-in_ok-push_flows_to-in-Bin-2 : goal.push_flows_to-returns-in_ok-push_flows_to-in-Bin-2
push_flows_to-returns-in_ok-push_flows_to-in-Bin-2 t c =
    joined c.args.decls.now (flows_to (is_ring_name c.args.decls.now) c.args.target.now (expr_tree c.get-in-Bin.result.now)) (flows_to (is_ring_name c.args.decls.now) c.args.target.now (expr_tree c.get-in-Bin-2.result.now))
    c.args.links.now c.push_flows_to-in-Bin.new.links c.push_flows_to-in-Bin-2.new.links c.in_ok-push_flows_to-in-Bin.ensures c.in_ok-push_flows_to-in-Bin-2.ensures
    ∙ ap (λ e. c.args.links.now ++ links_of c.args.decls.now (flows_to (is_ring_name c.args.decls.now) c.args.target.now e))
    (sym (tree_of c.args.expr.now c.in-Bin.op c.in-Bin.left c.in-Bin.right c.get-in-Bin.result.now c.get-in-Bin-2.result.now c.in-Bin.is c.get-in-Bin.ensures c.get-in-Bin-2.ensures))

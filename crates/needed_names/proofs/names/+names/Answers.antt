use Rattle.std.proofs.Common.{ap, ◌++◌, ◌∙◌, refl, sym}
use Rattle.fl_ast.specs.Tree.{expr_tree}
use Rattle.reachability.specs.Named.{indexes_of}
use Rattle.adjoint_rules.specs.Needed.{names_in}
use Rattle.needed_names.proofs.Parts.{names_twice, tree_of, name_parts, names_are, finished}
use Rattle.needed_names.proofs.names.+names.Goals as goal

pub push_all_names-returns : goal.push_all_names-returns
push_all_names-returns t c =
    finished (name_parts c.args.decls.now) refl c.args.exprs.now c.loop-expr.expr-index c.loop-expr.nodes c.args.nodes.now c.loop-expr.invariant c.loop-expr-test.false
    ∙ ap (λ r. c.args.nodes.now ++ r) (names_are c.args.decls.now c.args.exprs.now)

pub push_names-returns-in_ok-push_names-in-Bin-2 : goal.push_names-returns-in_ok-push_names-in-Bin-2
push_names-returns-in_ok-push_names-in-Bin-2 t c =
    names_twice c.args.decls.now (names_in (expr_tree c.get-in-Bin.result.now)) (names_in (expr_tree c.get-in-Bin-2.result.now))
    c.args.nodes.now c.push_names-in-Bin.new.nodes c.push_names-in-Bin-2.new.nodes c.in_ok-push_names-in-Bin.ensures c.in_ok-push_names-in-Bin-2.ensures
    ∙ ap (λ e. c.args.nodes.now ++ indexes_of c.args.decls.now (names_in e))
    (sym (tree_of c.args.expr.now c.in-Bin.op c.in-Bin.left c.in-Bin.right c.get-in-Bin.result.now c.get-in-Bin-2.result.now c.in-Bin.is c.get-in-Bin.ensures c.get-in-Bin-2.ensures))

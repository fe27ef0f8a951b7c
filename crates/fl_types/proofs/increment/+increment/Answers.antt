use Rattle.std.proofs.Common.{◌≡◌, rules, is_some, ap, sym, ◌∙◌}
use Rattle.fl_ast.specs.declared.expr.Expr.{the_lemmas as expr_lemmas}
use Rattle.fl_ast.specs.declared.kind.BinOp.TheVariants.{Add, Sub}
use Rattle.fl_ast.specs.Tree.{expr_tree, place_tree, binary}
use Rattle.fl_types.specs.Increment.{target_of, chain, if_free}
use Rattle.fl_types.proofs.Increments.{adds, subtracts}
use Rattle.fl_types.proofs.increment.+increment.Goals as goal

pub is_chain-returns-in-Add : goal.is_chain-returns-in-Add
is_chain-returns-in-Add t c =
    let p = place_tree c.args.target.now in
    let e : expr_tree c.args.value.now ≡ binary Add (expr_tree c.get.result.now) (expr_tree c.get-in-Add.result.now) = search (rules, expr_lemmas) in
    c.goes_on.ensures ∙ adds p (expr_tree c.get.result.now) (expr_tree c.get-in-Add.result.now) ∙ ap (λ x. is_some (if_free p.name (chain (target_of p) x))) (sym e)

pub is_chain-returns-in-Sub : goal.is_chain-returns-in-Sub
is_chain-returns-in-Sub t c =
    let p = place_tree c.args.target.now in
    let e : expr_tree c.args.value.now ≡ binary Sub (expr_tree c.get-in-Sub.result.now) (expr_tree c.get-in-Sub-2.result.now) = search (rules, expr_lemmas) in
    c.goes_on-in-Sub.ensures ∙ subtracts p (expr_tree c.get-in-Sub.result.now) (expr_tree c.get-in-Sub-2.result.now) ∙ ap (λ x. is_some (if_free p.name (chain (target_of p) x))) (sym e)

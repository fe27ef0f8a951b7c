use Rattle.std.proofs.Common.{◌≡◌, rules, is_some, ap, sym, ◌∙◌}
use Rattle.fl_ast.specs.declared.expr.Expr.{the_lemmas as expr_lemmas}
use Rattle.fl_ast.specs.declared.kind.BinOp.TheVariants.{Add}
use Rattle.fl_ast.specs.Tree.{expr_tree, place_tree, binary}
use Rattle.fl_types.specs.Increment.{target_of, first_of_sum, if_free}
use Rattle.fl_types.proofs.Increments.{sums}
use Rattle.fl_types.proofs.increment.is_sum.Goals as goal

pub returns-in-Bin-Add-default-default : goal.returns-in-Bin-Add-default-default
returns-in-Bin-Add-default-default c =
    let p = place_tree c.args.target.now in
    let e : expr_tree c.args.value.now ≡ binary Add (expr_tree c.get.result.now) (expr_tree c.get-in-Bin-Add-default-default.result.now) = search (rules, expr_lemmas) in
    c.ends.ensures ∙ sums p (expr_tree c.get.result.now) (expr_tree c.get-in-Bin-Add-default-default.result.now) ∙ ap (λ x. is_some (if_free p.name (first_of_sum (target_of p) x))) (sym e)

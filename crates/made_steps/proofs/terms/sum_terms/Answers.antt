use Rattle.std.proofs.Common.{rules, ◌≡◌, subst, []}
use Rattle.fl_ast.specs.declared.kind.BinOp.TheVariants.{Add}
use Rattle.fl_ast.specs.Tree.{binary}
use Rattle.fl_types.specs.Increment.{target_of}
use Rattle.resolved.specs.declared.resolved.ResolvedExpr.{the_lemmas as resolved_lemmas}
use Rattle.resolved.specs.ResolvedExprs.{expression_back, place_back}
use Rattle.made_steps.specs.Scopes.{AreTerms}
use Rattle.made_steps.proofs.Chains.{summed, none_are}
use Rattle.made_steps.proofs.terms.sum_terms.Goals as goal

pub returns : goal.returns
returns c rs h =
    let s = c.args.table.now.0 in
    let f : expression_back s c.args.value.now ≡ binary Add (expression_back s c.get.result.now) (expression_back s c.in-Bin-Add-default-default.right) = search (rules, resolved_lemmas) in
    subst (λ xs. AreTerms c.args.table.now xs c.push_term.new.terms) (summed (target_of (place_back s c.args.target.now)) _ _ _ rs f h)
    (c.in_ok-push_term-in-Bin-Add-default-default.ensures [] (none_are c.args.table.now c.new-terms.result c.new-terms.ensures))

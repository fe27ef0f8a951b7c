use Rattle.std.proofs.Common.{rules, ap, sym, ◌∙◌}
use Rattle.resolved.specs.declared.resolved.ResolvedExpr.{the_lemmas as resolved_lemmas}
use Rattle.resolved.specs.ResolvedExprs.{expression_back, expressions_back}
use Rattle.split_trees.proofs.Parts.{two_of, two_within, two_kinded, more_taken, one_of}
use Rattle.made_growths.specs.declared.path.Path.{the_lemmas as path_lemmas}
use Rattle.made_growths.specs.Factors.{factors_on}
use Rattle.made_growths.proofs.Walking.{of_absolute, of_choice}
use Rattle.made_growths.proofs.growths.+growths.Goals as goal

pub push_arguments-push_walked-requires-in-len2 : goal.push_arguments-push_walked-requires-in-len2
push_arguments-push_walked-requires-in-len2 t c =
    let e = two_of c.args.args.now c.left-item.result c.right-item.result c.in-len2.len_at_least c.in-len2.len_below c.left-item.is c.right-item.is in
    let w = two_within _ c.args.args.now _ _ e c.requires.within in
    let k = two_kinded c.args.table.now c.args.fun c.args.args.now _ _ e c.requires.kinded in
    (search (rules, resolved_lemmas), (w.0, (k.1, search (rules, path_lemmas, w.0, w.1, k.1, k.2, c.requires.ready))))

pub push_arguments-push_walked-requires-in-len2-2 : goal.push_arguments-push_walked-requires-in-len2-2
push_arguments-push_walked-requires-in-len2-2 t c =
    let e = two_of c.args.args.now c.left-item.result c.right-item.result c.in-len2.len_at_least c.in-len2.len_below c.left-item.is c.right-item.is in
    let w = two_within _ c.args.args.now _ _ e c.requires.within in
    let k = two_kinded c.args.table.now c.args.fun c.args.args.now _ _ e c.requires.kinded in
    (search (rules, resolved_lemmas), (w.1, (k.2, search (rules, path_lemmas, w.0, w.1, k.1, k.2, c.requires.ready))))

pub push_arguments-unreachable-requires-in-len3-up : goal.push_arguments-unreachable-requires-in-len3-up
push_arguments-unreachable-requires-in-len3-up t c = more_taken c.args.table.now c.args.fun c.args.args.now c.requires.kinded c.in-len3-up.len_at_least

pub push_arguments-returns-in_ok-push_walked-in-len1 : goal.push_arguments-returns-in_ok-push_walked-in-len1
push_arguments-returns-in_ok-push_walked-in-len1 t c w os g h =
    let s = c.args.table.now in
    of_absolute s w os _ c.args.fun (expressions_back s.0 c.args.args.now) (expression_back s.0 c.only-item.result) c.args.negative (factors_on s.0 c.args.path.now) _ c.requires.kinded
    (one_of s.0 c.args.args.now c.only-item.result c.in-len1.len_at_least c.in-len1.len_below c.only-item.is) (search (rules, path_lemmas)) (c.in_ok-push_walked-in-len1.ensures w os g h)

pub push_arguments-returns-in_ok-push_walked-in-len2-2 : goal.push_arguments-returns-in_ok-push_walked-in-len2-2
push_arguments-returns-in_ok-push_walked-in-len2-2 t c w os g h =
    let s = c.args.table.now in
    let e = two_of c.args.args.now c.left-item.result c.right-item.result c.in-len2.len_at_least c.in-len2.len_below c.left-item.is c.right-item.is in
    of_choice s w os _ c.args.fun c.in-Some.op (expressions_back s.0 c.args.args.now) (expression_back s.0 c.left-item.result) (expression_back s.0 c.right-item.result) c.args.negative (factors_on s.0 c.args.path.now) _ _
    (sym c.relation_of.ensures ∙ c.in-Some.is) (ap (expressions_back s.0) e) (search (rules, path_lemmas)) (search (rules, path_lemmas))
    (c.in_ok-push_walked-in-len2-2.ensures w _ g (c.in_ok-push_walked-in-len2.ensures w os g h))

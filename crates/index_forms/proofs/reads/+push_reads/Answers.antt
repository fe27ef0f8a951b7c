use Rattle.std.proofs.Common.{rules, ◌≡◌, ℕ, suc, ◌+◌, [], ◌++◌, ap, ◌∙◌, drop, sym, subst, arith}
use Rattle.fl_ast.specs.declared.expr.Expr.{the_lemmas as expr_lemmas}
use Rattle.fl_ast.specs.Tree.{Expression, binary, Expressions, expr_tree, expr_trees, place_tree}
use Rattle.fl_types.specs.declared.access.AccessKind.TheVariants.{Read}
use Rattle.fl_types.specs.Accesses.{access, reads, reads_all}
use Rattle.index_forms.specs.Walk.{with_group}
use Rattle.index_forms.specs.Scenes.{setting_there, known_there}
use Rattle.index_forms.specs.Listed.{all_forms_seen}
use Rattle.index_forms.proofs.Groups.{rest_more, two_groups}
use Rattle.index_forms.proofs.reads.+push_reads.Goals as goal

pub push_all_reads-loop-i-preserved : goal.push_all_reads-loop-i-preserved
push_all_reads-loop-i-preserved t c =
    let s = setting_there c.args.scene.now in
    let k = known_there c.args.scene.now c.args.entries.now in
    let n : c.loop-i.i + 1 ≡ suc c.loop-i.i = omega arith in
    let hs = with_group s k (reads_all s.scope 0 [] (expr_trees c.args.exprs.now)) (all_forms_seen c.args.all.now) in
    subst (λ (i : ℕ). with_group s k (reads_all s.scope 0 [] (expr_trees (drop i c.args.exprs.now))) (all_forms_seen c.push_reads.new.all) ≡ hs) (sym n)
    (rest_more s k c.args.exprs.now c.loop-i.i c.index-exprs-i.result (all_forms_seen c.loop-i.all) (all_forms_seen c.push_reads.new.all) hs (omega arith) (sym c.index-exprs-i.is) c.in_ok-push_reads.ensures c.loop-i.invariant)

pub push_place_reads-returns : goal.push_place_reads-returns
push_place_reads-returns t c =
    let s = setting_there c.args.scene.now in
    let k = known_there c.args.scene.now c.args.entries.now in
    let p = c.args.place.now in
    let b : (place_tree p).subscripts ≡ expr_trees p.subscripts = search (rules, expr_lemmas) in
    let f = c.in_ok-push_all_reads.ensures ∙ ap (λ es. with_group s k (reads_all s.scope 0 [] (expr_trees es)) (all_forms_seen c.args.all.now)) c.as_slice.ensures in
    two_groups s k (reads_all s.scope 0 [] (expr_trees p.subscripts)) (access s.scope 0 [] Read (place_tree p)) (all_forms_seen c.args.all.now) _ _ f c.in_ok-push_access.ensures
    ∙ ap (λ (es : Expressions). with_group s k (reads_all s.scope 0 [] es ++ access s.scope 0 [] Read (place_tree p)) (all_forms_seen c.args.all.now)) (sym b)

pub push_reads-returns-in_ok-push_reads-in-Bin-2 : goal.push_reads-returns-in_ok-push_reads-in-Bin-2
push_reads-returns-in_ok-push_reads-in-Bin-2 t c =
    let s = setting_there c.args.scene.now in
    let k = known_there c.args.scene.now c.args.entries.now in
    let b : expr_tree c.args.expr.now ≡ binary c.in-Bin.op (expr_tree c.get-in-Bin.result.now) (expr_tree c.get-in-Bin-2.result.now) = search (rules, expr_lemmas) in
    two_groups s k (reads s.scope 0 [] (expr_tree c.get-in-Bin.result.now)) (reads s.scope 0 [] (expr_tree c.get-in-Bin-2.result.now)) (all_forms_seen c.args.all.now) _ _ c.in_ok-push_reads-in-Bin.ensures c.in_ok-push_reads-in-Bin-2.ensures
    ∙ ap (λ (e : Expression). with_group s k (reads s.scope 0 [] e) (all_forms_seen c.args.all.now)) (sym b)

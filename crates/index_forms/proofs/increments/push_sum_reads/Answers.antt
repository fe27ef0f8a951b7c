use Rattle.std.proofs.Common.{rules, ◌≡◌, sym, subst}
use Rattle.fl_ast.specs.declared.kind.BinOp.TheVariants.{Add}
use Rattle.fl_ast.specs.declared.expr.Expr.{the_lemmas as expr_lemmas}
use Rattle.fl_ast.specs.Tree.{Expression, binary, expr_tree, place_tree}
use Rattle.fl_types.specs.Increment.{target_of, first_of_sum}
use Rattle.index_forms.specs.Scenes.{setting_there, known_there}
use Rattle.index_forms.specs.Listed.{all_forms_seen}
use Rattle.index_forms.specs.Increments.{WithTerms}
use Rattle.index_forms.proofs.Terms.{sum_first}
use Rattle.index_forms.proofs.increments.push_sum_reads.Goals as goal

pub returns-in_ok-push_reads-in-Bin-Add-default-default : goal.returns-in_ok-push_reads-in-Bin-Add-default-default
returns-in_ok-push_reads-in-Bin-Add-default-default c =
    let s = setting_there c.args.scene.now in
    let k = known_there c.args.scene.now c.args.entries.now in
    let u = target_of (place_tree c.args.target.now) in
    let r = c.in-Bin-Add-default-default.right in
    let b : expr_tree c.args.value.now ≡ binary Add (expr_tree c.get.result.now) (expr_tree r) = search (rules, expr_lemmas) in
    subst (λ (x : Expression). WithTerms s k (first_of_sum u x) (all_forms_seen c.args.all.now) (all_forms_seen c.push_reads.new.all)) (sym b)
    (sum_first s k u (expr_tree c.get.result.now) (expr_tree r) (all_forms_seen c.args.all.now) (all_forms_seen c.push_reads.new.all) c.in_ok-push_reads-in-Bin-Add-default-default.ensures)

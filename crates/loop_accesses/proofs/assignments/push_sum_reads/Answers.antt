use Rattle.std.proofs.Common.{rules, ◌≡◌, sym, subst, map}
use Rattle.fl_ast.specs.declared.kind.BinOp.TheVariants.{Add}
use Rattle.fl_ast.specs.declared.expr.Expr.{the_lemmas as expr_lemmas}
use Rattle.fl_ast.specs.Tree.{Expression, binary, expr_tree, place_tree}
use Rattle.fl_types.specs.Increment.{target_of, first_of_sum}
use Rattle.loop_accesses.specs.Classes.{scope_by}
use Rattle.loop_accesses.specs.Terms.{WithTerms}
use Rattle.loop_accesses.specs.Views.{steps_of, occurrence_of}
use Rattle.loop_accesses.proofs.Terms.{sum_first}
use Rattle.loop_accesses.proofs.assignments.push_sum_reads.Goals as goal

pub returns-in_ok-push_reads-in-Bin-Add-default-default : goal.returns-in_ok-push_reads-in-Bin-Add-default-default
returns-in_ok-push_reads-in-Bin-Add-default-default c =
    let s = scope_by c.args.names.now in
    let k = steps_of c.args.path.now in
    let u = target_of (place_tree c.args.target.now) in
    let r = c.in-Bin-Add-default-default.right in
    let b : expr_tree c.args.value.now ≡ binary Add (expr_tree c.get.result.now) (expr_tree r) = search (rules, expr_lemmas) in
    subst (λ (x : Expression). WithTerms s c.args.line k (first_of_sum u x) (map occurrence_of c.args.found.now) (map occurrence_of c.push_reads.new.found)) (sym b)
    (sum_first s c.args.line k u (expr_tree c.get.result.now) (expr_tree r) (map occurrence_of c.args.found.now) (map occurrence_of c.push_reads.new.found) c.in_ok-push_reads-in-Bin-Add-default-default.ensures)

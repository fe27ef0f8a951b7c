use Rattle.std.proofs.Common.{rules, ◌≡◌, ℕ, suc, ◌+◌, ◌++◌, ap, ◌∙◌, drop, sym, subst, arith}
use Rattle.fl_ast.specs.declared.stmt.Stmt.{the_lemmas as stmt_lemmas}
use Rattle.fl_ast.specs.Tree.{Statements, stmt_trees, arm_tree, arm_trees}
use Rattle.index_ranges.specs.Ranges.{ranges_in, ranges_in_arms}
use Rattle.index_ranges.specs.Told.{ranges_told}
use Rattle.index_ranges.proofs.RangeLists.{stmts_more, arms_more}
use Rattle.index_ranges.proofs.range.+push_ranges.Goals as goal

pub push_ranges_in-loop-i-preserved : goal.push_ranges_in-loop-i-preserved
push_ranges_in-loop-i-preserved t c =
    let n : c.loop-i.i + 1 ≡ suc c.loop-i.i = omega arith in
    let all = ranges_told c.args.ranges.now ++ ranges_in (stmt_trees c.args.stmts.now) in
    subst (λ (i : ℕ). ranges_told c.push_ranges.new.ranges ++ ranges_in (stmt_trees (drop i c.args.stmts.now)) ≡ all) (sym n)
    (stmts_more c.args.stmts.now c.loop-i.i c.index-stmts-i.result (ranges_told c.loop-i.ranges) (ranges_told c.push_ranges.new.ranges) all (omega arith) (sym c.index-stmts-i.is) c.in_ok-push_ranges.ensures c.loop-i.invariant)

pub push_ranges_in_arms-loop-i-preserved : goal.push_ranges_in_arms-loop-i-preserved
push_ranges_in_arms-loop-i-preserved t c =
    let a = c.index-arms-i.result in
    let n : c.loop-i.i + 1 ≡ suc c.loop-i.i = omega arith in
    let all = ranges_told c.args.ranges.now ++ ranges_in_arms (arm_trees c.args.arms.now) in
    let b : (arm_tree a).1 ≡ stmt_trees a.body = search (rules, stmt_lemmas) in
    let e : ranges_told c.push_ranges_in.new.ranges ≡ ranges_told c.loop-i.ranges ++ ranges_in (arm_tree a).1 = c.in_ok-push_ranges_in.ensures ∙ ap (λ ss. ranges_told c.loop-i.ranges ++ ranges_in (stmt_trees ss)) c.as_slice.ensures ∙ ap (λ (ss : Statements). ranges_told c.loop-i.ranges ++ ranges_in ss) (sym b) in
    subst (λ (i : ℕ). ranges_told c.push_ranges_in.new.ranges ++ ranges_in_arms (arm_trees (drop i c.args.arms.now)) ≡ all) (sym n)
    (arms_more c.args.arms.now c.loop-i.i a (ranges_told c.loop-i.ranges) (ranges_told c.push_ranges_in.new.ranges) all (omega arith) (sym c.index-arms-i.is) e c.loop-i.invariant)

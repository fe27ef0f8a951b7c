use Rattle.std.proofs.Common.{rules, ◌≡◌, ℕ, suc, ◌+◌, ◌++◌, ap, ◌∙◌, drop, sym, subst, arith}
use Rattle.fl_ast.specs.declared.stmt.Stmt.{the_lemmas as stmt_lemmas}
use Rattle.fl_ast.specs.Tree.{Statements, stmt_trees, arm_tree, arm_trees}
use Rattle.index_forms.specs.Loops.{names_in, names_in_arms}
use Rattle.index_forms.proofs.WrittenNames.{stmts_more, arms_more}
use Rattle.index_forms.proofs.written.+push_names_by.Goals as goal

pub push_names_in-loop-i-preserved : goal.push_names_in-loop-i-preserved
push_names_in-loop-i-preserved t c =
    let n : c.loop-i.i + 1 ≡ suc c.loop-i.i = omega arith in
    let all = c.args.names.now ++ names_in c.args.targets (stmt_trees c.args.stmts.now) in
    subst (λ (i : ℕ). c.push_names_by.new.names ++ names_in c.args.targets (stmt_trees (drop i c.args.stmts.now)) ≡ all) (sym n)
    (stmts_more c.args.targets c.args.stmts.now c.loop-i.i c.index-stmts-i.result c.loop-i.names c.push_names_by.new.names all (omega arith) (sym c.index-stmts-i.is) c.in_ok-push_names_by.ensures c.loop-i.invariant)

pub push_names_in_arms-loop-i-preserved : goal.push_names_in_arms-loop-i-preserved
push_names_in_arms-loop-i-preserved t c =
    let a = c.index-arms-i.result in
    let n : c.loop-i.i + 1 ≡ suc c.loop-i.i = omega arith in
    let all = c.args.names.now ++ names_in_arms c.args.targets (arm_trees c.args.arms.now) in
    let b : (arm_tree a).1 ≡ stmt_trees a.body = search (rules, stmt_lemmas) in
    let e : c.push_names_in.new.names ≡ c.loop-i.names ++ names_in c.args.targets (arm_tree a).1 = c.in_ok-push_names_in.ensures ∙ ap (λ ss. c.loop-i.names ++ names_in c.args.targets (stmt_trees ss)) c.as_slice.ensures ∙ ap (λ (ss : Statements). c.loop-i.names ++ names_in c.args.targets ss) (sym b) in
    subst (λ (i : ℕ). c.push_names_in.new.names ++ names_in_arms c.args.targets (arm_trees (drop i c.args.arms.now)) ≡ all) (sym n)
    (arms_more c.args.targets c.args.arms.now c.loop-i.i a c.loop-i.names c.push_names_in.new.names all (omega arith) (sym c.index-arms-i.is) e c.loop-i.invariant)

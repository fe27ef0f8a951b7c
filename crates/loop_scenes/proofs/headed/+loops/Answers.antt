use Rattle.std.proofs.Common.{refl, map, ◌++◌, ◌∷◌, [], Option, Some, None, sym, ap, ◌∙◌}
use Rattle.std.proofs.lemmas.List.{map-append}
use Rattle.fl_ast.specs.declared.directive.Directive.{Directive}
use Rattle.fl_ast.specs.Tree.{Statement, loop, stmt_trees, arm_trees, expr_tree, step_tree}
use Rattle.loop_scenes.specs.Views.{names_around, headed_seen}
use Rattle.loop_scenes.specs.Loops.{loops_by, loops_by_all, loops_by_arms}
use Rattle.loop_scenes.proofs.Lists.{finished, one_more}
use Rattle.loop_scenes.proofs.Trees.{loop_of}
use Rattle.loop_scenes.proofs.headed.+loops.Goals as goal

pub push_loops_of_all-returns : goal.push_loops_of_all-returns
push_loops_of_all-returns t c =
    finished (λ ss. loops_by_all (names_around c.args.outer.now) (stmt_trees ss)) refl c.args.stmts.now c.loop-stmt.stmt-index (map headed_seen c.loop-stmt.loops) (map headed_seen c.args.loops.now) c.loop-stmt.invariant c.loop-stmt-test.false

pub push_loops_of_arms-returns : goal.push_loops_of_arms-returns
push_loops_of_arms-returns t c =
    finished (λ ss. loops_by_arms (names_around c.args.outer.now) (arm_trees ss)) refl c.args.arms.now c.loop-arm.arm-index (map headed_seen c.loop-arm.loops) (map headed_seen c.args.loops.now) c.loop-arm.invariant c.loop-arm-test.false

pub push_loops-returns-in_ok-push_loops_of_all-in-None : goal.push_loops-returns-in_ok-push_loops_of_all-in-None
push_loops-returns-in_ok-push_loops_of_all-in-None t c =
    let d = c.in-Do in
    let ys = c.as_slice-in-None.result.now in
    let u = loop_of c.args.stmt.now d.line d.number d.directive d.var d.first d.last d.step d.body ys d.is c.as_slice-in-None.ensures
    ∙ ap (λ (o : Option Directive). loop d.line d.number o d.var (expr_tree d.first) (expr_tree d.last) (step_tree d.step) (stmt_trees ys)) c.in-None.is in
    one_more None (loops_by_all (d.var ∷ names_around c.args.outer.now) (stmt_trees ys)) (map headed_seen c.args.loops.now) (map headed_seen c.push.new.self) (map headed_seen c.push_loops_of_all-in-None.new.loops)
    (ap (λ ls. map headed_seen ls) c.in_ok-push-in-None.ensures.ok ∙ map-append headed_seen c.args.loops.now (None ∷ [])) (c.in_ok-push_loops_of_all-in-None.ensures ∙ ap (λ ns. map headed_seen c.push.new.self ++ loops_by_all ns (stmt_trees ys)) c.inside-inner.ensures)
    ∙ ap (λ (v : Statement). map headed_seen c.args.loops.now ++ loops_by (names_around c.args.outer.now) v) (sym u)

pub push_loops-returns-in_ok-push_loops_of_all-in-Some : goal.push_loops-returns-in_ok-push_loops_of_all-in-Some
push_loops-returns-in_ok-push_loops_of_all-in-Some t c =
    let d = c.in-Do in
    let ys = c.as_slice-in-Some-2.result.now in
    let u = loop_of c.args.stmt.now d.line d.number d.directive d.var d.first d.last d.step d.body ys d.is c.as_slice-in-Some-2.ensures
    ∙ ap (λ (o : Option Directive). loop d.line d.number o d.var (expr_tree d.first) (expr_tree d.last) (step_tree d.step) (stmt_trees ys)) c.in-Some.is in
    one_more _ (loops_by_all (d.var ∷ names_around c.args.outer.now) (stmt_trees ys)) (map headed_seen c.args.loops.now) (map headed_seen c.push_parallel.new.loops) (map headed_seen c.push_loops_of_all-in-Some.new.loops)
    (c.in_ok-push_parallel-in-Some.ensures ∙ ap (λ b. map headed_seen c.args.loops.now
    ++ Some (record {
      head = record { line = d.line; var = d.var; first = expr_tree d.first; last = expr_tree d.last; step = step_tree d.step };
      loop = record { line = d.line; number = d.number; outer = names_around c.args.outer.now; directive = c.in-Some.directive; var = d.var; body = stmt_trees b };
    }) ∷ []) (c.as_slice-in-Some.ensures ∙ sym c.as_slice-in-Some-2.ensures)) (c.in_ok-push_loops_of_all-in-Some.ensures ∙ ap (λ ns. map headed_seen c.push_parallel.new.loops ++ loops_by_all ns (stmt_trees ys)) c.inside-inner.ensures)
    ∙ ap (λ (v : Statement). map headed_seen c.args.loops.now ++ loops_by (names_around c.args.outer.now) v) (sym u)

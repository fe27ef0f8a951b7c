use Rattle.std.proofs.Common.{ap, ◌++◌, ◌∙◌, refl, sym}
use Rattle.fl_ast.specs.Tree.{expr_tree}
use Rattle.fl_types.specs.Sharing.{has_name}
use Rattle.needed_names.proofs.Parts.{tree_of, read_parts, all_read_are, finished}
use Rattle.needed_names.proofs.Leaves.{on_ok, power_of, call_of, joined_reads, raised_reads, taken_reads, no_reads}
use Rattle.needed_names.proofs.reads.+reads.Goals as goal

pub push_all_reads-returns : goal.push_all_reads-returns
push_all_reads-returns t c =
    finished (read_parts c.args.decls.now (λ x. has_name x c.args.active.now.names) c.args.at.now) refl c.args.exprs.now c.loop-expr.expr-index c.loop-expr.nodes c.args.nodes.now c.loop-expr.invariant c.loop-expr-test.false
    ∙ ap (λ r. c.args.nodes.now ++ r) (all_read_are c.args.decls.now (λ x. has_name x c.args.active.now.names) c.args.at.now c.args.exprs.now)

pub push_reads-returns-then-not-is_taken : goal.push_reads-returns-then-not-is_taken
push_reads-returns-then-not-is_taken t c =
    no_reads c.args.decls.now (λ x. has_name x c.args.active.now.names) (expr_tree c.args.expr.now) c.in-Call.fun c.as_slice-args.result.now c.args.at.now c.args.nodes.now
    (call_of c.args.expr.now c.in-Call.fun c.in-Call.args c.as_slice-args.result.now c.in-Call.is c.as_slice-args.ensures) (sym c.if-not-is_taken.ensures)

pub push_reads-returns-in_ok-by_left-in-Bin : goal.push_reads-returns-in_ok-by_left-in-Bin
push_reads-returns-in_ok-by_left-in-Bin t c =
    on_ok c.push_reads-in-Bin-2.result
    (λ e. joined_reads c.args.decls.now (λ x. has_name x c.args.active.now.names) (expr_tree c.args.expr.now) c.in-Bin.op (expr_tree c.get-left.result.now) (expr_tree c.get-right.result.now)
    c.args.at.now c.as_slice.result.now c.as_slice-in-Bin.result.now c.args.nodes.now c.push_reads-in-Bin.new.nodes c.push_reads-in-Bin-2.new.nodes
    (tree_of c.args.expr.now c.in-Bin.op c.in-Bin.left c.in-Bin.right c.get-left.result.now c.get-right.result.now c.in-Bin.is c.get-left.ensures c.get-right.ensures)
    (sym c.if-is_division.ensures) (c.as_slice.ensures ∙ c.in_ok-by_right-in-Bin.ensures) (c.as_slice-in-Bin.ensures ∙ c.in_ok-by_left-in-Bin.ensures) c.in_ok-push_reads-in-Bin.ensures e)
    c.push_reads-in-Bin-2.ensures

pub push_reads-returns-in_ok-by_power-in-Pow : goal.push_reads-returns-in_ok-by_power-in-Pow
push_reads-returns-in_ok-by_power-in-Pow t c =
    on_ok c.push_reads-in-Pow.result
    (λ e. raised_reads c.args.decls.now (λ x. has_name x c.args.active.now.names) (expr_tree c.args.expr.now) (expr_tree c.get-base.result.now) c.in-Pow.exponent
    c.args.at.now c.as_slice-in-Pow.result.now c.args.nodes.now c.push_reads-in-Pow.new.nodes
    (power_of c.args.expr.now c.in-Pow.base c.get-base.result.now c.in-Pow.exponent c.in-Pow.is c.get-base.ensures)
    (c.as_slice-in-Pow.ensures ∙ c.in_ok-by_power-in-Pow.ensures) e)
    c.push_reads-in-Pow.ensures

pub push_reads-returns-in_ok-by_test-in-Call : goal.push_reads-returns-in_ok-by_test-in-Call
push_reads-returns-in_ok-by_test-in-Call t c =
    on_ok c.push_all_reads.result
    (λ e. taken_reads c.args.decls.now (λ x. has_name x c.args.active.now.names) (expr_tree c.args.expr.now) c.in-Call.fun c.as_slice-args.result.now
    c.args.at.now c.as_slice-in-Call.result.now c.args.nodes.now c.push_all_reads.new.nodes
    (call_of c.args.expr.now c.in-Call.fun c.in-Call.args c.as_slice-args.result.now c.in-Call.is c.as_slice-args.ensures)
    (sym c.if-not-is_taken.ensures) (c.as_slice-in-Call.ensures ∙ c.in_ok-by_test-in-Call.ensures) e)
    c.push_all_reads.ensures

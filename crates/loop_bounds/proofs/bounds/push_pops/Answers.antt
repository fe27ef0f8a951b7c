use Rattle.fl_ast.specs.Tree.{expr_tree}
use Rattle.fl_ast.specs.AdjointTree.{pop}
use Rattle.adjoint_rules.specs.OwnNames.{scalar, lo_name, hi_name, by_name}
use Rattle.loop_bounds.proofs.Three.{on_ok, three}
use Rattle.loop_bounds.proofs.bounds.push_pops.Goals as goal

pub returns : goal.returns
returns c =
    on_ok c.push-3.result
    (λ e. three c.args.statements.now c.push.new.self c.push-2.new.self c.push-3.new.self c.in_ok-popped.field-0 c.in_ok-popped-2.field-0 c.in_ok-popped-3.field-0
    (pop c.args.head.now.line (expr_tree c.args.key.now) (scalar (by_name c.args.head.now.number)))
    (pop c.args.head.now.line (expr_tree c.args.key.now) (scalar (hi_name c.args.head.now.number)))
    (pop c.args.head.now.line (expr_tree c.args.key.now) (scalar (lo_name c.args.head.now.number)))
    c.in_ok-push.ensures.ok c.in_ok-push-2.ensures.ok e c.in_ok-popped.ensures c.in_ok-popped-2.ensures c.in_ok-popped-3.ensures)
    c.push-3.ensures.ok
